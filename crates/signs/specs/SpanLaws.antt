-- Which factors a mask may switch, with columns of any rank: those whose column is the exclusive-or of some columns before it. So 5 is judged before 6.
use Rattle.std.specs.Prelude.{ℕ, suc, ◌+◌, ◌*◌, ◌%◌, ◌^◌, ◌<◌, ◌≡◌, List, get_or}
use Rattle.std.proofs.Common.{sym, ap, ap₂, ◌∙◌, arith, mod-lt, pow-suc}
use Rattle.std.specs.Int.Bits.{bit_xor, xor_self}
use lib.Pow.{pow_pos, pow_mono, split}
use Rattle.gf2.specs.DigitLaws.{xor_none}
use Rattle.regular.specs.Columns.{plan_of, Basic, Below}
use Rattle.regular.specs.Words.{total}
use Rattle.standard.specs.Plans.{word_cancels, cancels_word}
use Rattle.standard.specs.Total.{total_next, total_more}

module _ (n m : ℕ) (c : List ℕ) (b : Below n m c) (f : ℕ) (h : f < n) where
  -- the columns of factor f and of some before it
  last_total : (r : ℕ) → r < 2 ^ f → total c n (1 * 2 ^ f + r) ≡ bit_xor (total c f r) (get_or c f 0 * 1)
  last_total r l =
      let up = pow-suc 2 f in
      total_more c (suc f) n (1 * 2 ^ f + r) h (omega arith) ∙ total_next c f 1 r (omega arith) l

  once : get_or c f 0 * 1 ≡ get_or c f 0
  once = omega arith

  -- the column of a factor that is the last letter of no word is no such exclusive-or
  pub basic_apart : Basic n (plan_of n m c) f → (r : ℕ) → r < 2 ^ f → total c f r ≡ get_or c f 0 → ⊥
  basic_apart basic r l e =
      let w = 1 * 2 ^ f + r in
      let up = pow-suc 2 f in
      let big = pow_mono {i = suc f} {j = n} h in
      let pos = pow_pos f in
      basic w (cancels_word n m c w (omega arith) (omega arith) (last_total r l ∙ ap₂ bit_xor e once ∙ xor_self (get_or c f 0))) (lib.Pow.high 1 f l)

  -- .. and only such a factor's
  pub apart_basic : ((r : ℕ) → r < 2 ^ f → total c f r ≡ get_or c f 0 → ⊥) → Basic n (plan_of n m c) f
  apart_basic apart w word last =
      let r = w % 2 ^ f in
      let l = mod-lt w (pow_pos f) in
      let is : 1 * 2 ^ f + r ≡ w = ap (λ (d : ℕ). d * 2 ^ f + r) (sym last) ∙ split w f in
      apart r l (xor_none (total c f r) (get_or c f 0)
      (ap (bit_xor (total c f r)) (sym once) ∙ sym (last_total r l) ∙ ap (total c n) is ∙ word_cancels n m c b w word))
