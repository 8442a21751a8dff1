-- Refusal 7 on columns: a plan has a word of one or two letters exactly if a column is 0 or stands twice.
use Rattle.std.specs.Prelude.{◌≡◌, List, ℕ, ◌^◌, ◌<◌, get_or}
use Rattle.std.proofs.Common.{sym, ap, ap₂, ◌∙◌, arith, pow_pos}
use Rattle.std.proofs.Math.Logic.{by_cases}
use Rattle.std.proofs.Math.Decide.{ℕ_discrete, dec_le, dec_lt}
use Rattle.std.specs.Int.Bits.{bit_xor, xor_self}
use Rattle.std.proofs.lemmas.Nat.{xor_lt}
use Rattle.std.specs.Int.Count.{ones}
use Rattle.std.proofs.Math.Pow.{pow-lt}
use Rattle.gf2.specs.DigitLaws.{xor_none, pow_inj}
use Rattle.gf2.specs.Letters.{ones_unit, ones_pair, ones_some, ones_one, ones_two}
use Rattle.regular.specs.Columns.{Below, plan_of}
use Rattle.regular.specs.Refusals.{Short}
use Rattle.regular.specs.Runs.{Runs, Agree}
use Rattle.regular.specs.Words.{NoShort, total}
use Rattle.standard.specs.Form.{StandardFor, DistinctNonzero, Repeat}
use Rattle.standard.specs.Plans.{word_cancels, cancels_word}
use Rattle.standard.specs.Total.{total_unit, total_xor}
use Rattle.standard.specs.Units.{standard_below}
use Rattle.words.specs.Switches.{agree_sym, word_agree, short_agree}

-- the columns of two factors
total_pair : (c : List ℕ) (n f g : ℕ) → f < n → g < n → total c n (bit_xor (2 ^ f) (2 ^ g)) ≡ bit_xor (get_or c f 0) (get_or c g 0)
total_pair c n f g hf hg = total_xor c n (2 ^ f) (2 ^ g) ∙ ap₂ bit_xor (total_unit c f n hf) (total_unit c g n hg)

module _ (n m : ℕ) (c : List ℕ) where
  -- no set of one or two factors cancels in plain columns
  one_stays : DistinctNonzero n c → (w : ℕ) → w < 2 ^ n → ones w ≡ 1 → total c n w ≡ 0 → ⊥
  one_stays p w l e z =
      let r = ones_one n w l e in
      omega (arith, p.some r.0 r.1.0, sym (total_unit c r.0 n r.1.0) ∙ ap (total c n) (sym r.1.1) ∙ z)

  two_stay : DistinctNonzero n c → (w : ℕ) → w < 2 ^ n → ones w ≡ 2 → total c n w ≡ 0 → ⊥
  two_stay p w l e z =
      let r = ones_two n w l e in
      let f = r.first in
      let g = r.second in
      let same : get_or c f 0 ≡ get_or c g 0 = xor_none (get_or c f 0) (get_or c g 0)
      (sym (total_pair c n f g r.first_low r.second_low) ∙ ap (total c n) (sym r.sum) ∙ z) in
      by_cases (dec_lt f g)
      (λ h. p.once f g h r.second_low same)
      (λ h. by_cases (ℕ_discrete f g) r.apart (λ ne. p.once g f (omega arith) r.first_low (sym same)))

  pub distinct_words : Below n m c → DistinctNonzero n c → NoShort n 3 (plan_of n m c)
  distinct_words b p w h =
      let z = word_cancels n m c b w h in
      let l = h.within in
      by_cases (dec_le 3 (ones w)) (λ k. k)
      (λ k. by_cases (ℕ_discrete (ones w) 1)
      (λ e. absurd (one_stays p w l e z))
      (λ ne. absurd (two_stay p w l (omega (arith, ones_some n w h.some l)) z)))

  repeat_words : Repeat n c → Short n 3 (plan_of n m c)
  repeat_words (Repeat.none f h e) =
      record {
        word = 2 ^ f;
        is = cancels_word n m c (2 ^ f) (pow_pos f) (pow-lt {i = f} {j = n} h) (total_unit c f n h ∙ e);
        few = omega (arith, ones_unit f);
      }
  repeat_words (Repeat.twice f g h l e) =
      let w = bit_xor (2 ^ f) (2 ^ g) in
      let hf : f < n = omega arith in
      let some : 0 < w = by_cases (ℕ_discrete w 0) (λ z. absurd (omega (arith, pow_inj f g (xor_none (2 ^ f) (2 ^ g) z)))) (λ ne. omega arith) in
      record {
        word = w;
        is = cancels_word n m c w some (xor_lt n (2 ^ f) (2 ^ g) (pow-lt {i = f} {j = n} hf) (pow-lt {i = g} {j = n} l))
            (total_pair c n f g hf l ∙ ap (λ (x : ℕ). bit_xor x (get_or c g 0)) e ∙ xor_self (get_or c g 0));
        few = omega (arith, ones_pair f g);
      }

-- columns with the runs of s
module _ (n m : ℕ) (s : Runs) (c : List ℕ) (a : Agree s (plan_of n m c)) where
  distinct_no_short : Below n m c → DistinctNonzero n c → NoShort n 3 s
  distinct_no_short b p w h = distinct_words n m c b p w (word_agree n s (plan_of n m c) a w h)

  pub repeat_gives_short : Repeat n c → Short n 3 s
  repeat_gives_short r = short_agree n (plan_of n m c) s (agree_sym s (plan_of n m c) a) 3 (repeat_words n m c r)

-- standard columns
pub distinct_long : (n m : ℕ) (s : Runs) (a : List ℕ) → StandardFor n m s a → DistinctNonzero n a → NoShort n 3 s
distinct_long n m s a st p = distinct_no_short n m s a st.plan (standard_below n m a st.form) p

pub repeat_short : (n m : ℕ) (s : Runs) (a : List ℕ) → StandardFor n m s a → Repeat n a → Short n 3 s
repeat_short n m s a st r = repeat_gives_short n m s a st.plan r
