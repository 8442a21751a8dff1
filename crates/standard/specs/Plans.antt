-- A set of factors is a word of a plan exactly if the columns of its factors cancel.
use Rattle.std.specs.Prelude.{◌≡◌, refl, List, ℕ, ◌^◌, ◌<◌}
use Rattle.std.proofs.Common.{sym, ap, ◌∙◌, pow_pos}
use Rattle.gf2.specs.Digits.{odd}
use Rattle.gf2.specs.Parity.{odd_zero_l, by_parity, odd_zero_r}
use Rattle.regular.specs.Columns.{run_of, plan_of, Below}
use Rattle.regular.specs.Words.{Word, total}
use Rattle.standard.specs.Runs.{run_zero, total_lt, odd_total}

-- a set of factors is a word of a plan exactly if its columns cancel
module _ (n m : ℕ) (c : List ℕ) where
  pub word_cancels : Below n m c → (w : ℕ) → Word n (plan_of n m c) w → total c n w ≡ 0
  word_cancels b w h =
      by_parity m (total c n w) 0 (total_lt c n m w b) (pow_pos m)
      (λ j l. odd_total c n j w ∙ h.constant (run_of c n j) (run_of c n 0) (j, (l, refl)) (0, (pow_pos m, refl))
      ∙ ap (λ (r : ℕ). odd r w) (run_zero c n) ∙ odd_zero_l w ∙ sym (odd_zero_r j))

  pub cancels_word : (w : ℕ) → 0 < w → w < 2 ^ n → total c n w ≡ 0 → Word n (plan_of n m c) w
  cancels_word w hw h e =
      let even : (x : ℕ) → plan_of n m c x → odd x w ≡ 0 = λ x p.
      ap (λ (r : ℕ). odd r w) p.1.1 ∙ sym (odd_total c n p.0 w) ∙ ap (odd p.0) e ∙ odd_zero_r p.0 in
      record { some = hw; within = h; constant = λ x y p q. even x p ∙ sym (even y q) }
