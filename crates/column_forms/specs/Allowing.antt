-- Columns of any rank: their words are those of the standard columns that the walk found, and so are their basic factors. A mask is allowed with
-- them exactly if it has no bit past factor n and clearing it at the units changes nothing.
use Rattle.std.specs.Prelude.{◌≡◌, true, false, List, ℕ, ◌^◌, ◌≤◌, ◌<◌, eqb}
use Rattle.std.proofs.Common.{sym, ap, ◌∙◌, arith, eqb-true, pow_mono}
use Rattle.std.proofs.Math.Logic.{by_cases}
use Rattle.std.proofs.Math.Decide.{dec_lt}
use Rattle.std.proofs.lemmas.Bool.{eqb-false}
use Rattle.gf2.specs.Answers.{Tells, tells_yes, tells_no}
use Rattle.gf2.specs.Digits.{bit, odd}
use Rattle.gf2.specs.DigitLaws.{bit_none, bit_over}
use Rattle.gf2.specs.Parity.{by_parity}
use Rattle.regular.specs.Columns.{run_of, plan_of, Below, Allowed}
use Rattle.regular.specs.Runs.{Runs}
use Rattle.regular.specs.Words.{Word, total}
use Rattle.standard.specs.Form.{StandardForm, StandardFor}
use Rattle.standard.specs.Plans.{word_cancels, cancels_word}
use Rattle.standard.specs.Runs.{total_lt, odd_total}
use Rattle.standard.specs.Total.{total_none}
use Rattle.standard.specs.Units.{standard_below}
use Rattle.words.specs.Standards.{standard_own, unit_basic, basic_unit}
use Rattle.signs.specs.Masks.{MaskOf}
use Rattle.signs.specs.MaskLaws.{allowed_within, mask_fixed}
use Rattle.column_forms.specs.Basis.{run_through}
use Rattle.column_forms.specs.Walk.{ColumnWalk, WalkEnded, basis_independent, basis_below}

-- the mask 0, and one that reaches past factor n
pub allows_none : (n : ℕ) (s : Runs) (mask : ℕ) → mask ≡ 0 → Tells true (Allowed n s mask) (Allowed n s mask → ⊥)
allows_none n s mask e = tells_yes (Allowed n s mask) (Allowed n s mask → ⊥) (λ f b. ap (bit f) e ∙ bit_none f)

pub allows_past : (n : ℕ) (s : Runs) (mask : ℕ) → mask < 2 ^ 16 → 2 ^ n ≤ mask → Tells false (Allowed n s mask) (Allowed n s mask → ⊥)
allows_past n s mask l h =
    tells_no (Allowed n s mask) (Allowed n s mask → ⊥) (λ allowed. omega (arith, allowed_within n s mask l allowed))

module _ (n m : ℕ) (c : List ℕ) (half : ℕ) (a : List ℕ) (below : Below n m c) (o : WalkEnded n m c half a) where
  abbrev w : ColumnWalk n m c n half o.sums o.places a
  w = o.walk

  abbrev r : ℕ
  r = w.rank

  form : StandardForm n r a
  form = record { next = w.next; units = w.units }

  -- the basis takes a sum of standard columns to that of the columns
  total_through : (v : ℕ) → total c n v ≡ total w.basis r (total a n v)
  total_through v =
      let t = w.basis in
      by_parity m (total c n v) (total t r (total a n v)) (total_lt c n m v below)
      (total_lt t r m (total a n v) (basis_below n m c n half o.sums o.places a w below))
      (λ j l. odd_total c n j v ∙ ap (λ (x : ℕ). odd x v) (run_through t r a c n j (λ f h. (w.column f h).1))
      ∙ sym (odd_total a n (run_of t r j) v) ∙ sym (odd_total t r j (total a n v)))

  word_into : (v : ℕ) → Word n (plan_of n m c) v → Word n (plan_of n r a) v
  word_into v h =
      cancels_word n r a v h.some h.within
      (basis_independent n m c n half o.sums o.places a w (total a n v) (total_lt a n r v (standard_below n r a form))
      (sym (total_through v) ∙ word_cancels n m c below v h))

  word_onto : (v : ℕ) → Word n (plan_of n r a) v → Word n (plan_of n m c) v
  word_onto v h =
      cancels_word n m c v h.some h.within
      (total_through v ∙ ap (total w.basis r) (word_cancels n r a (standard_below n r a form) v h) ∙ total_none w.basis r)

  abbrev own : StandardFor n r (plan_of n r a) a
  own = standard_own n r a form

  module _ (mask v : ℕ) (cleared : MaskOf n a mask v) where
    fixed_allowed : mask < 2 ^ n → v ≡ mask → Allowed n (plan_of n m c) mask
    fixed_allowed within e f b =
        by_cases (dec_lt f n)
        (λ h. ap (bit f) (sym e) ∙ cleared.high f h (basic_unit n r (plan_of n r a) a own f h (λ x word last. b x (word_onto x word) last)))
        (λ h. bit_over f mask (omega (arith, pow_mono {i = n} {j = f} (omega arith))))

    changed_barred : (v ≡ mask → ⊥) → Allowed n (plan_of n m c) mask → ⊥
    changed_barred ne allowed =
        ne (mask_fixed n a mask v cleared
        (λ f h u. allowed f (λ x word last. unit_basic n r (plan_of n r a) a own f h u x (word_into x word) last)))

    pub allows_cleared : mask < 2 ^ n → Tells (eqb v mask) (Allowed n (plan_of n m c) mask) (Allowed n (plan_of n m c) mask → ⊥)
    allows_cleared within = ((λ e. fixed_allowed within (eqb-true v mask e)), (λ e. changed_barred (eqb-false v mask e)))
