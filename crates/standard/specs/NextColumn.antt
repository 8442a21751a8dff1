-- Columns with one more, v, set at place f: the columns before it and their units stay; what holds of each.
use Rattle.std.specs.Prelude.{◌≡◌, List, ℕ, ◌+◌, ◌^◌, ◌≤◌, ◌<◌, eqb, length, get_or, set}
use Rattle.std.proofs.Common.{sym, ◌∙◌, subst, add-one, arith, get_or-set_same, get_or-set_other}
use Rattle.std.proofs.Math.Path.{ap, ap₂}
use Rattle.gf2.specs.Digits.{pick}
use Rattle.gf2.specs.Fill.{each_place}
use Rattle.standard.specs.Form.{units_before}
use Rattle.standard.specs.Units.{units_same}

module _ (a : List ℕ) (f v : ℕ) where
  pub set_units : (g : ℕ) → g ≤ f → units_before (set a f v) g ≡ units_before a g
  set_units g h = units_same (set a f v) a g (λ i l. get_or-set_other a f i v 0 (λ e. omega arith))

  module _ (l : f < length a) where
    pub set_column : (P : ℕ → ℕ → Type 0) → P f v → ((g : ℕ) → g < f → P g (get_or a g 0)) → (g : ℕ) → g < f + 1 → P g (get_or (set a f v) g 0)
    set_column P new old = each_place a f v l (λ i x. i < f + 1 → P i x) (λ _. new) (λ i ne h. old i (omega arith))

    -- no column is past the next unit
    pub set_next : v ≤ 2 ^ units_before a f → ((g : ℕ) → g < f → get_or a g 0 ≤ 2 ^ units_before a g) → (g : ℕ) → g < f + 1
        → get_or (set a f v) g 0 ≤ 2 ^ units_before (set a f v) g
    set_next hv next g h =
        subst (λ (k : ℕ). get_or (set a f v) g 0 ≤ 2 ^ k) (sym (set_units g (omega arith))) (set_column (λ i x. x ≤ 2 ^ units_before a i) hv next g h)

    -- one unit more if v is the next
    pub units_more : (k : ℕ) → units_before a f ≡ k → units_before (set a f v) (f + 1) ≡ k + pick (eqb v (2 ^ k)) 1 0
    unfolding units_before
    units_more k e =
        ap (units_before (set a f v)) (add-one f)
        ∙ ap₂ (λ (x u : ℕ). u + pick (eqb x (2 ^ u)) 1 0) (get_or-set_same a f v 0 l) (set_units f (omega arith) ∙ e)
