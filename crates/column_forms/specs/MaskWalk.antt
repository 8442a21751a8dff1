-- The walk over columns that clears a run at their units, one after the other: what holds after f of them, and its steps.
use Rattle.std.specs.Prelude.{◌≡◌, List, ℕ, suc, ◌+◌, ◌-◌, ◌*◌, ◌%◌, ◌^◌, ◌≤◌, ◌<◌, get_or}
use Rattle.std.proofs.Common.{sym, ap, ap₂, ◌∙◌, subst, add-one, arith}
use Rattle.std.proofs.Math.Logic.{by_cases}
use Rattle.std.proofs.Math.Decide.{ℕ_discrete}
use Rattle.std.specs.Int.Bits.{bit_xor, xor_zero_r}
use Rattle.std.proofs.lemmas.Nat.{xor_lt}
use Rattle.gf2.specs.Digits.{bit}
use Rattle.gf2.specs.DigitLaws.{bit_xor_lem, bit_own, bit_other, xor_assoc, pow_twice}
use Rattle.gf2.specs.Parity.{odd_bit}
use Rattle.regular.specs.Columns.{run_of}
use Rattle.standard.specs.Form.{units_before}
use Rattle.standard.specs.Runs.{run_bit, run_xor, run_zero}
use Rattle.standard.specs.Units.{units_zero, units_mono, units_next, units_stay}
use Rattle.signs.specs.Masks.{MaskOf}

-- d of the first f columns are units, and the next would be `unit`; the mask is x and a run of those d, and their factors are high
pub record MaskWalk (n : ℕ) (c : List ℕ) (f d unit x mask : ℕ) : Type 0 where
  pub count : units_before c f ≡ d
  pub size : unit ≡ 2 ^ d
  pub most : d ≤ f
  pub run : ℕ
  pub below : run < 2 ^ d
  pub is : mask ≡ bit_xor x (run_of c n run)
  pub high : (g : ℕ) → g < f → get_or c g 0 ≡ 2 ^ units_before c g → bit g mask ≡ 0

pub mask_none : (n : ℕ) (c : List ℕ) (x : ℕ) → MaskWalk n c 0 0 1 x x
mask_none n c x =
    record {
      count = units_zero c;
      size = omega arith;
      most = omega arith;
      run = 0;
      below = omega arith;
      is = sym (ap (bit_xor x) (run_zero c n) ∙ xor_zero_r x);
      high = λ g h. absurd (omega arith);
    }

-- all columns are passed
pub mask_all : (n : ℕ) (c : List ℕ) (f d unit x mask : ℕ) → f ≡ n → MaskWalk n c f d unit x mask → MaskOf n c x mask
mask_all n c f d unit x mask e w =
    record {
      run = w.run;
      below = subst (λ (k : ℕ). w.run < 2 ^ k) (sym w.count ∙ ap (units_before c) e) w.below;
      is = w.is;
      high = λ g h. w.high g (omega arith);
    }

-- a run taken no times, or once
pub xor_none_of : (x y b : ℕ) → b ≡ 0 → bit_xor x (y * b) ≡ x
xor_none_of x y b e = let p : y * 0 ≡ 0 = omega arith in ap (λ (k : ℕ). bit_xor x (y * k)) e ∙ ap (bit_xor x) p ∙ xor_zero_r x

pub xor_one_of : (x y b : ℕ) → b < 2 → (b ≡ 0 → ⊥) → bit_xor x (y * b) ≡ bit_xor x y
xor_one_of x y b h ne =
    let e : b ≡ 1 = omega arith in
    let p : y * 1 ≡ y = omega arith in
    ap (λ (k : ℕ). bit_xor x (y * k)) e ∙ ap (bit_xor x) p

-- a unit before another is a lesser one
units_less : (c : List ℕ) (g f : ℕ) → g < f → get_or c g 0 ≡ 2 ^ units_before c g → units_before c g < units_before c f
units_less c g f h u =
    let e : (f - suc g) + suc g ≡ f = omega arith in
    omega (arith, units_next c g u, units_mono c (suc g) (f - suc g), ap (units_before c) e)

module _ (n : ℕ) (c : List ℕ) (f d unit x mask : ℕ) (w : MaskWalk n c f d unit x mask) (z : ℕ) (is : z ≡ get_or c f 0) where
  unit_is : unit ≡ 2 ^ units_before c f
  unit_is = w.size ∙ ap (λ (k : ℕ). 2 ^ k) (sym w.count)

  -- the next column is no unit
  pub mask_stay : (z ≡ unit → ⊥) → MaskWalk n c (f + 1) d unit x mask
  mask_stay ne =
      let other : get_or c f 0 ≡ 2 ^ units_before c f → ⊥ = λ u. ne (is ∙ u ∙ sym unit_is) in
      record {
        count = rw (add-one f) (units_stay c f other ∙ w.count);
        size = w.size;
        most = omega (arith, w.most);
        run = w.run;
        below = w.below;
        is = w.is;
        high = λ g h u. by_cases (ℕ_discrete g f)
            (λ e. absurd (other (subst (λ (i : ℕ). get_or c i 0 ≡ 2 ^ units_before c i) e u)))
            (λ before. w.high g (omega arith) u);
      }

  -- it is one: its factor is high, by the run of this unit if it was low
  module _ (h : f < n) (e : z ≡ unit) where
    at : get_or c f 0 ≡ 2 ^ units_before c f
    at = sym is ∙ e ∙ unit_is

    -- the level of a factor of the unit k in the run of this unit
    level_at : (g k : ℕ) → g < n → get_or c g 0 ≡ 2 ^ k → bit g (run_of c n (2 ^ d)) ≡ bit d (2 ^ k)
    level_at g k l v = run_bit c n (2 ^ d) g l ∙ odd_bit d (get_or c g 0) ∙ ap (bit d) v

    one_more : (v run : ℕ) → run < 2 ^ (d + 1) → v ≡ bit_xor x (run_of c n run) → bit f v ≡ 0
        → ((g : ℕ) → g < f → get_or c g 0 ≡ 2 ^ units_before c g → bit g v ≡ 0) → MaskWalk n c (f + 1) (d + 1) (unit + unit) x v
    one_more v run below by here before =
        record {
          count = rw (add-one f) (units_next c f at ∙ ap (λ (k : ℕ). k + 1) w.count);
          size = pow_twice d unit w.size;
          most = omega (arith, w.most);
          run = run;
          below = below;
          is = by;
          high = λ g l u. by_cases (ℕ_discrete g f) (λ q. ap (λ (i : ℕ). bit i v) q ∙ here) (λ ne. before g (omega arith) u);
        }

    was_high : bit f mask ≡ 0 → MaskWalk n c (f + 1) (d + 1) (unit + unit) x mask
    was_high q = one_more mask w.run (omega (arith, w.below, pow_twice d (2 ^ d) (ap (λ (k : ℕ). 2 ^ k) (omega arith)))) w.is q w.high

    was_low : bit f mask ≡ 1 → MaskWalk n c (f + 1) (d + 1) (unit + unit) x (bit_xor mask (run_of c n (2 ^ d)))
    was_low q =
        let y = run_of c n (2 ^ d) in
        let k = w.run in
        let twice = pow_twice d unit w.size in
        one_more (bit_xor mask y) (bit_xor k (2 ^ d))
        (xor_lt (d + 1) k (2 ^ d) (omega (arith, w.below, w.size)) (omega (arith, w.size, w.below)))
        (ap (λ (v : ℕ). bit_xor v y) w.is ∙ xor_assoc x (run_of c n k) y ∙ ap (bit_xor x) (sym (run_xor c n k (2 ^ d))))
        (bit_xor_lem f mask y ∙ ap₂ (λ (a b : ℕ). (a + b) % 2) q (level_at f (units_before c f) h at ∙ ap (λ (i : ℕ). bit d (2 ^ i)) w.count ∙ bit_own d))
        (λ g l u.
        let less = units_less c g f l u in
        bit_xor_lem g mask y ∙ ap₂ (λ (a b : ℕ). (a + b) % 2) (w.high g l u)
        (level_at g (units_before c g) (omega arith) u ∙ bit_other d (units_before c g) (λ p. omega (arith, w.count))))

    pub mask_next : (v : ℕ) → v ≡ bit_xor mask (run_of c n (2 ^ d) * bit f mask) → MaskWalk n c (f + 1) (d + 1) (unit + unit) x v
    mask_next v by =
        let y = run_of c n (2 ^ d) in
        by_cases (ℕ_discrete (bit f mask) 0)
        (λ q. subst (MaskWalk n c (f + 1) (d + 1) (unit + unit) x) (sym (by ∙ xor_none_of mask y (bit f mask) q)) (was_high q))
        (λ ne.
        let q : bit f mask ≡ 1 = omega arith in
        subst (MaskWalk n c (f + 1) (d + 1) (unit + unit) x) (sym (by ∙ xor_one_of mask y (bit f mask) (omega arith) ne)) (was_low q))
