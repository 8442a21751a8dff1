-- The walk over the factors of a set of runs that is closed under exclusive-or: what holds after f of them.
use Rattle.std.specs.Prelude.{◌≡◌, ◌⊎◌, Bool, true, false, eqb}
use Rattle.std.proofs.Math.Path.{refl, sym, ap₂}
use Rattle.std.proofs.Common.{ap, ◌∙◌, subst, inl, inr, ⊎_elim, mod-lt, one-add, eqb-true, eq-eqb, pow_pos, shr_lt}
use Rattle.std.proofs.Math.Logic.{by_cases}
use mathlib.Core.List.{List, [], ◌∷◌}
use Prim.Native.Nat.{ℕ, zero, suc, ◌+◌, ◌*◌, ◌/◌, ◌%◌, ◌^◌, ◌≤◌, ◌<◌}
use Rattle.std.proofs.Math.Nat.{mod-eq_of_lt}
use native.Mathlib.Omega.{arith}
use Rattle.std.proofs.Math.Decide.{ℕ_discrete}
use Rattle.std.specs.Int.Bits.{bit_xor, xor_mod, xor_self, xor_zero_r}
use Rattle.std.proofs.Math.Pow.{split}
use Rattle.std.proofs.Math.ListN.{length}
use Rattle.gf2.specs.DigitLaws.{bit_xor_lem}
use Rattle.gf2.specs.Digits.{bit, odd, pick}
use Rattle.gf2.specs.Lists.{some_or_all}
use Rattle.gf2.specs.Members.{In}
use Rattle.gf2.specs.Parity.{number_of, number_lt, linear_is_odd, odd_keep, odd_fresh}
use Rattle.gf2.specs.Truth.{and_both, clash}
use Rattle.standard.specs.Coordinates.{coord_lt, coord_xor}
use Rattle.standard.specs.Model.{coord_of, fits_all, first_from, first_fit, column_at}

-- column k gives factor f its level in every run of u
abbrev pub ColumnFits : List ℕ → List ℕ → ℕ → ℕ → Type 0
ColumnFits bs u f k = (x : ℕ) → In x u → bit f x ≡ odd (coord_of bs x) k

pub fits_all_lem : (bs u : List ℕ) (f k : ℕ) → fits_all bs u f k ≡ true → ColumnFits bs u f k
unfolding fits_all
fits_all_lem bs [] f k e x m = absurd m
fits_all_lem bs (y ∷ u) f k e x (inl p) =
    rw p (eqb-true _ _ (and_both (eqb (bit f y) (odd (coord_of bs y) k)) (fits_all bs u f k) e).0)
fits_all_lem bs (y ∷ u) f k e x (inr m) = fits_all_lem bs u f k (and_both (eqb (bit f y) (odd (coord_of bs y) k)) (fits_all bs u f k) e).1 x m

all_fits : (bs u : List ℕ) (f k : ℕ) → ColumnFits bs u f k → fits_all bs u f k ≡ true
unfolding fits_all
all_fits bs [] f k h = refl
all_fits bs (y ∷ u) f k h = rw (eq-eqb _ _ (h y (inl refl))) (all_fits bs u f k (λ x m. h x (inr m)))

-- r is the first of k, .., e - 1 that fits, or e if none does
abbrev pub FirstFit : List ℕ → List ℕ → ℕ → ℕ → ℕ → ℕ → Type 0
FirstFit bs u f k e r =
    ((r ≡ e) × ((i : ℕ) → k ≤ i → i < e → fits_all bs u f i ≡ false)) ⊎ ((r < e) × (fits_all bs u f r ≡ true))

first_at : (bs u : List ℕ) (f fuel k : ℕ) (t : Bool) (r : ℕ) → fits_all bs u f k ≡ t → FirstFit bs u f (suc k) (suc k + fuel) r
    → FirstFit bs u f k (k + suc fuel) (pick t k r)
first_at bs u f fuel k true r e h = inr (omega arith, e)
first_at bs u f fuel k false r e h =
    ⊎_elim
    (λ o. inl (omega (arith, o.0), λ i p q. by_cases (ℕ_discrete i k) (λ s. rw s e) (λ ne. o.1 i (omega arith) (omega arith))))
    (λ o. inr (omega (arith, o.0), o.1))
    h

first_is : (bs u : List ℕ) (f fuel k : ℕ) → FirstFit bs u f k (k + fuel) (first_from bs u f fuel k)
unfolding first_from
first_is bs u f zero k = inl (omega arith, λ i p q. absurd (omega arith))
first_is bs u f (suc fuel) k = first_at bs u f fuel k (fits_all bs u f k) (first_from bs u f fuel (suc k)) refl (first_is bs u f fuel (suc k))

pub first_fit_lem : (bs u : List ℕ) (f : ℕ) → FirstFit bs u f 0 (2 ^ length bs) (first_fit bs u f)
first_fit_lem bs u f =
    let e : 0 + 2 ^ length bs ≡ 2 ^ length bs = omega arith in
    subst (λ (n : ℕ). FirstFit bs u f 0 n (first_fit bs u f)) e (first_is bs u f (2 ^ length bs) 0)

-- every choice of levels of the basic factors occurs
abbrev pub Onto : List ℕ → List ℕ → Type 0
Onto bs u = (j : ℕ) → j < 2 ^ length bs → (x : ℕ) × (In x u × (coord_of bs x ≡ j))

-- one more basic factor
pub fits_keep : (bs u : List ℕ) (p f k : ℕ) → k < 2 ^ length bs → ColumnFits bs u f k → ColumnFits (p ∷ bs) u f k
unfolding coord_of
fits_keep bs u p f k h fit x m = fit x m ∙ sym (odd_keep (length bs) (bit p x) (coord_of bs x) k (coord_lt bs x) h)

pub fits_fresh : (bs u : List ℕ) (f : ℕ) → ColumnFits (f ∷ bs) u f (2 ^ length bs)
unfolding coord_of
fits_fresh bs u f x m = sym (odd_fresh (length bs) (bit f x) (coord_of bs x) (omega arith) (coord_lt bs x))

module _ (u : List ℕ) (closed : (x y : ℕ) → In x u → In y u → In (bit_xor x y) u) where
  -- f's level hangs on those of the basics: then some column fits
  module _ (bs : List ℕ) (f : ℕ) (onto : Onto bs u) (hangs : (x : ℕ) → In x u → coord_of bs x ≡ 0 → bit f x ≡ 0) where
    same_level : (x y : ℕ) → In x u → In y u → coord_of bs x ≡ coord_of bs y → bit f x ≡ bit f y
    same_level x y p q e =
        let z : coord_of bs (bit_xor x y) ≡ 0 = coord_xor bs x y ∙ ap (λ (c : ℕ). bit_xor c (coord_of bs y)) e ∙ xor_self (coord_of bs y) in
        let h : (bit f x + bit f y) % 2 ≡ 0 = sym (bit_xor_lem f x y) ∙ hangs (bit_xor x y) (closed x y p q) z in
        omega arith

    lift : (j : ℕ) → (x : ℕ) × (In x u × (coord_of bs x ≡ j % 2 ^ length bs))
    lift j = onto (j % 2 ^ length bs) (mod-lt j (pow_pos (length bs)))

    level : ℕ → ℕ
    level j = bit f (lift j).0

    level_lt : (j : ℕ) → level j < 2
    unfolding level
    level_lt j = omega arith

    level_lin : (a b : ℕ) → level (bit_xor a b) ≡ (level a + level b) % 2
    unfolding level
    level_lin a b =
        same_level (lift (bit_xor a b)).0 (bit_xor (lift a).0 (lift b).0) (lift (bit_xor a b)).1.0 (closed _ _ (lift a).1.0 (lift b).1.0)
        ((lift (bit_xor a b)).1.1 ∙ xor_mod a b (length bs) ∙ sym (ap₂ bit_xor (lift a).1.1 (lift b).1.1) ∙ sym (coord_xor bs (lift a).0 (lift b).0))
        ∙ bit_xor_lem f (lift a).0 (lift b).0

    some_fits : (k : ℕ) × ((k < 2 ^ length bs) × ColumnFits bs u f k)
    unfolding level
    some_fits =
        let k = number_of (length bs) level in (
          k,
          (
            number_lt (length bs) level level_lt,
            λ x m.
                let c = coord_of bs x in
                let e : coord_of bs (lift c).0 ≡ c = (lift c).1.1 ∙ mod-eq_of_lt (coord_lt bs x) in
                same_level x (lift c).0 m (lift c).1.0 (sym e)
                ∙ linear_is_odd (length bs) level level_lt level_lin c (coord_lt bs x),
          ),
        )

  -- a run with f low and all basics high: then f is basic
  module _ (bs : List ℕ) (f z : ℕ) (onto : Onto bs u) (mz : In z u) (cz : coord_of bs z ≡ 0) (bz : bit f z ≡ 1) where
    reach : (d c : ℕ) → d < 2 → c < 2 ^ length bs → (x : ℕ) × (In x u × (coord_of (f ∷ bs) x ≡ d * 2 ^ length bs + c))
    unfolding coord_of
    reach d c hd hc =
        let o = onto c hc in
        let x = o.0 in
        by_cases (ℕ_discrete (bit f x) d)
        (λ e. (x, (o.1.0, ap₂ (λ (a b : ℕ). a * 2 ^ length bs + b) e o.1.1)))
        (λ ne.
        let e1 : bit f (bit_xor x z) ≡ d = bit_xor_lem f x z ∙ omega arith in
        let e2 : coord_of bs (bit_xor x z) ≡ c = coord_xor bs x z ∙ ap₂ bit_xor o.1.1 cz ∙ xor_zero_r c in
        (bit_xor x z, (closed x z o.1.0 mz, ap₂ (λ (a b : ℕ). a * 2 ^ length bs + b) e1 e2)))

    onto_more : Onto (f ∷ bs) u
    onto_more j h =
        let l = length bs in
        let g : j < 2 ^ (1 + l) = subst (λ (e : ℕ). j < 2 ^ e) (sym (one-add l)) h in
        let r = reach (j / 2 ^ l) (j % 2 ^ l) (shr_lt 1 l g) (mod-lt j (pow_pos l)) in
        (r.0, (r.1.0, r.1.1 ∙ split j l))

  -- where nothing fits, f is basic
  pub onto_next : (bs : List ℕ) (f : ℕ) → Onto bs u → ((i : ℕ) → i < 2 ^ length bs → fits_all bs u f i ≡ false) → Onto (f ∷ bs) u
  onto_next bs f onto none =
      ⊎_elim
      (λ r. onto_more bs f r.0 onto r.1.0 r.1.1.0 r.1.1.1)
      (λ h.
      let s = some_fits bs f onto h in
      let p : fits_all bs u f s.0 ≡ true = all_fits bs u f s.0 s.1.1 in
      let q = none s.0 s.1.0 in
      absurd (clash p q))
      (some_or_all (λ (x : ℕ). (coord_of bs x ≡ 0) × (bit f x ≡ 1)) (λ (x : ℕ). coord_of bs x ≡ 0 → bit f x ≡ 0) u
      (λ x. by_cases (ℕ_discrete (coord_of bs x) 0)
      (λ e. by_cases (ℕ_discrete (bit f x) 0) (λ d. inr (λ w. d)) (λ ne. inl (e, omega arith)))
      (λ ne. inr (λ e. absurd (ne e)))))

-- what holds of the basics among the first f factors
pub record After (u bs : List ℕ) (f : ℕ) : Type 0 where
  pub small : length bs ≤ f
  pub onto : Onto bs u
  pub fits : (g : ℕ) → g < f → (column_at u g < 2 ^ length bs) × ColumnFits bs u g (column_at u g)

-- the next factor, by whether its column is the next unit
pub record NextFactor (u : List ℕ) (f : ℕ) (bs bs2 : List ℕ) : Type 0 where
  pub column_le : column_at u f ≤ 2 ^ length bs
  pub units : length bs2 ≡ length bs + pick (eqb (column_at u f) (2 ^ length bs)) 1 0
  pub after : After u bs2 (suc f)
