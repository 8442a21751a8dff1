-- Tests that compute, and what a passed test says: every test of a list, every number below k, no value 0 but the first, lists alike, the members
-- of a list that pass.
use Rattle.std.specs.Prelude.{◌≡◌, ◌⊎◌, Bool, ◌&&◌, ℕ, zero, suc, ◌-◌, ◌<◌, eqb, ltb}
use Rattle.std.proofs.Math.Path.{refl, ap, subst}
use Rattle.std.proofs.Common.{sym, ap₂, ◌∙◌, arith, eqb-true, ltb-true}
use Rattle.std.proofs.Math.Logic.{inl, inr, ⊎_elim, by_cases}
use Rattle.std.proofs.Math.Bool.{true, false}
use Rattle.std.proofs.lemmas.Bool.{false≢true}
use mathlib.Core.List.{List, [], ◌∷◌}
use Rattle.std.proofs.Math.Decide.{ℕ_discrete}
use Rattle.gf2.specs.Members.{In, Different}
use Rattle.gf2.specs.Truth.{and_both}
use Rattle.standard.specs.Model.{choose}

-- every test of a list passes
abbrev pub every : List Bool → Bool
every [] = true
every (b ∷ bs) = b && every bs

abbrev pub Passed : List Bool → Type 0
Passed [] = Unit {0}
Passed (b ∷ bs) = (b ≡ true) × Passed bs

pub passed : (bs : List Bool) → every bs ≡ true → Passed bs
passed [] e = tt
passed (b ∷ bs) e = let r = and_both b (every bs) e in (r.0, passed bs r.1)

-- the test passes at every number below k
unfoldable pub below : (ℕ → Bool) → ℕ → Bool
below t zero = true
below t (suc k) = t k && below t k

pub below_at : (t : ℕ → Bool) (k : ℕ) → below t k ≡ true → (i : ℕ) → i < k → t i ≡ true
unfolding below
below_at t zero e i h = absurd (omega arith)
below_at t (suc k) e i h =
    let b = and_both (t k) (below t k) e in
    by_cases (ℕ_discrete i k) (λ q. ap t q ∙ b.0) (λ ne. below_at t k b.1 i (omega arith))

-- u and v have the same values below k
abbrev pub agree : (ℕ → ℕ) → (ℕ → ℕ) → ℕ → Bool
agree u v = below (λ i. eqb (u i) (v i))

pub agree_at : (u v : ℕ → ℕ) (k : ℕ) → agree u v k ≡ true → (i : ℕ) → i < k → u i ≡ v i
agree_at u v k e i h = eqb-true (u i) (v i) (below_at (λ j. eqb (u j) (v j)) k e i h)

-- below k only 0 has the value 0
abbrev pub only_zero : (ℕ → ℕ) → ℕ → Bool
only_zero v k = below (λ i. ltb 0 (v (suc i))) (k - 1)

pub only_zero_lem : (v : ℕ → ℕ) (k : ℕ) → only_zero v k ≡ true → (i : ℕ) → i < k → v i ≡ 0 → i ≡ 0
only_zero_lem v k e zero h z = refl
only_zero_lem v k e (suc i) h z = absurd (omega (arith, ltb-true 0 (v (suc i)) (below_at (λ j. ltb 0 (v (suc j))) (k - 1) e i (omega arith))))

-- two lists have the same members, by a test of these, in the same order
unfoldable pub alike : {A : Type 0} → (A → A → Bool) → List A → List A → Bool
alike t [] [] = true
alike t [] (y ∷ ys) = false
alike t (x ∷ xs) [] = false
alike t (x ∷ xs) (y ∷ ys) = t x y && alike t xs ys

pub alike_is : {A : Type 0} (t : A → A → Bool) → ((x y : A) → t x y ≡ true → x ≡ y) → (xs ys : List A) → alike t xs ys ≡ true → xs ≡ ys
unfolding alike
alike_is t sound [] [] e = refl
alike_is t sound [] (y ∷ ys) e = absurd (false≢true e)
alike_is t sound (x ∷ xs) [] e = absurd (false≢true e)
alike_is t sound (x ∷ xs) (y ∷ ys) e = let b = and_both (t x y) (alike t xs ys) e in ap₂ ◌∷◌ (sound x y b.0) (alike_is t sound xs ys b.1)

-- the members of a list that pass
unfoldable pub those : (ℕ → Bool) → List ℕ → List ℕ
those t [] = []
those t (x ∷ xs) = choose (t x) (x ∷ those t xs) (those t xs)

module _ (t : ℕ → Bool) where
  pub those_in : (xs : List ℕ) (z : ℕ) → In z xs → t z ≡ true → In z (those t xs)
  unfolding those
  those_in [] z m e = m
  those_in (x ∷ xs) z (inl q) e = subst (λ (b : Bool). In z (choose b (x ∷ those t xs) (those t xs))) (sym (ap t (sym q) ∙ e)) (inl q)
  those_in (x ∷ xs) z (inr m) e = more (t x) (those_in xs z m e)
    where
      more : (b : Bool) → In z (those t xs) → In z (choose b (x ∷ those t xs) (those t xs))
      more true m = inr m
      more false m = m

  pub those_of : (xs : List ℕ) (z : ℕ) → In z (those t xs) → In z xs × (t z ≡ true)
  unfolding those
  those_of [] z m = absurd m
  those_of (x ∷ xs) z m = ⊎_elim (λ p. (inl p.0, p.1)) (λ p. let r = those_of xs z p in (inr r.0, r.1)) (last (t x) refl m)
    where
      last : (b : Bool) → t x ≡ b → In z (choose b (x ∷ those t xs) (those t xs)) → ((z ≡ x) × (t z ≡ true)) ⊎ In z (those t xs)
      last true e (inl q) = inl (q, ap t q ∙ e)
      last true e (inr m) = inr m
      last false e m = inr m

  pub those_different : (xs : List ℕ) → Different xs → Different (those t xs)
  unfolding those
  those_different [] d = tt
  those_different (x ∷ xs) d = more (t x) (those_different xs d.1)
    where
      more : (b : Bool) → Different (those t xs) → Different (choose b (x ∷ those t xs) (those t xs))
      more true e = ((λ m. d.0 (those_of xs x m).0), e)
      more false e = e
