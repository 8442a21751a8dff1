-- The places of a list of numbers: members stand at places, and different numbers at different places.
use Rattle.std.specs.Prelude.{◌≡◌, refl, List, [], ◌∷◌, ℕ, zero, suc, ◌<◌, length, get_or}
use Rattle.std.proofs.Common.{sym, ap, subst, inl, inr, arith}
use Rattle.gf2.specs.Members.{In, Different}

pub place_in : (xs : List ℕ) (i : ℕ) → i < length xs → In (get_or xs i 0) xs
place_in [] i h = absurd (omega arith)
place_in (x ∷ xs) zero h = inl refl
place_in (x ∷ xs) (suc i) h = inr (place_in xs i (omega arith))

pub in_place : (xs : List ℕ) (x : ℕ) → In x xs → (i : ℕ) × ((i < length xs) × (x ≡ get_or xs i 0))
in_place [] x m = absurd m
in_place (y ∷ xs) x (inl e) = (0, (omega arith, e))
in_place (y ∷ xs) x (inr m) = let r = in_place xs x m in (suc r.0, (omega (arith, r.1.0), r.1.1))

-- different numbers: equal ones stand at one place
pub different_once : (xs : List ℕ) → Different xs → (i j : ℕ) → i < length xs → j < length xs → get_or xs i 0 ≡ get_or xs j 0 → i ≡ j
different_once [] d i j p q e = absurd (omega arith)
different_once (x ∷ xs) d zero zero p q e = refl
different_once (x ∷ xs) d zero (suc j) p q e = absurd (d.0 (subst (λ (y : ℕ). In y xs) (sym e) (place_in xs j (omega arith))))
different_once (x ∷ xs) d (suc i) zero p q e = absurd (d.0 (subst (λ (y : ℕ). In y xs) e (place_in xs i (omega arith))))
different_once (x ∷ xs) d (suc i) (suc j) p q e = ap suc (different_once xs d.1 i j (omega arith) (omega arith) e)

pub once_different : (xs : List ℕ) → ((i j : ℕ) → i < length xs → j < length xs → get_or xs i 0 ≡ get_or xs j 0 → i ≡ j) → Different xs
once_different [] h = tt
once_different (x ∷ xs) h = (
  (λ m. let r = in_place xs x m in let e : 0 ≡ suc r.0 = h 0 (suc r.0) (omega arith) (omega (arith, r.1.0)) r.1.1 in omega arith),
  once_different xs (λ i j p q e. let r : suc i ≡ suc j = h (suc i) (suc j) (omega arith) (omega arith) e in omega arith),
)
