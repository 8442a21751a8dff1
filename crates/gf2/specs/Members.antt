-- Members of a list of numbers, lists with no duplicate, and the pigeonhole law.
use Rattle.std.specs.Prelude.{◌≡◌, refl, ◌≢◌, ◌⊎◌, List, [], ◌∷◌, ℕ, suc, ◌≤◌, length}
use Rattle.std.proofs.Common.{sym, ap, subst, ◌∙◌, inl, inr, ⊎_elim, arith}
use Rattle.std.proofs.Math.Logic.{by_cases}
use Rattle.std.proofs.Math.Decide.{ℕ_discrete}

-- x is a member of the list
abbrev pub In : ℕ → List ℕ → Type 0
In x [] = ⊥
In x (y ∷ ys) = (x ≡ y) ⊎ In x ys

-- no two places of the list hold the same number
abbrev pub Different : List ℕ → Type 0
Different [] = Unit
Different (x ∷ xs) = (In x xs → ⊥) × Different xs

-- the list less the place at which x is found
abbrev pub without : (x : ℕ) (ys : List ℕ) → In x ys → List ℕ
without x [] m = []
without x (y ∷ ys) (inl e) = ys
without x (y ∷ ys) (inr m) = y ∷ without x ys m

without_length : (x : ℕ) (ys : List ℕ) (m : In x ys) → length ys ≡ suc (length (without x ys m))
without_length x [] m = absurd m
without_length x (y ∷ ys) (inl e) = refl
without_length x (y ∷ ys) (inr m) = ap suc (without_length x ys m)

pub without_keeps : (x : ℕ) (ys : List ℕ) (m : In x ys) (z : ℕ) → z ≢ x → In z ys → In z (without x ys m)
without_keeps x [] m z ne h = absurd m
without_keeps x (y ∷ ys) (inl e) z ne (inl f) = absurd (ne (f ∙ sym e))
without_keeps x (y ∷ ys) (inl e) z ne (inr h) = h
without_keeps x (y ∷ ys) (inr m) z ne (inl f) = inl f
without_keeps x (y ∷ ys) (inr m) z ne (inr h) = inr (without_keeps x ys m z ne h)

no_member : (ys : List ℕ) → length ys ≤ 0 → (z : ℕ) → In z ys → ⊥
no_member [] h z m = m
no_member (y ∷ ys) h z m = omega arith

-- distinct numbers, all of them in ys, and as many as ys has: each of ys is among them
pub pigeon : (xs ys : List ℕ) → Different xs → ((z : ℕ) → In z xs → In z ys) → length ys ≤ length xs → (z : ℕ) → In z ys → In z xs
pigeon [] ys d sub len z h = no_member ys len z h
pigeon (x ∷ xs) ys d sub len z h =
    let m : In x ys = sub x (inl refl) in
    by_cases (ℕ_discrete z x)
    (λ e. inl e)
    (λ ne. inr (pigeon xs (without x ys m) d.1
    (λ w k. without_keeps x ys m w (λ e. d.0 (subst (λ (v : ℕ). In v xs) e k)) (sub w (inr k)))
    (omega (arith, without_length x ys m)) z (without_keeps x ys m z ne h)))

-- a list repeats a number, or not
pub in_or_not : (x : ℕ) (ys : List ℕ) → In x ys ⊎ (In x ys → ⊥)
in_or_not x [] = inr (λ m. m)
in_or_not x (y ∷ ys) = by_cases (ℕ_discrete x y) (λ e. inl (inl e)) (λ ne. ⊎_elim (λ m. inl (inr m)) (λ h. inr (λ m. ⊎_elim ne h m)) (in_or_not x ys))

pub different_or_not : (xs : List ℕ) → Different xs ⊎ (Different xs → ⊥)
different_or_not [] = inl tt
different_or_not (x ∷ xs) =
    ⊎_elim (λ m. inr (λ d. d.0 m))
    (λ h. ⊎_elim (λ d. inl (h, d)) (λ n. inr (λ d. n d.1)) (different_or_not xs))
    (in_or_not x xs)
