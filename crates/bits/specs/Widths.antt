-- Unsigned numbers of some width as numbers: a list of them is a list of numbers, place by place.
use Rattle.std.proofs.lemmas.List.{get_or_default}
use Rattle.std.specs.Prelude.{◌≡◌, refl, List, ℕ, ◌<◌, length, get_or, set}

pub record AsNumbers {T : Type 0} (number : T → ℕ) (numbers : List T → List ℕ) : Type 0 where
  pub size : (xs : List T) → length (numbers xs) ≡ length xs
  pub place : (xs : List T) (i : ℕ) (d : T) → i < length xs → get_or (numbers xs) i 0 ≡ number (get_or xs i d)
  pub put : (xs : List T) (i : ℕ) (x : T) → numbers (set xs i x) ≡ set (numbers xs) i (number x)

-- unsigned integers are numbers already
pub own : AsNumbers (λ (x : ℕ). x) (λ (xs : List ℕ). xs)
own = record { size = λ xs. refl; place = λ xs i d h. get_or_default xs i 0 d h; put = λ xs i x. refl }
