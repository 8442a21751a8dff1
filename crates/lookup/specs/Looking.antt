-- Looking for a plan in a list, place by place: what a place looked at says, and one place more.
use Rattle.std.specs.Prelude.{◌≡◌, ℕ, ◌+◌, ◌<◌}
use Rattle.std.proofs.Common.{sym, subst, arith, add-one}
use Rattle.std.proofs.Math.Logic.{by_cases}
use Rattle.std.proofs.Math.Decide.{ℕ_discrete}
use Rattle.regular.specs.SmallestAnswers.{FirstPlace}

-- the first place so far: found before, or `place` if P
pub data Looked (found place : ℕ) (P : Type 0) : ℕ → Type 0 where
  before : 0 < found → Looked found place P found
  here : found ≡ 0 → P → Looked found place P place
  nowhere : found ≡ 0 → (P → ⊥) → Looked found place P 0

-- nothing looked at
pub look_none : (At : ℕ → Type 0) → FirstPlace (λ i. i < 0) At 0
look_none At = FirstPlace.absent (λ i h. absurd (omega arith))

-- one place more
pub look_more : (At : ℕ → Type 0) (i found r : ℕ) → FirstPlace (λ j. j < i) At found → Looked found (i + 1) (At i) r → FirstPlace (λ j. j < i + 1) At r
look_more At i found r (FirstPlace.absent none) (Looked.before h) = absurd (omega arith)
look_more At i found r (FirstPlace.absent none) (Looked.here e p) =
    subst (FirstPlace (λ j. j < i + 1) At) (sym (add-one i)) (FirstPlace.found i (omega arith) p none)
look_more At i found r (FirstPlace.absent none) (Looked.nowhere e p) =
    FirstPlace.absent (λ j h a. by_cases (ℕ_discrete j i) (λ q. p (subst At q a)) (λ ne. none j (omega arith) a))
look_more At i found r (FirstPlace.found k h p none) (Looked.before l) = FirstPlace.found k (omega arith) p none
look_more At i found r (FirstPlace.found k h p none) (Looked.here e _) = absurd (omega arith)
look_more At i found r (FirstPlace.found k h p none) (Looked.nowhere e _) = absurd (omega arith)

-- all of them
pub look_all : (There At : ℕ → Type 0) (i found : ℕ) → ((j : ℕ) → j < i → There j) → ((j : ℕ) → There j → j < i) → FirstPlace (λ j. j < i) At found
    → FirstPlace There At found
look_all There At i found into onto (FirstPlace.absent none) = FirstPlace.absent (λ j h. none j (onto j h))
look_all There At i found into onto (FirstPlace.found k h p none) = FirstPlace.found k (into k h) p none
