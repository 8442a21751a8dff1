-- Generators of the words of a plan: its words are the sums of some of them, each sum once. Definition only.
use Rattle.std.specs.Prelude.{ℕ, ◌^◌, ◌<◌, ◌≡◌, List, get_or}
use Rattle.regular.specs.Runs.{Runs}
use Rattle.regular.specs.Words.{Word, Independent, total}

pub record Generators (n g : ℕ) (s : Runs) (ws : List ℕ) : Type 0 where
  pub within : (i : ℕ) → i < g → get_or ws i 0 < 2 ^ n
  pub independent : Independent g ws
  pub word : (t : ℕ) → 0 < t → t < 2 ^ g → Word n s (total ws g t)
  pub all : (w : ℕ) → Word n s w → (t : ℕ) × ((0 < t) × ((t < 2 ^ g) × (w ≡ total ws g t)))
