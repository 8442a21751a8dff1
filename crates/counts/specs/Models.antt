-- Pattern, resolution and distance counts as functions that compute: what the code's contracts cite. Definitions only.
-- That they are the pattern, the resolution and the distance counts of document 01 is proved in WordCounts, Resolutions and Distances.
use Rattle.std.specs.Prelude.{ℕ, zero, suc, ◌^◌, ◌≤◌, ◌<◌, ◌≡◌, List, eqb, get_or}
use Rattle.gf2.specs.Digits.{pick}
use Rattle.regular.specs.Pattern.{of_length}
use Rattle.regular.specs.Words.{letters, total}
use Rattle.counts.specs.Tally.{tally}

-- how many products of the first g words have l letters
abbrev pub products : ℕ → List ℕ → ℕ → ℕ
products g ws l = tally (λ t. letters (total ws g t)) (2 ^ g) l

-- p has the number of products of each length from 1 to n, and 0 past them
pub record PatternModel (n g : ℕ) (ws p : List ℕ) : Type 0 where
  pub counts : (l : ℕ) → 1 ≤ l → l ≤ n → of_length p l ≡ products g ws l
  pub unused : (i : ℕ) → n ≤ i → get_or p i 0 ≡ 0

-- the first length of 1 to n with a count above 0, or n + 1
unfoldable pub first_length : ℕ → List ℕ → ℕ
first_length zero p = 1
first_length (suc n) p = let r = first_length n p in pick (eqb r (suc n)) (pick (eqb (get_or p n 0) 0) (suc r) r) r

-- d has at place i, from 0 to n, the number of runs of i low levels among the first `end`, and 0 past them
pub record DistanceModel (n end : ℕ) (runs d : List ℕ) : Type 0 where
  pub counts : (i : ℕ) → i ≤ n → get_or d i 0 ≡ tally (λ j. letters (get_or runs j 0)) end i
  pub unused : (i : ℕ) → n < i → get_or d i 0 ≡ 0
