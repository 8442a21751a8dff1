-- What the inner functions of the crate answer: tables of products and of letter counts. Definitions only.
use Rattle.std.specs.Prelude.{ℕ, suc, ◌^◌, ◌≤◌, ◌<◌, ◌≡◌, List, length, get_or}
use Rattle.counts.specs.Tally.{tally}
use Rattle.regular.specs.Words.{letters, total}

-- the products of the first g words, that of the words at the bits of t at place t
pub record Products (g : ℕ) (ws sums : List ℕ) : Type 0 where
  pub places : length sums ≡ 2048
  pub product : (t : ℕ) → t < 2 ^ g → get_or sums t 0 ≡ total ws g t

-- how many of the first k numbers of a list have i letters, at place i of 17
pub record LettersCounted (k : ℕ) (xs counts : List ℕ) : Type 0 where
  pub places : length counts ≡ 17
  pub count : (i : ℕ) → i ≤ 16 → get_or counts i 0 ≡ tally (λ j. letters (get_or xs j 0)) k i

-- the counts of the lengths 1 to k from those of 0 to 16, and 0 past them
pub record FromOne (k : ℕ) (counts p : List ℕ) : Type 0 where
  pub places : length p ≡ 16
  pub same : (i : ℕ) → i < k → get_or p i 0 ≡ get_or counts (suc i) 0
  pub unused : (i : ℕ) → k ≤ i → get_or p i 0 ≡ 0
