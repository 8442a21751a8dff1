-- What tables hold while they are filled: the two tables of span doubling, the marks of columns.
-- Definitions only.
use Rattle.std.specs.Prelude.{◌≡◌, ◌⊎◌, List, ℕ, ◌+◌, ◌<◌, length, get_or}
use Rattle.std.specs.Int.Bits.{bit_xor}
use Rattle.gf2.specs.Doubling.{Doubling}
use Rattle.standard.specs.Form.{DistinctNonzero}

-- sums holds F at each place below s, and places is its inverse: one more than the place of a number that is there, 0 for any other number
pub record SumsHeld (F : ℕ → ℕ) (s : ℕ) (sums places : List ℕ) : Type 0 where
  pub filled : (i : ℕ) → i < s → get_or sums i 0 ≡ F i
  pub back : (i : ℕ) → i < s → get_or places (F i) 0 ≡ i + 1
  pub only : (v i : ℕ) → get_or places v 0 ≡ i + 1 → (i < s) × (F i ≡ v)

-- F goes on from half to its double by the column c, and takes no number twice
pub record Doubles (F : ℕ → ℕ) (c half : ℕ) : Type 0 where
  pub next : (k : ℕ) → k < half → F (half + k) ≡ bit_xor (F k) c
  pub once : (i j : ℕ) → i < half + half → j < half + half → F i ≡ F j → i ≡ j

-- the two tables, at first s and p, with k sums more: a place in `places` is that of the last such sum, if it is one, and as it was if not.
-- So whatever F they held below half, they hold it below half + k
pub record SumsGrown (c half k : ℕ) (s p sums places : List ℕ) : Type 0 where
  pub doubling : Doubling c half k s sums
  pub wide : length places ≡ length p
  pub last : (i : ℕ) → i < k → ((j : ℕ) → i < j → j < k → bit_xor (get_or s j 0) c ≡ bit_xor (get_or s i 0) c → ⊥)
      → get_or places (bit_xor (get_or s i 0) c) 0 ≡ half + i + 1
  pub kept : (v : ℕ) → ((i : ℕ) → i < k → bit_xor (get_or s i 0) c ≡ v → ⊥) → get_or places v 0 ≡ get_or p v 0
  pub held : (F : ℕ → ℕ) → Doubles F c half → SumsHeld F half s p → SumsHeld F (half + k) sums places

-- seen marks 0 and the first f columns, and no other number; these columns are plain
pub record Seen (c : List ℕ) (f : ℕ) (seen : List ℕ) : Type 0 where
  pub size : length seen ≡ 128
  pub none : get_or seen 0 0 ≡ 0 → ⊥
  pub passed : (g : ℕ) → g < f → get_or seen (get_or c g 0) 0 ≡ 0 → ⊥
  pub only : (v : ℕ) → (get_or seen v 0 ≡ 0 → ⊥) → (v ≡ 0) ⊎ ((g : ℕ) × ((g < f) × (get_or c g 0 ≡ v)))
  pub distinct : DistinctNonzero f c
