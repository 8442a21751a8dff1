-- The array of the reduced words of standard columns, and what it is for the plan of the columns.
use Rattle.std.specs.Prelude.{◌≡◌, List, ℕ, ◌-◌, length, get_or}
use Rattle.regular.specs.Runs.{Runs}
use Rattle.standard.specs.Form.{StandardFor}
use Rattle.words.specs.Generators.{Generators}
use Rattle.words.specs.WordList.{words_to}
use Rattle.words.specs.ReducedUnique.{generators_generators}

-- the words of n standard columns a in 16 places, by rising last letter, zeros after them
pub record WordTable (n : ℕ) (a r : List ℕ) : Type 0 where
  pub places : length r ≡ 16
  pub word : (i : ℕ) → get_or r i 0 ≡ get_or (words_to a n) i 0

-- for columns in standard form with the runs of s
module _ (n m : ℕ) (s : Runs) (a r : List ℕ) (st : StandardFor n m s a) (t : WordTable n a r) where
  pub table_generators : Generators n (n - m) s r
  table_generators = generators_generators n m s a r st (λ i h. t.word i)
