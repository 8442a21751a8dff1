-- The columns read off the pivot words are the standard columns of the plan that the words generate: for independent words.
use Rattle.std.specs.Prelude.{List, get_or}
use Rattle.std.proofs.Common.{arith}
use Prim.Native.Nat.{ℕ, ◌-◌, ◌^◌, ◌≤◌, ◌<◌}
use Rattle.regular.specs.Words.{Generated, Independent}
use Rattle.standard.specs.Form.{StandardFor}
use Rattle.words.specs.Model.{word_columns, pivots_at}
use Rattle.words.proofs.Pivots.{eliminates}
use Rattle.words.specs.FromWords.{pivots_words}

pub words_standard : (n g : ℕ) (ws : List ℕ) → n ≤ 16 → g ≤ n → ((i : ℕ) → i < g → get_or ws i 0 < 2 ^ n) → Independent g ws
    → StandardFor n (n - g) (Generated n g ws) (word_columns (pivots_at ws n g) n)
words_standard n g ws hn hg hw ind = pivots_words n g ws (pivots_at ws n g) hg (eliminates n g ws hn hw ind g (omega arith))
