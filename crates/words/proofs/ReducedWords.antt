-- Words to columns to words gives the reduced words of the same plan.
use Rattle.std.specs.Prelude.{◌≡◌, List, ℕ, ◌-◌, ◌^◌, ◌≤◌, ◌<◌, get_or}
use Rattle.std.proofs.Common.{subst, arith}
use Rattle.regular.specs.Words.{Generated, Independent, Reduced}
use Rattle.words.specs.Model.{word_columns, pivots_at}
use Rattle.words.proofs.FromWords.{words_standard}
use Rattle.words.specs.WordList.{words_to}
use Rattle.words.specs.ReducedWords.{reduced_words_lem}

-- words to columns to words: the reduced words of the plan that the words generate
pub words_columns_words : (n g : ℕ) (vs : List ℕ) → n ≤ 16 → g ≤ n → ((i : ℕ) → i < g → get_or vs i 0 < 2 ^ n) → Independent g vs
    → Reduced n g (Generated n g vs) (words_to (word_columns (pivots_at vs n g) n) n)
words_columns_words n g vs hn hg hw ind =
    let a = word_columns (pivots_at vs n g) n in
    let e : n - (n - g) ≡ g = omega arith in
    subst (λ (k : ℕ). Reduced n k (Generated n g vs) (words_to a n)) e (reduced_words_lem n (n - g) (Generated n g vs) a (words_standard n g vs hn hg hw ind))
