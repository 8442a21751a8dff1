-- Document 01's counts of words, for any regular plan: it has 2^G − 1 words and a pattern, which over lengths 1 to N sums to that.
use Rattle.std.specs.Prelude.{ℕ, ◌-◌, ◌^◌, ◌≡◌, List, get_or}
use Rattle.std.proofs.Common.{arith}
use Rattle.gf2.specs.Counts.{Count, count_same}
use Rattle.regular.specs.Accepted.{accepted_words_size, accepted_within, accepted_independent}
use Rattle.regular.specs.Pattern.{Pattern, sum_to}
use Rattle.regular.specs.Refusals.{Lowest, words_faults}
use Rattle.regular.specs.Runs.{Runs, Table, runs_of, switched}
use Rattle.regular.specs.Words.{Word, Generated}
use Rattle.standard.specs.Form.{StandardFor}
use Rattle.standard.specs.Model.{standard}
use Rattle.standard.proofs.FromTable.{table_standard}
use Rattle.words.proofs.FromWords.{words_standard}
use Rattle.words.specs.Model.{word_columns, pivots_at}
use Rattle.words.specs.WordList.{words_to}
use Rattle.words.specs.ReducedWords.{words_generators}
use Rattle.words.specs.Switches.{word_switched, word_switched_back, words_pattern, pattern_switched}
use Rattle.counts.specs.WordCounts.{word_count, generated_pattern}
use Rattle.counts.specs.Patterns.{pattern_sum}

-- a plan with standard columns
module _ (n m : ℕ) (s : Runs) (a : List ℕ) (st : StandardFor n m s a) where
  pub plan_words : Count (Word n s) (2 ^ (n - m) - 1)
  plan_words = word_count n (n - m) s (words_to a n) (words_generators n m s a st)

  pub plan_pattern : (p : List ℕ) × Pattern n s p
  plan_pattern = generated_pattern n (n - m) s (words_to a n) (words_generators n m s a st)

  pub plan_pattern_sum : (p : List ℕ) → Pattern n s p → sum_to n p ≡ 2 ^ (n - m) - 1
  plan_pattern_sum p h = pattern_sum n (n - m) s (words_to a n) p (words_generators n m s a st) h

-- the plan that words without a fault generate
pub accepted_pattern : (n g : ℕ) (ws : List ℕ) (signs : ℕ) → Lowest (words_faults n g ws signs) 0 → (p : List ℕ) × Pattern n (Generated n g ws) p
accepted_pattern n g ws signs l =
    let z = accepted_words_size n g ws signs l in
    plan_pattern n (n - g) (Generated n g ws) (word_columns (pivots_at ws n g) n)
    (words_standard n g ws z.most (omega (arith, z.less)) (accepted_within n g ws signs l) (accepted_independent n g ws signs l))

-- a plan whose columns are those of the plan with the factors in v switched
pub switched_words : (n m v : ℕ) (s : Runs) (a : List ℕ) → StandardFor n m (switched v s) a → Count (Word n s) (2 ^ (n - m) - 1)
switched_words n m v s a st =
    count_same (Word n (switched v s)) (Word n s) (2 ^ (n - m) - 1) (word_switched_back n v s) (word_switched n v s) (plan_words n m (switched v s) a st)

-- a regular table, in any order of runs, with any levels switched
module _ (n m : ℕ) (t : List ℕ) (tab : Table n m t) where
  abbrev plan : Runs
  plan = switched (get_or t 0 0) (runs_of t)

  pub table_words : Count (Word n (runs_of t)) (2 ^ (n - m) - 1)
  table_words = switched_words n m (get_or t 0 0) (runs_of t) (standard t n) (table_standard n m t tab)

  pub table_pattern : (p : List ℕ) × Pattern n (runs_of t) p
  table_pattern =
      let p = plan_pattern n m plan (standard t n) (table_standard n m t tab) in (p.0, pattern_switched n (get_or t 0 0) (runs_of t) p.0 p.1)

  pub table_pattern_sum : (p : List ℕ) → Pattern n (runs_of t) p → sum_to n p ≡ 2 ^ (n - m) - 1
  table_pattern_sum p h =
      plan_pattern_sum n m plan (standard t n) (table_standard n m t tab) p
      (words_pattern n (runs_of t) plan (word_switched n (get_or t 0 0) (runs_of t)) (word_switched_back n (get_or t 0 0) (runs_of t)) p h)
