-- Laws of the pattern (word-length pattern): over lengths 1 to n it sums to the number of words, and the definition fixes it.
use Rattle.std.specs.Prelude.{◌≡◌, ◌⊎◌, List}
use Rattle.std.proofs.Common.{subst}
use Rattle.std.proofs.Math.Logic.{inl, inr, ⊎_elim, by_cases}
use Prim.Native.Nat.{ℕ, zero, suc, ◌+◌, ◌-◌, ◌^◌, ◌≤◌}
use native.Mathlib.Omega.{arith}
use Rattle.std.proofs.Math.Decide.{ℕ_discrete}
use Rattle.std.proofs.lemmas.Nat.{ones-le}
use Rattle.std.proofs.Math.ListN.{get_or}
use Rattle.gf2.specs.Counts.{Count, count_same, count_unique}
use Rattle.regular.specs.Pattern.{Pattern, sum_to, of_length}
use Rattle.regular.specs.Runs.{Runs}
use Rattle.regular.specs.Words.{Word, letters}
use Rattle.words.specs.Generators.{Generators}
use Rattle.counts.specs.Counting.{count_none, count_or}
use Rattle.counts.specs.WordCounts.{letters_some, word_count}

-- a word has 1 to n letters
pub word_some : (n : ℕ) (s : Runs) (w : ℕ) → Word n s w → 1 ≤ letters w
word_some n s w h = letters_some w h.some

pub word_most : (n : ℕ) (s : Runs) (w : ℕ) → Word n s w → letters w ≤ n
word_most n s w h = ones-le n w h.within

module _ (n : ℕ) (s : Runs) (p : List ℕ) (pat : Pattern n s p) where
  -- the words of at most k letters
  words_to_lem : (k : ℕ) → k ≤ n → Count (λ w. Word n s w × (letters w ≤ k)) (sum_to k p)
  unfolding sum_to
  words_to_lem zero h = count_none (λ w. Word n s w × (letters w ≤ 0)) (λ w q. omega (arith, word_some n s w q.0, q.1))
  words_to_lem (suc k) h =
      let e : suc k - 1 ≡ k = omega arith in
      count_same (λ w. (Word n s w × (letters w ≤ k)) ⊎ (Word n s w × (letters w ≡ suc k))) (λ w. Word n s w × (letters w ≤ suc k)) (sum_to k p + get_or p k 0)
      (λ w q. ⊎_elim (λ a. (a.0, omega (arith, a.1))) (λ a. (a.0, omega (arith, a.1))) q)
      (λ w q. let l = q.1 in by_cases (ℕ_discrete (letters w) (suc k)) (λ e. inr (q.0, e)) (λ ne. inl (q.0, omega arith)))
      (count_or (λ w. Word n s w × (letters w ≤ k)) (λ w. Word n s w × (letters w ≡ suc k)) (sum_to k p) (get_or p k 0)
      (λ w a b. omega (arith, a.1, b.1))
      (words_to_lem k (omega arith))
      (subst (λ (i : ℕ). Count (λ w. Word n s w × (letters w ≡ suc k)) (get_or p i 0)) e (pat.counts (suc k) (omega arith) h)))

  -- the pattern sums to the number of words
  pub pattern_words : Count (Word n s) (sum_to n p)
  pattern_words =
      count_same (λ w. Word n s w × (letters w ≤ n)) (Word n s) (sum_to n p) (λ w q. q.0) (λ w q. (q, word_most n s w q)) (words_to_lem n (omega arith))

-- that is 2^g - 1
pub pattern_sum : (n g : ℕ) (s : Runs) (ws p : List ℕ) → Generators n g s ws → Pattern n s p → sum_to n p ≡ 2 ^ g - 1
pattern_sum n g s ws p gen pat = count_unique (Word n s) (sum_to n p) (2 ^ g - 1) (pattern_words n s p pat) (word_count n g s ws gen)

-- one pattern
pub pattern_unique : (n : ℕ) (s : Runs) (p q : List ℕ) → Pattern n s p → Pattern n s q → (l : ℕ) → 1 ≤ l → l ≤ n → of_length p l ≡ of_length q l
pattern_unique n s p q a b l h k = count_unique (λ w. Word n s w × (letters w ≡ l)) (of_length p l) (of_length q l) (a.counts l h k) (b.counts l h k)
