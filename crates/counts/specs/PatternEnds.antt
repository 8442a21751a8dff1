-- What of a pattern follows from its beginning. Document 000 found in catalogues that patterns which agree up to length M agree wholly, and conjectures it of
-- all plans of 128 runs and more. Here it is proved for up to one generator, where the number of words gives the last count.
use Rattle.std.proofs.Math.Logic.{by_cases}
use Rattle.std.specs.Prelude.{◌≡◌, refl, List, ℕ, zero, suc, ◌+◌, ◌-◌, ◌^◌, ◌≤◌, ◌<◌, get_or}
use Rattle.std.proofs.Common.{subst, ◌∙◌, arith}
use Rattle.std.proofs.Math.Decide.{dec_lt}
use Rattle.gf2.specs.Counts.{Count, count_unique}
use Rattle.regular.specs.Pattern.{Pattern, of_length, sum_to}
use Rattle.regular.specs.Runs.{Runs, Table, runs_of}
use Rattle.regular.specs.Words.{Word, NoShort}
use Rattle.counts.specs.Aberration.{below_agree}
use Rattle.counts.specs.Patterns.{pattern_words}
use Rattle.counts.specs.PlanCounts.{table_words}

-- patterns that agree up to length k have as many words up to it
agree_sum : (k : ℕ) (p q : List ℕ) → ((l : ℕ) → 1 ≤ l → l ≤ k → of_length p l ≡ of_length q l) → sum_to k p ≡ sum_to k q
unfolding sum_to
agree_sum zero p q same = refl
agree_sum (suc k) p q same =
    let e : suc k - 1 ≡ k = omega arith in
    let last : get_or p k 0 ≡ get_or q k 0 = subst (λ (i : ℕ). get_or p i 0 ≡ get_or q i 0) e (same (suc k) (omega arith) (omega arith)) in
    omega (arith, agree_sum k p q (λ l h less. same l h (omega arith)), last)

-- .. and where they have as many words up to the next, they agree there too
agree_next : (n : ℕ) (p q : List ℕ) → 1 ≤ n → sum_to n p ≡ sum_to n q → ((l : ℕ) → 1 ≤ l → l < n → of_length p l ≡ of_length q l)
    → of_length p n ≡ of_length q n
unfolding sum_to
agree_next zero p q some e same = absurd (omega arith)
agree_next (suc k) p q some e same =
    let next : get_or p k 0 ≡ get_or q k 0 = omega (arith, e, agree_sum k p q (λ l h less. same l h (omega arith))) in
    let back : k ≡ suc k - 1 = omega arith in
    subst (λ (i : ℕ). get_or p i 0 ≡ get_or q i 0) back next

module _ {n : ℕ} {t s : Runs} {p q : List ℕ} (of_t : Pattern n t p) (of_s : Pattern n s q) where
  as_many_words : (k : ℕ) → Count (Word n t) k → Count (Word n s) k → sum_to n p ≡ sum_to n q
  as_many_words k words-t words-s =
      count_unique (Word n t) (sum_to n p) k (pattern_words n t p of_t) words-t
      ∙ count_unique (Word n s) k (sum_to n q) words-s (pattern_words n s q of_s)

  -- in plans with as many words the count of all n letters follows from the others
  pub last_follows : (k : ℕ) → Count (Word n t) k → Count (Word n s) k → ((l : ℕ) → 1 ≤ l → l < n → of_length p l ≡ of_length q l)
      → (l : ℕ) → 1 ≤ l → l ≤ n → of_length p l ≡ of_length q l
  last_follows k words-t words-s same l some most =
      by_cases (dec_lt l n) (same l some)
      (λ last. let e : n ≡ l = omega arith in
      subst (λ (i : ℕ). of_length p i ≡ of_length q i) e (agree_next n p q (omega arith) (as_many_words k words-t words-s) same))

-- so for regular plans of up to one generator, without words below three letters, patterns that agree from length 3 up to M agree wholly
pub few_agree : (n m : ℕ) (t s p q : List ℕ) → Table n m t → Table n m s → n ≤ m + 1 → NoShort n 3 (runs_of t) → NoShort n 3 (runs_of s)
    → Pattern n (runs_of t) p → Pattern n (runs_of s) q → ((l : ℕ) → 3 ≤ l → l ≤ m → of_length p l ≡ of_length q l)
    → (l : ℕ) → 1 ≤ l → l ≤ n → of_length p l ≡ of_length q l
few_agree n m t s p q tab-t tab-s one long-t long-s of_t of_s same =
    last_follows of_t of_s (2 ^ (n - m) - 1) (table_words n m t tab-t) (table_words n m s tab-s)
    (λ l some less. by_cases (dec_lt l 3) (below_agree long-t long-s of_t of_s l some (omega arith)) (λ from. same l (omega arith) (omega arith)))
