-- The choice between two lists of words, taken without signs, is that of the minimum aberration criterion as document 000 prints it, whatever the number
-- of runs (document 02, request 3): what the calls promise of less aberration they promise of the criterion. And if neither of two plans is preferred,
-- they have one pattern.
use Rattle.std.specs.Prelude.{List, ◌≡◌, ℕ, ◌-◌, ◌≤◌}
use Rattle.std.proofs.Common.{inl, inr, arith}
use Rattle.std.specs.Borrow.{Bor}
use Rattle.regular.specs.Accepted.{accepted_long}
use Rattle.regular.specs.Given.{of_words}
use Rattle.regular.specs.Measures.{ChoosesLess, HandsBackLess}
use Rattle.regular.specs.Pattern.{Pattern, LessAberration, AberrationCriterion, of_length}
use Rattle.regular.specs.RefusalLaws.{lowest_none, none_lowest}
use Rattle.regular.specs.Refusals.{either, Lowest, words_faults, Chooses, HandsBack}
use Rattle.regular.specs.Words.{Generated, Fraction, NoShort}
use Rattle.words.specs.Switches.{pattern_agree, no_short_agree}
use Rattle.counts.specs.Aberration.{less_criterion, criterion_less, neither_agree}
use Rattle.counts.specs.PlanCounts.{accepted_pattern}
use Rattle.signs.specs.SignLaws.{fraction_plus}

-- the plan of accepted words without signs is the one that they generate: it has no short word, and has a pattern
module _ (n g : ℕ) (ws : List ℕ) (l : Lowest (words_faults n g ws 0) 0) where
  plan_long : NoShort n 3 (Fraction n g ws 0)
  plan_long = no_short_agree n (Generated n g ws) (Fraction n g ws 0) (fraction_plus n g ws) 3 (accepted_long n g ws 0 l)

  has_pattern : (p : List ℕ) × Pattern n (Fraction n g ws 0) p
  has_pattern = let q = accepted_pattern n g ws 0 l in (q.0, pattern_agree n (Generated n g ws) (Fraction n g ws 0) (fraction_plus n g ws) q.0 q.1)

module _ (n g : ℕ) (ws vs : List ℕ) where
  abbrev BothAccepted : Type 0
  BothAccepted = Lowest (either (words_faults n g ws 0) (words_faults n g vs 0)) 0

  first_accepted : BothAccepted → Lowest (words_faults n g ws 0) 0
  first_accepted l = lowest_none (words_faults n g ws 0) (λ k f. none_lowest (either (words_faults n g ws 0) (words_faults n g vs 0)) l k (inl f))

  second_accepted : BothAccepted → Lowest (words_faults n g vs 0) 0
  second_accepted l = lowest_none (words_faults n g vs 0) (λ k f. none_lowest (either (words_faults n g ws 0) (words_faults n g vs 0)) l k (inr f))

  -- for accepted lists the two rank alike
  less_published : BothAccepted → LessAberration n (n - g) (Fraction n g vs 0) (Fraction n g ws 0)
      → AberrationCriterion n (Fraction n g vs 0) (Fraction n g ws 0)
  less_published l = less_criterion (plan_long n g vs (second_accepted l)) (plan_long n g ws (first_accepted l))

  published_less : BothAccepted → AberrationCriterion n (Fraction n g vs 0) (Fraction n g ws 0)
      → LessAberration n (n - g) (Fraction n g vs 0) (Fraction n g ws 0)
  published_less l =
      criterion_less (plan_long n g vs (second_accepted l)) (plan_long n g ws (first_accepted l)) (has_pattern n g vs (second_accepted l)).1
      (has_pattern n g ws (first_accepted l)).1

  -- what `choice` answers, and what `less_aberration` hands back
  pub choice_published : {r : ℕ} → ChoosesLess n (n - g) (of_words n g ws 0) (of_words n g vs 0) r
      → Chooses (either (words_faults n g ws 0) (words_faults n g vs 0)) (AberrationCriterion n (Fraction n g vs 0) (Fraction n g ws 0)) r
  choice_published (Chooses.refused k some l) = Chooses.refused k some l
  choice_published (Chooses.first l none) = Chooses.first l (λ c. none (published_less l c))
  choice_published (Chooses.second l less) = Chooses.second l (less_published l less)

  pub list_published : {a b r : Bor (List ℕ)} → HandsBackLess n (n - g) (of_words n g ws 0) (of_words n g vs 0) a b r
      → HandsBack (either (words_faults n g ws 0) (words_faults n g vs 0)) (AberrationCriterion n (Fraction n g vs 0) (Fraction n g ws 0)) a b r
  list_published h = record {
    better = λ l c. h.better l (published_less l c);
    otherwise = λ l none. h.otherwise l (λ less. none (less_published l less));
    refused = h.refused;
    start = h.start;
  }

  -- where the answer is the first in both orders, the patterns are equal
  pub tie_pattern : {r k : ℕ} → ChoosesLess n (n - g) (of_words n g ws 0) (of_words n g vs 0) r
      → ChoosesLess n (n - g) (of_words n g vs 0) (of_words n g ws 0) k
      → r ≡ 1 → k ≡ 1 → (p q : List ℕ) → Pattern n (Fraction n g ws 0) p → Pattern n (Fraction n g vs 0) q → (l : ℕ) → 1 ≤ l → l ≤ n
      → of_length p l ≡ of_length q l
  tie_pattern (Chooses.first l none) (Chooses.first i other) e f p q of-p of-q =
      neither_agree (plan_long n g ws (first_accepted l)) (plan_long n g vs (second_accepted l)) of-p of-q other none
  tie_pattern (Chooses.refused k some l) w e f p q of-p of-q = absurd (omega arith)
  tie_pattern (Chooses.second l less) w e f p q of-p of-q = absurd (omega arith)
  tie_pattern (Chooses.first l none) (Chooses.refused k some i) e f p q of-p of-q = absurd (omega arith)
  tie_pattern (Chooses.first l none) (Chooses.second i less) e f p q of-p of-q = absurd (omega arith)
