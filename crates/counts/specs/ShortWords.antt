-- Whether a plan has a word of fewer than r letters, by its pattern.
use Rattle.std.proofs.Math.Logic.{by_cases}
use Rattle.std.specs.Prelude.{◌≡◌, List, ℕ, ◌≤◌, ◌<◌}
use Rattle.std.proofs.Math.Decide.{dec_lt}
use Rattle.std.proofs.Common.{arith}
use Rattle.regular.specs.Pattern.{Pattern, of_length}
use Rattle.regular.specs.Refusals.{Short}
use Rattle.regular.specs.Runs.{Runs}
use Rattle.regular.specs.Words.{Word, letters, NoShort}
use Rattle.counts.specs.Counting.{count_some}
use Rattle.counts.specs.Patterns.{word_some, word_most}
use Rattle.counts.specs.Resolutions.{word_counted}

-- some length below r has a count above 0
abbrev pub CountBelow : ℕ → ℕ → List ℕ → Type 0
CountBelow n r p = (l : ℕ) × ((1 ≤ l) × ((l ≤ n) × ((l < r) × (0 < of_length p l))))

-- none has
abbrev pub NoneBelow : ℕ → ℕ → List ℕ → Type 0
NoneBelow n r p = (l : ℕ) → 1 ≤ l → l ≤ n → l < r → of_length p l ≡ 0

module _ {n : ℕ} {s : Runs} {p : List ℕ} (pat : Pattern n s p) (r : ℕ) where
  pub count_short : CountBelow n r p → Short n r s
  count_short (l, (some, (most, (few, counted)))) =
      let w = count_some (λ v. Word n s v × (letters v ≡ l)) (of_length p l) counted (pat.counts l some most) in
      record { word = w.0; is = w.1.0; few = omega (arith, w.1.1, few) }

  pub none_short : NoneBelow n r p → NoShort n r s
  none_short none w is =
      by_cases (dec_lt (letters w) r)
      (λ few. absurd (word_counted n s p pat w is (none (letters w) (word_some n s w is) (word_most n s w is) few)))
      (λ long. omega arith)
