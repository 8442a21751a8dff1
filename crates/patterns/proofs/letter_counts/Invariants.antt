-- `patterns::letter_counts` meets its contract. The invariant: the numbers passed are counted. Assumes nothing.
use Rattle.patterns.specs.Steps.{LettersCounted}
use Rattle.patterns.proofs.letter_counts.Given as goal

abbrev pub invariant-loop-w : goal.invariant-loop-w
invariant-loop-w l = LettersCounted l.w-index l.list l.counts
