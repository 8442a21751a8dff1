-- `book::put_counts` meets its contract: before each turn the counts of the lengths up to i stand (`CountsPut`). Assumes nothing.
use Rattle.book.specs.PutLaws.{CountsPut}
use Rattle.book.proofs.put_counts.Given as goal

abbrev pub invariant-loop-i : goal.invariant-loop-i
invariant-loop-i l = CountsPut l.n l.counts l.at l.initial.out l.out l.i l.to
