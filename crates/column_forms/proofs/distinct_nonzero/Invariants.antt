-- `column_forms::distinct_nonzero` meets its contract: 0 and the columns passed are marked, and no other number, so a mark at the next column is a 0 or a
-- repeat. Assumes nothing.
use Rattle.column_forms.specs.Tables.{Seen}
use Rattle.column_forms.proofs.distinct_nonzero.Given as goal

abbrev pub invariant-loop-f : goal.invariant-loop-f
invariant-loop-f l = Seen l.cols l.f l.seen
