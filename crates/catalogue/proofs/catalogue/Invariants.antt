-- After i turns the first i records are entries, and the state leads to the next. The measure is what is left of the list.
use Rattle.std.proofs.Common.{length, ◌-◌}
use Rattle.catalogue.specs.Records.{FillingRecords}
use Rattle.catalogue.proofs.catalogue.Given as goal

abbrev pub invariant-loop-next : goal.invariant-loop-next
invariant-loop-next l = FillingRecords l.n l.g l.r l.initial.list l.list l.i l.c l.state

abbrev pub decreases-loop-next : goal.decreases-loop-next
decreases-loop-next l = length l.list - l.i
