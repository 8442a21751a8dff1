-- `catalogue::list_catalogue` meets its contract: after i turns the list holds the first i entries; the measure is what is left of the places. Assumes
-- nothing.
use Rattle.std.proofs.Common.{◌-◌}
use Rattle.catalogue.specs.Turns.{FillingBytes}
use Rattle.catalogue.proofs.list_catalogue.Given as goal

abbrev pub invariant-loop-next : goal.invariant-loop-next
invariant-loop-next l = FillingBytes l.n l.g l.r l.initial.out l.out l.count l.c l.state

abbrev pub decreases-loop-next : goal.decreases-loop-next
decreases-loop-next l = l.places - l.count
