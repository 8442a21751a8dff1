-- `table_forms::places` meets its contract. The invariant: the places are right for the runs passed. Assumes nothing.
use Rattle.table_forms.specs.Walk.{Latest}
use Rattle.table_forms.proofs.places.Given as goal

abbrev pub invariant-loop-i : goal.invariant-loop-i
invariant-loop-i l = Latest l.count l.i l.coords l.v
