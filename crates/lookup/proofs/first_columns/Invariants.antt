-- `lookup::first_columns` meets its contract: none of the plans before i has the columns. Assumes nothing.
use Rattle.lookup.specs.Passing.{NoneBefore}
use Rattle.lookup.proofs.first_columns.Given as goal

abbrev pub invariant-loop-i : goal.invariant-loop-i
invariant-loop-i l = NoneBefore l.n l.list l.c l.i
