-- `table_forms::misfits` meets its contract. The invariant: nothing is wrong exactly if the column fits every run passed. Assumes nothing.
use Rattle.table_forms.specs.Walk.{FitsFrom}
use Rattle.table_forms.proofs.misfits.Given as goal

abbrev pub invariant-loop-i : goal.invariant-loop-i
invariant-loop-i l = FitsFrom l.t l.coords l.f l.k l.from l.i l.wrong
