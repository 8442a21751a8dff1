-- `column_forms::switched_table` meets its contract: j runs of the table are switched. Assumes nothing.
use Rattle.column_forms.specs.TableLaws.{Switching}
use Rattle.column_forms.proofs.switched_table.Given as goal

abbrev pub invariant-loop-j : goal.invariant-loop-j
invariant-loop-j l = Switching l.initial.t l.mask l.j l.t
