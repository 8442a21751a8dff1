-- `column_forms::run_table` meets its contract: after d basic factors the table is theirs. Assumes nothing.
use Rattle.std.proofs.Common.{◌≡◌, ◌^◌}
use Rattle.regular.specs.Columns.{RunTable}
use Rattle.column_forms.proofs.run_table.Given as goal

abbrev pub invariant-loop-d : goal.invariant-loop-d
invariant-loop-d l = (l.half ≡ 2 ^ l.d) × RunTable l.n l.d l.cols l.t
