-- `column_forms::unit_run` meets its contract: the factors passed have their levels. Assumes nothing.
use Rattle.std.proofs.Common.{◌≡◌, ◌^◌}
use Rattle.regular.specs.Columns.{run_of}
use Rattle.column_forms.proofs.unit_run.Given as goal

abbrev pub invariant-loop-f : goal.invariant-loop-f
invariant-loop-f l = l.w ≡ run_of l.cols l.f (2 ^ l.d)
