-- `column_forms::walk` meets its contract: after f columns the tables are those of the walk over f columns, by a column whose place is
-- known or by one that doubles them. Assumes nothing.
use Rattle.std.proofs.Common.{◌≡◌, length}
use Rattle.column_forms.specs.Walk.{ColumnWalk}
use Rattle.column_forms.proofs.walk.Given as goal

abbrev pub invariant-loop-f : goal.invariant-loop-f
invariant-loop-f l =
    (length l.columns ≡ 16) × (length l.sums ≡ 128) × (length l.places ≡ 128) × ColumnWalk l.n l.m l.cols l.f l.half l.sums l.places l.columns
