-- `column_forms::double` meets its contract: k sums are in the tables. Assumes nothing.
use Rattle.std.proofs.Common.{◌≡◌, length}
use Rattle.column_forms.specs.Tables.{SumsGrown}
use Rattle.column_forms.proofs.double.Given as goal

abbrev pub invariant-loop-k : goal.invariant-loop-k
invariant-loop-k l =
    (length l.sums ≡ 128) × (length l.places ≡ 128) × SumsGrown l.c l.half l.k l.initial.sums l.initial.places l.sums l.places
