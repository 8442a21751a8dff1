-- `table_forms::extend` meets its contract. The invariant: the runs passed have the level of the factor above their levels. Assumes nothing.
use Rattle.table_forms.specs.Walk.{LevelsExtended}
use Rattle.table_forms.proofs.extend.Given as goal

abbrev pub invariant-loop-i : goal.invariant-loop-i
invariant-loop-i l = LevelsExtended l.t l.initial.coords l.coords l.f l.half l.i
