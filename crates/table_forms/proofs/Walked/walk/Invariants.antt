-- `table_forms::Walked::walk` meets its contract. The invariant: the walk has reached the next factor. Assumes nothing.
use Rattle.table_forms.specs.Walk.{TableWalk}
use Rattle.table_forms.proofs.Walked.walk.Given as goal

abbrev pub invariant-loop-f : goal.invariant-loop-f
invariant-loop-f l = TableWalk l.m l.t l.f l.self
