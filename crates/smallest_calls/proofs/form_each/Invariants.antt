-- `smallest_calls::form_each` meets its contract: the first i plans have their forms. Assumes nothing.
use Rattle.smallest_calls.specs.Each.{ReducedTo}
use Rattle.smallest_calls.proofs.form_each.Given as goal

abbrev pub invariant-loop-i : goal.invariant-loop-i
invariant-loop-i l = ReducedTo l.n l.g l.plans l.i l.initial.forms l.forms l.initial.witnesses l.witnesses
