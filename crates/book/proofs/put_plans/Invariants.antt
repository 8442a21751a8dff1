-- `book::put_plans` meets its contract: before each turn the entries of the first i plans stand (`Written`). Assumes nothing.
use Rattle.book.specs.Writing.{Written, plan_entry}
use Rattle.book.proofs.put_plans.Given as goal

abbrev pub invariant-loop-i : goal.invariant-loop-i
invariant-loop-i l = Written l.n (plan_entry l.n l.g l.plans) l.i l.initial.out l.out l.at
