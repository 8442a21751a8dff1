use Rattle.planner.proofs.plan_smallest_of_columns.Goals as goal

pub returns : goal.returns
returns c = rw c.from.ensures c.smallest_into.ensures
