use Rattle.planner.proofs.plan_words_of_columns.Goals as goal

pub returns : goal.returns
returns c = rw c.from.ensures c.words_of.ensures
