-- `plan_lists::check_each` meets its contract: before each turn the first i plans are judged. Assumes nothing.
use Rattle.regular.specs.Answers.{refusal_of}
use Rattle.plan_lists.specs.Judged.{AllJudged}
use Rattle.plan_lists.proofs.check_each.Given as goal

abbrev pub invariant-loop-i : goal.invariant-loop-i
invariant-loop-i l = AllJudged l.n l.g l.r l.bare l.plans l.i (refusal_of l.lowest)
