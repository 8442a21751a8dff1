-- `plan_lists::check_records` meets its contract: before each turn `lowest` has the lowest number of the sizes and of the records passed. Assumes nothing.
use Rattle.std.proofs.Common.{get_or, ◌<◌}
use Rattle.regular.specs.Answers.{refusal_of}
use Rattle.regular.specs.Designs.{blank}
use Rattle.regular.specs.Refusals.{Lowest, either, size_faults}
use Rattle.regular.specs.PlanLists.{of_some}
use Rattle.plan_lists.specs.Judged.{design_wanted}
use Rattle.plan_lists.proofs.check_records.Given as goal

abbrev pub invariant-loop-design : goal.invariant-loop-design
invariant-loop-design l =
    Lowest (either (size_faults l.n l.g l.r) (of_some (λ j. j < l.design-index) (λ j. design_wanted l.n l.g l.r l.bare (get_or l.list j blank))))
    (refusal_of l.lowest)
