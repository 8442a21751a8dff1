-- `plan_lists::check_bytes` meets its contract: the mask is that of the bytes. Assumes nothing.
use Rattle.std.proofs.Common.{ℕ, subst}
use Rattle.regular.specs.Answers.{refusal_of}
use Rattle.regular.specs.Given.{of_columns}
use Rattle.regular.specs.Refusals.{SwitchFault, either, Lowest}
use Rattle.plan_lists.specs.Judged.{wanted}
use Rattle.plan_lists.proofs.check_bytes.Goals as goal

pub returns : goal.returns
returns c =
    let a = c.args in
    let With : ℕ → Type 0 =
    λ mask. Lowest (either (wanted a.n a.r (of_columns a.n a.g a.plan.now)) (SwitchFault a.bare mask)) (refusal_of c.check_plan.result) in
    subst With c.mask_in.ensures c.check_plan.ensures
