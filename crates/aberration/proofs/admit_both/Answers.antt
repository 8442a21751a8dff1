-- `aberration::admit_both` meets its contract: each list is admitted, and the lower of two refusals is the lowest fault. Assumes nothing.
use Rattle.std.proofs.Common.{ℕ, Result, Ok, Err}
use Rattle.regular.specs.Answers.{refusal_of, admitted_of}
use Rattle.regular.specs.RefusalLaws.{lowest_lower}
use Rattle.regular.specs.Refusals.{Lowest}
use Rattle.regular.specs.declared.AcceptedPlan.{AcceptedPlan}
use Rattle.regular.specs.declared.Refusal.{Refusal}
use Rattle.aberration.proofs.admit_both.Goals as goal

told : {F : ℕ → Type 0} (r : Result AcceptedPlan Refusal) → Lowest F (admitted_of r).number → Lowest F (refusal_of r)
told (Ok p) l = l
told (Err e) l = l

pub returns-clause-lowest : goal.returns-clause-lowest
returns-clause-lowest c =
    lowest_lower _ _ _ _ _ (told c.admit.result c.admit.ensures.lowest) (told c.admit-2.result c.admit-2.ensures.lowest) c.both.ensures.lower
