-- `forms::design_of` meets its contract: the plan is admitted, and the record made of it. Assumes nothing.
use Rattle.std.proofs.Common.{refl, arith, Ok}
use Rattle.regular.specs.Answers.{admitted_of}
use Rattle.forms.specs.Made.{design_gives}
use Rattle.forms.proofs.design_of.Goals as goal

pub returns : goal.returns
returns g c =
    let d = c.record_of in
    design_gives {x = admitted_of (Ok c.in_ok-admit.field-0)} c.in_ok-admit.ensures 0 d.result
    (record { same = refl; refused = λ l. absurd (omega arith); made = λ _. (d.result.mask, (d.ensures.mask, d.ensures.record)) })
