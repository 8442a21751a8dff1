-- `plan_layout::lending_plan` meets its contract: an earlier refusal is passed on, else the places are counted against a plan's. Assumes nothing.
use Rattle.std.proofs.Common.{rules}
use Rattle.regular.specs.PlanBytes.{plan_bytes}
use Rattle.lent.specs.Lending.{lending_refused}
use Rattle.plan_layout.proofs.lending_plan.Goals as goal

pub returns-in_err-value-clause-number : goal.returns-in_err-value-clause-number
returns-in_err-value-clause-number g c =
    let a = c.args in
    lending_refused c.in_err-value.field-0.0 a.other c.from_residual.result (plan_bytes a.n) a.places c.in_err-value.was (search rules)
