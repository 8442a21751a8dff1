-- `lent::lending` meets its contract: a refusal is passed on, then too few places refuse. Assumes nothing.
use Rattle.std.proofs.Common.{rules}
use Rattle.lent.specs.Lending.{Lending, lending_refused}
use Rattle.lent.proofs.lending.Goals as goal

pub returns-in_err-value-clause-number : goal.returns-in_err-value-clause-number
returns-in_err-value-clause-number g c =
    let a = c.args in
    lending_refused c.in_err-value.field-0.0 a.other c.from_residual.result a.n a.places c.in_err-value.was (search rules)

pub returns-then-places-n-clause-number : goal.returns-then-places-n-clause-number
returns-then-places-n-clause-number g c = Lending.short (search rules) c.if-places-n.true

pub returns-clause-number : goal.returns-clause-number
returns-clause-number g c = Lending.none (search rules) c.if-places-n.false
