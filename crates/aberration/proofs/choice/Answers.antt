-- `aberration::choice` meets its contract: both plans are admitted and compared by their standard columns. Assumes nothing.
use Rattle.std.proofs.Common.{rules, refl, arith, inl, ◌≡◌, Err}
use Rattle.regular.specs.Answers.{number}
use Rattle.regular.specs.RefusalLaws.{Lower, number_positive}
use Rattle.regular.specs.Refusals.{Chooses}
use Rattle.aberration.specs.Less.{chooses_second, chooses_first}
use Rattle.aberration.proofs.choice.Goals as goal

neither : Lower 0 0 0
neither = record { one = inl refl; first = λ h. absurd (omega arith); second = λ h. absurd (omega arith) }

pub returns-in_err-one-clause-less : goal.returns-in_err-one-clause-less
returns-in_err-one-clause-less c =
    let e = c.in_err-one.field-0.0 in
    let up : c.from_residual.result ≡ Err e = search rules in
    rw up (Chooses.refused (number e) (number_positive e) c.in_err-one.ensures.lowest)

pub returns-then-second_less-clause-less : goal.returns-then-second_less-clause-less
returns-then-second_less-clause-less c =
    let p = c.in_ok-one.ensures.plans in
    chooses_second p.0 p.1 neither refl (c.second_less.ensures.0 c.if-second_less.true)

pub returns-clause-less : goal.returns-clause-less
returns-clause-less c =
    let p = c.in_ok-one.ensures.plans in
    chooses_first p.0 p.1 neither refl (c.second_less.ensures.1 c.if-second_less.false)
