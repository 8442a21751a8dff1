-- `reading::reading_plans` meets its contract: an entry takes the bytes of a plan. Assumes nothing.
use Rattle.std.proofs.Common.{◌≡◌, arith, rules, leb-true, leb-false}
use Rattle.std.specs.Prelude.{leb, Ok, Err}
use Rattle.regular.specs.Answers.{read_answer}
use Rattle.regular.specs.PlanBytes.{plan_start}
use Rattle.regular.specs.RefusalLaws.{number_positive}
use Rattle.reading.specs.AnswerLaws.{answered, answered_stays}
use Rattle.reading.proofs.reading_plans.Goals as goal

pub returns-in_err-header : goal.returns-in_err-header
returns-in_err-header c =
    let e = c.in_err-header.field-0.0 in
    let up : c.from_residual.result ≡ Err e = search rules in
    rw up (answered_stays plan_start c.args.places c.args.book.now (read_answer (Err e)) c.in_err-header.ensures (λ z. omega (arith, number_positive e)))

pub returns : goal.returns
returns c =
    let a = c.args in
    let h = c.in_ok-header.header in
    let k = c.plan_start.result in
    let start : k ≡ plan_start h.factors h.count = rw c.from.ensures at c.plan_start.ensures in
    answered plan_start a.places a.book.now (read_answer (Ok h)) (leb k a.places) (read_answer c.judged.result) c.in_ok-header.ensures c.judged.ensures
    (λ y. omega (arith, start, leb-true k a.places y), λ y l. omega (arith, start, leb-false k a.places y))
