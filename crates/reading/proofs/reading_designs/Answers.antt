-- `reading::reading_designs` meets its contract: an entry takes a place of the list. Assumes nothing.
use Rattle.std.proofs.Common.{◌≡◌, arith, rules, leb-true, leb-false}
use Rattle.std.specs.Prelude.{leb, Ok, Err}
use Rattle.regular.specs.Answers.{read_answer}
use Rattle.regular.specs.ReadingAnswers.{places_of}
use Rattle.regular.specs.RefusalLaws.{number_positive}
use Rattle.reading.specs.AnswerLaws.{answered, answered_stays}
use Rattle.reading.proofs.reading_designs.Goals as goal

pub returns-in_err-header : goal.returns-in_err-header
returns-in_err-header c =
    let e = c.in_err-header.field-0.0 in
    let up : c.from_residual.result ≡ Err e = search rules in
    rw up (answered_stays places_of c.args.places c.args.book.now (read_answer (Err e)) c.in_err-header.ensures (λ z. omega (arith, number_positive e)))

pub returns : goal.returns
returns c =
    let a = c.args in
    let h = c.in_ok-header.header in
    answered places_of a.places a.book.now (read_answer (Ok h)) (leb h.count a.places) (read_answer c.judged.result) c.in_ok-header.ensures c.judged.ensures
    (leb-true h.count a.places, λ y l. omega (arith, leb-false h.count a.places y))
