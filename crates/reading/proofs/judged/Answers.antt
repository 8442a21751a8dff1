-- `reading::judged` meets its contract: refused where there is no room, else the entries answer. Assumes nothing.
use Rattle.std.proofs.Common.{◌≡◌, refl, arith, rules}
use Rattle.std.specs.Prelude.{Ok, Err}
use Rattle.regular.specs.Answers.{number, read_answer}
use Rattle.regular.specs.RefusalLaws.{number_positive}
use Rattle.reading.specs.AnswerLaws.{judged_sized, judged_refused, judged_taken}
use Rattle.reading.proofs.judged.Goals as goal

pub check_entries-requires : goal.check_entries-requires
check_entries-requires c =
    let a = c.args in (
      judged_sized a.book.now (read_answer (Ok a.header)) c.requires a.room refl c.if-not-room.false c.from-n.result c.from-g.result c.from-r.result 0
          (c.from-n.ensures, c.from-g.ensures, c.from-r.ensures),
      c.requires.few,
    )

pub returns-in_err-check_entries : goal.returns-in_err-check_entries
returns-in_err-check_entries c =
    let a = c.args in
    let e = c.in_err-check_entries.field-0.0 in
    let up : c.from_residual.result ≡ Err e = search rules in
    rw up (judged_refused a.book.now (read_answer (Ok a.header)) c.requires a.room refl c.if-not-room.false c.from-n.result c.from-g.result
    c.from-r.result (number e) (c.from-n.ensures, c.from-g.ensures, c.from-r.ensures) c.in_err-check_entries.ensures
    (λ z. omega (arith, number_positive e)) (read_answer (Err e)) refl)

pub returns : goal.returns
returns c =
    let a = c.args in
    judged_taken a.book.now (read_answer (Ok a.header)) c.requires a.room refl c.if-not-room.false c.from-n.result c.from-g.result c.from-r.result 0
    (c.from-n.ensures, c.from-g.ensures, c.from-r.ensures) c.in_ok-check_entries.ensures refl
