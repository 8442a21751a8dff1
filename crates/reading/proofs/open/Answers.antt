-- `reading::open` meets its contract: the header's record, then its sizes. Assumes nothing.
use Rattle.std.proofs.Common.{◌≡◌, refl, arith, rules}
use Rattle.std.specs.Prelude.{Ok, Err}
use Rattle.regular.specs.Answers.{number, read_answer}
use Rattle.regular.specs.Book.{header_kind, header_length}
use Rattle.regular.specs.ReadingLaws.{record_zero}
use Rattle.regular.specs.RefusalLaws.{number_positive}
use Rattle.reading.specs.AnswerLaws.{opened_other, opened_bounds, opened}
use Rattle.reading.proofs.open.Goals as goal

pub returns-in_err-check_record : goal.returns-in_err-check_record
returns-in_err-check_record c =
    let e = c.in_err-check_record.field-0.0 in
    let up : c.from_residual.result ≡ Err e = search rules in
    rw up (opened_other c.args.book.now (number e) c.in_err-check_record.ensures (read_answer (Err e)) refl (λ z. omega (arith, number_positive e)))

pub header_of-header-requires : goal.header_of-header-requires
header_of-header-requires c = (record_zero header_kind header_length c.args.book.now 0 0 refl c.in_ok-check_record.ensures).1

pub returns-in_err-check_bounds : goal.returns-in_err-check_bounds
returns-in_err-check_bounds c =
    let e = c.in_err-check_bounds.field-0.0 in
    let up : c.from_residual-in_err-check_bounds.result ≡ Err e = search rules in
    rw up (opened_bounds c.args.book.now 0 c.in_ok-check_record.ensures refl (read_answer (Ok c.header_of-header.result)) c.header_of-header.ensures
    c.from-n.result c.from-g.result c.from-r.result (number e) (c.from-n.ensures, c.from-g.ensures, c.from-r.ensures) c.in_err-check_bounds.ensures.0
    (read_answer (Err e)) refl (λ z. omega (arith, number_positive e)))

pub returns : goal.returns
returns c =
    opened c.args.book.now 0 c.in_ok-check_record.ensures refl (read_answer (Ok c.header_of-header.result)) c.header_of-header.ensures
    c.from-n.result c.from-g.result c.from-r.result 0 (c.from-n.ensures, c.from-g.ensures, c.from-r.ensures) c.in_ok-check_bounds.ensures.0 refl
