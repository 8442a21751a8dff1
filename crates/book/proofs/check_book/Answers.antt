-- `book::check_book` meets its contract: the lower of two refusals, then the length. Assumes nothing.
use Rattle.std.proofs.Common.{◌≡◌, refl, rules}
use Rattle.std.specs.Prelude.{Err}
use Rattle.regular.specs.Answers.{number, refusal_of}
use Rattle.regular.specs.RefusalLaws.{lower_none, number_positive}
use Rattle.lent.specs.Lending.{Lending}
use Rattle.book.specs.WritingLaws.{count_few}
use Rattle.book.proofs.check_book.Goals as goal

pub returns-in_err-both : goal.returns-in_err-both
returns-in_err-both c =
    let e = c.in_err-both.field-0.0 in
    let up : c.from_residual.result ≡ Err e = search rules in
    rw up (record {
      many = refusal_of c.check_count.result;
      low = number e;
      counted = c.check_count.ensures;
      lower = c.in_err-both.ensures.lower;
      lending = Lending.passed (number_positive e);
    })

pub book_length-requires : goal.book_length-requires
book_length-requires c =
    let m = c.check_count in
    let z = lower_none (refusal_of c.args.plans) (refusal_of m.result) 0 c.in_ok-both.ensures.lower refl in
    (c.requires z.0, count_few c.args.count (refusal_of m.result) z.1 m.ensures)
