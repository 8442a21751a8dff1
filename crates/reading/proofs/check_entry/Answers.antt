-- `reading::check_entry` meets its contract: the columns, then the pattern. Assumes nothing.
use Rattle.std.proofs.Common.{◌≡◌, refl, arith, rules}
use Rattle.std.specs.Prelude.{Err}
use Rattle.regular.specs.Answers.{number, refusal_of}
use Rattle.regular.specs.InTurnLaws.{refuses, goes_on}
use Rattle.regular.specs.RefusalLaws.{number_positive}
use Rattle.reading.specs.Columns.{checked_there, checked_entry}
use Rattle.reading.proofs.check_entry.Goals as goal

pub returns-in_err-check_columns : goal.returns-in_err-check_columns
returns-in_err-check_columns c =
    let e = c.in_err-check_columns.field-0.0 in
    let up : c.from_residual.result ≡ Err e = search rules in
    rw up (
      refuses (number e) (λ z. omega (arith, number_positive e)) c.in_err-check_columns.ensures.0,
      λ z. absurd (omega (arith, number_positive e)),
    )

pub check_pattern-requires : goal.check_pattern-requires
check_pattern-requires c =
    let a = c.args in
    let k = c.in_ok-check_columns.ensures in (
      (a.r, checked_entry a.n a.g a.r c.requires.0 a.book.now a.i c.requires.1 0 refl k.0),
      checked_there a.n a.g a.r c.requires.0 a.book.now a.i c.requires.1 0 refl k.0,
    )

pub returns : goal.returns
returns c =
    let k = c.in_ok-check_columns.ensures in
    (goes_on 0 (refusal_of c.check_pattern.result) refl k.0 c.check_pattern.ensures, λ _. k.1 refl)
