-- `reading::check_columns` meets its contract: the record, then the entry test, then the order. Assumes nothing.
use Rattle.std.proofs.Common.{◌≡◌, refl, arith, rules}
use Rattle.std.specs.Prelude.{Err}
use Rattle.regular.specs.Answers.{number}
use Rattle.regular.specs.RefusalLaws.{number_positive}
use Rattle.entry_test.specs.Testing.{kept_same}
use Rattle.reading.specs.Columns.{no_columns, there, untrue_entry, untrue_order, true_columns}
use Rattle.reading.proofs.check_columns.Goals as goal

pub returns-in_err-check_record : goal.returns-in_err-check_record
returns-in_err-check_record c =
    let a = c.args in
    let e = c.in_err-check_record.field-0.0 in
    let up : c.from_residual.result ≡ Err e = search rules in
    rw up (
      no_columns a.n a.g a.r c.requires.0 a.book.now a.i c.requires.1 c.book_length.result (number e) c.book_length.ensures
          c.in_err-check_record.ensures (λ z. omega (arith, number_positive e)),
      λ z. absurd (omega (arith, number_positive e)),
    )

pub earlier_columns-earlier-requires : goal.earlier_columns-earlier-requires
earlier_columns-earlier-requires c =
    let a = c.args in
    there a.n a.g a.r c.requires.0 a.book.now a.i c.requires.1 c.book_length.result 0 c.book_length.ensures c.in_ok-check_record.ensures refl

pub columns_in-columns-requires : goal.columns_in-columns-requires
columns_in-columns-requires c =
    let a = c.args in
    there a.n a.g a.r c.requires.0 a.book.now a.i c.requires.1 c.book_length.result 0 c.book_length.ensures c.in_ok-check_record.ensures refl

pub returns-then-not-is_entry_after : goal.returns-then-not-is_entry_after
returns-then-not-is_entry_after c =
    let a = c.args in (
      untrue_entry a.n a.g a.r c.requires.0 a.book.now a.i c.requires.1 c.book_length.result 0 c.book_length.ensures c.in_ok-check_record.ensures refl
          c.columns_in-columns.ensures c.is_entry_after.result c.is_entry_after.ensures.0 c.if-not-is_entry_after.true,
      λ z. absurd (omega arith),
    )

pub returns-then-not-entry_rises : goal.returns-then-not-entry_rises
returns-then-not-entry_rises c =
    let a = c.args in (
      untrue_order a.n a.g a.r c.requires.0 a.book.now a.i c.requires.1 c.book_length.result 0 c.book_length.ensures c.in_ok-check_record.ensures refl
          c.columns_in-columns.ensures c.is_entry_after.result c.is_entry_after.ensures.0 c.entry_rises.result c.entry_rises.ensures
          c.if-not-entry_rises.true,
      λ z. absurd (omega arith),
    )

pub returns : goal.returns
returns c =
    let a = c.args in
    let told = c.if-not-is_entry_after.false in (
      true_columns a.n a.g a.r c.requires.0 a.book.now a.i c.requires.1 c.book_length.result 0 c.book_length.ensures c.in_ok-check_record.ensures refl
          c.columns_in-columns.ensures c.is_entry_after.result c.is_entry_after.ensures.0 c.entry_rises.result c.entry_rises.ensures told
          c.if-not-entry_rises.false,
      λ _. kept_same c.columns_in-columns.ensures (c.is_entry_after.ensures.1 told),
    )
