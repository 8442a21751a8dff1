use Rattle.std.proofs.Common.{◌≡◌, refl, sym, ap, add-one, [], arith, rules}
use Rattle.std.specs.Prelude.{Err}
use Rattle.regular.specs.Answers.{number}
use Rattle.regular.specs.RefusalLaws.{number_positive}
use Rattle.entry_test.specs.Testing.{kept_same, kept_none}
use Rattle.reading.specs.Answers.{earlier_columns}
use Rattle.reading.specs.Entries.{from_none, from_stops, from_more, from_left, from_end}
use Rattle.reading.proofs.check_entries.Goals as goal

pub loop-i-init : goal.loop-i-init
loop-i-init c =
    let a = c.args in
    let z = c.none-tables.ensures.zeros in
    (from_none a.n a.g a.r a.book.now a.count, rw (z.0, z.1, z.2) (kept_none []))

pub returns-in_err-check_entry : goal.returns-in_err-check_entry
returns-in_err-check_entry c =
    let a = c.args in
    let l = c.loop-i in
    let e = c.in_err-check_entry.field-0.0 in
    let up : c.from_residual.result ≡ Err e = search rules in
    rw up (from_stops a.n a.g a.r a.book.now a.count l.i c.loop-i-test.true l.invariant.0 (number e) (λ z. omega (arith, number_positive e))
    c.in_err-check_entry.ensures.0)

pub loop-i-preserved : goal.loop-i-preserved
loop-i-preserved c =
    let a = c.args in
    let l = c.loop-i in
    let k = c.in_ok-check_entry.ensures in (
      from_more a.n a.g a.r a.book.now a.count l.i c.loop-i-test.true l.invariant.0 0 refl k.0,
      kept_same (ap (earlier_columns a.n a.book.now) (sym (add-one l.i))) (k.1 refl),
    )

pub returns-then-book_length-book : goal.returns-then-book_length-book
returns-then-book_length-book c =
    let a = c.args in
    let l = c.loop-i in
    from_left a.n a.g a.r a.book.now a.count l.i c.loop-i-test.false l.invariant.0 c.book_length.result c.book_length.ensures
    c.if-book_length-book.true

pub returns : goal.returns
returns c =
    let a = c.args in
    let l = c.loop-i in
    from_end a.n a.g a.r a.book.now a.count l.i c.loop-i-test.false l.invariant.0 c.book_length.result c.book_length.ensures
    c.if-book_length-book.false
