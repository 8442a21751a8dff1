-- `reading::check_record` meets its contract: a check for each test. Assumes nothing.
use Rattle.std.proofs.Common.{◌<◌, arith, length}
use Rattle.regular.specs.ReadingLaws.{record_missing, record_other, record_cut, record_stands}
use Rattle.reading.proofs.check_record.Goals as goal

pub returns-then-book-at : goal.returns-then-book-at
returns-then-book-at c = let a = c.args in record_missing a.kind a.len a.book.now a.at c.if-book-at.true

pub returns-then-book-at-2 : goal.returns-then-book-at-2
returns-then-book-at-2 c =
    let there : c.args.at < length c.args.book.now =
    omega (arith, c.if-book-at.false) in
    let a = c.args in
    record_other a.kind a.len a.book.now a.at (there) c.if-book-at-2.true

pub returns-then-book-at-3 : goal.returns-then-book-at-3
returns-then-book-at-3 c =
    let there : c.args.at < length c.args.book.now =
    omega (arith, c.if-book-at.false) in
    let a = c.args in
    record_cut a.kind a.len a.book.now a.at (there) c.if-book-at-2.false (omega (arith, there, c.if-book-at-3.true))

pub returns : goal.returns
returns c =
    let there : c.args.at < length c.args.book.now =
    omega (arith, c.if-book-at.false) in
    let a = c.args in
    record_stands a.kind a.len a.book.now a.at (there) c.if-book-at-2.false (omega (arith, there, c.if-book-at-3.false))
