-- `book::put_entry` meets its contract: a kind and the columns, a kind and the counts, one after another. Assumes nothing.
use Rattle.std.proofs.Common.{◌≡◌, ℕ, List, arith, rules}
use Rattle.regular.specs.Book.{entry_records}
use Rattle.book.specs.Over.{over}
use Rattle.book.specs.PutLaws.{entry_put}
use Rattle.book.proofs.put_entry.Goals as goal

pub returns : goal.returns
returns c =
    let first : List ℕ =
    c.put_first.new.out in
    let entry-stands : c.put_counts.new.out
    ≡ over c.args.at (entry_records c.args.n c.args.columns c.args.counts)
    c.args.out.now =
    let a = c.args in
    entry_put a.n a.at a.columns a.out.now (first) c.requires.1 (search rules) c.put_first.ensures
    a.counts c.put_counts.new.out c.put_counts.ensures.0 in
    (entry-stands, omega (arith, c.put_counts.ensures.1))
