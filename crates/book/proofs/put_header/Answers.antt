-- `book::put_header` meets its contract: four bytes, then the count. Assumes nothing.
use Rattle.std.proofs.Common.{◌∙◌}
use Rattle.book.specs.PutLaws.{header_put}
use Rattle.book.proofs.put_header.Goals as goal

pub returns : goal.returns
returns c =
    let a = c.args in
    c.put_number.ensures ∙ header_put a.n a.g a.r a.count a.out.now c.requires.4
