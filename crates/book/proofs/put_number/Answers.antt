-- `book::put_number` meets its contract: the two bytes, low byte first, stand at their places. Assumes nothing.
use Rattle.std.proofs.Common.{◌∙◌}
use Rattle.book.specs.PutLaws.{number_copied}
use Rattle.book.proofs.put_number.Goals as goal

pub returns : goal.returns
returns c =
    let a = c.args in
    number_copied a.at a.x a.out.now c.copy_from_slice.new.self c.ranges.x.fits c.requires (c.copy_from_slice.ensures.after ∙ c.to_le_bytes.ensures)
