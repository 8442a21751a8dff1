-- `reading::has_number` meets its contract: two bytes are compared. Assumes nothing.
use Rattle.reading.specs.Order.{number_told}
use Rattle.reading.proofs.has_number.Goals as goal

pub returns : goal.returns
returns c = let a = c.args in rw (c.eq.ensures, c.to_le_bytes.ensures) (number_told a.x a.book.now a.at c.ranges.x.fits c.requires)
