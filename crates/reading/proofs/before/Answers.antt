-- `reading::before` meets its contract: the library orders lists as the dictionary does. Assumes nothing.
use Rattle.reading.specs.Order.{order_told}
use Rattle.reading.proofs.before.Goals as goal

pub returns : goal.returns
returns c = let a = c.args in rw c.lt.ensures (order_told a.n a.c.now a.d.now c.requires.0 c.requires.1)
