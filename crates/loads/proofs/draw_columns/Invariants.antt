-- `loads::draw_columns` meets its contract: the columns of the first f factors are drawn, marked, and followed by zeros (`Drawing`). Assumes nothing.
use Rattle.loads.specs.Drawing.{LastColumn, Drawing}
use Rattle.loads.proofs.draw_columns.Given as goal

abbrev pub invariant-loop-f : goal.invariant-loop-f
invariant-loop-f l = LastColumn l.n l.m l.last × Drawing l.m l.seed l.f l.columns l.seen l.seed

abbrev pub invariant-loop-f-2 : goal.invariant-loop-f-2
invariant-loop-f-2 l = LastColumn l.n l.m l.last × Drawing l.m l.seed l.f l.columns l.seen l.state
