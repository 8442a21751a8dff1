-- The start of the line, then the counts. Assumes nothing.
use Rattle.std.proofs.Common.{arith}
use Rattle.printed_lines.specs.Adding.{adds_more}
use Rattle.printed_lines.proofs.add_entry.Goals as goal

pub returns : goal.returns
returns c =
    let t1 = c.add_start-a.ensures in
    let t2 = c.add_text-b.ensures in
    let t3 = c.add_counts-c.ensures in
    let t4 = c.add_text.ensures in
    (adds_more (adds_more (adds_more t1.0 t2) t3.0) t4, omega (arith, t1.1, t2.place, t3.1, t4.place, c.requires))
