-- The words and numbers, one after another. Assumes nothing.
use Rattle.std.proofs.Common.{arith}
use Rattle.printed_lines.specs.Adding.{adds_more}
use Rattle.printed_lines.proofs.header_line.Goals as goal

pub returns : goal.returns
returns c =
    let t1 = c.add_text-a.ensures in
    let t2 = c.add_next-b.ensures in
    let t3 = c.add_next-c.ensures in
    let t4 = c.add_next-d.ensures in
    let t5 = c.add_text-e.ensures in
    let t6 = c.add_next-f.ensures in
    let t7 = c.add_text.ensures in (
      adds_more (adds_more (adds_more (adds_more (adds_more (adds_more t1 t2.0) t3.0) t4.0) t5) t6.0) t7,
      omega (arith, t1.place, t2.1, t3.1, t4.1, t5.place, t6.1, t7.place),
    )
