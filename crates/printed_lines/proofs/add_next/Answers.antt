-- The space, and then the digits. Assumes nothing.
use Rattle.std.proofs.Common.{arith}
use Rattle.printed_lines.specs.Adding.{adds_more}
use Rattle.printed_lines.proofs.add_next.Goals as goal

pub returns : goal.returns
returns c =
    let t = c.add_text-end.ensures in
    let d = c.add_decimal.ensures in
    (adds_more t d.0, omega (arith, t.place, d.1))
