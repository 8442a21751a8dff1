-- The word, the number and the line's end. Assumes nothing.
use Rattle.std.proofs.Common.{ℕ, ap, arith}
use Rattle.printed_lines.specs.Text.{next}
use Rattle.printed_lines.specs.Adding.{adds_is, adds_more}
use Rattle.printed_lines.proofs.refused_line.Goals as goal

pub returns : goal.returns
returns c =
    let t = c.add_text-a.ensures in
    let u = c.add_next-b.ensures in
    let v = c.add_text.ensures in
    (adds_more (adds_more t (adds_is (ap (λ (x : ℕ). next x) c.from.ensures) u.0)) v, omega (arith, t.place, u.1, v.place))
