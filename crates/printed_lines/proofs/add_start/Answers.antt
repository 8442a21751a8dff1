-- The words and numbers, one after another; a number after a space takes at most 21 bytes. Assumes nothing.
use Rattle.std.proofs.Common.{ℕ, ap, arith}
use Rattle.printed_lines.specs.Text.{next}
use Rattle.printed_lines.specs.Adding.{adds_is, adds_more, decimal_short, next_short}
use Rattle.printed_lines.proofs.add_start.Goals as goal

pub returns : goal.returns
returns c =
    let t1 = c.add_decimal-a.ensures in
    let t2 = c.add_text-b.ensures in
    let t3 = adds_is (ap (λ (x : ℕ). next x) c.from.ensures) c.add_next-c.ensures.0 in
    let t4 = c.add_text-d.ensures in
    let t5 = c.add_columns.ensures in (
      adds_more (adds_more (adds_more (adds_more t1.0 t2) t3) t4) t5.0,
      omega (
        arith,
        t1.0.place,
        decimal_short 3 c.args.place (omega (arith, c.requires)),
        t2.place,
        t3.place,
        next_short 2 c.args.resolution (omega (arith, c.ranges.resolution.fits)),
        t4.place,
        t5.1,
        c.requires,
      ),
    )
