-- The digits are the fewest that hold the number, at most 20. Assumes nothing.
use Rattle.std.proofs.Common.{◌∙◌, arith}
use Rattle.printed_lines.specs.Adding.{few_digits, digits_are, adds_is}
use Rattle.printed_lines.proofs.add_decimal.Goals as goal

pub returns : goal.returns
returns c =
    let d = c.decimal-k.ensures in
    let t = c.add_text.ensures in
    let few = few_digits c.args.x _ c.ranges.x.fits d.len in
    (adds_is (d.digits ∙ digits_are 20 _ _ d.len few) t, omega (arith, t.place, few))
