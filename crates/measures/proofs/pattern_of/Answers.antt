-- `measures::pattern_of` meets its contract: the plan is admitted, and has the pattern of its standard columns. Assumes nothing.
use Rattle.std.proofs.Common.{refl, arith}
use Rattle.measures.specs.Measured.{pattern_fills, pattern_lends}
use Rattle.measures.proofs.pattern_of.Goals as goal

pub returns : goal.returns
returns g c =
    let ad = c.in_ok-admit.ensures in
    pattern_fills {n = c.args.n} {g = c.args.g} ad (pattern_lends refl (omega (arith, ad.size refl)) c.pattern-counts.ensures.0 c.lend_numbers.ensures)
