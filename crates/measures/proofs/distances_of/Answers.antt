-- `measures::distances_of` meets its contract: the plan is admitted, and has the distance counts of its standard columns. Assumes nothing.
use Rattle.std.proofs.Common.{refl, arith}
use Rattle.measures.specs.Measured.{distances_fills, distances_lends}
use Rattle.measures.proofs.distances_of.Goals as goal

pub returns : goal.returns
returns g c =
    let ad = c.in_ok-admit.ensures in
    distances_fills {n = c.args.n} {g = c.args.g} ad (distances_lends refl (omega (arith, ad.size refl)) c.distances-counts.ensures c.lend_numbers.ensures)
