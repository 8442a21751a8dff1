use Rattle.std.proofs.Common.{arith}
use Rattle.std.proofs.Math.Pow.{pow_mono}
use Rattle.patterns.proofs.Laws.{products_none, products_more}
use Rattle.patterns.proofs.products.Goals as goal

pub loop-d-init : goal.loop-d-init
loop-d-init c = products_none _

pub double-requires : goal.double-requires
double-requires c =
    omega (arith, c.power.ensures, pow_mono {i = c.loop-d.d} {j = 10} (omega arith), c.loop-d.invariant.places)

pub loop-d-preserved : goal.loop-d-preserved
loop-d-preserved c = products_more c.loop-d.d c.power.result _ _ _ c.power.ensures.0 c.loop-d.invariant c.double.ensures
