-- Folded four times, sixteen digits have their parity in the last one (`shared_parity`).
use Rattle.std.proofs.Common.{arith, ◌∙◌}
use Rattle.std.specs.Int.Bits.{bit_and}
use Rattle.std.proofs.lemmas.Nat.{and_mask}
use Rattle.bits.specs.Folding.{folded, shared_parity}
use Rattle.bits.proofs.parity.Goals as goal

pub returns : goal.returns
unfolding folded
returns c =
    let j = c.args.j in
    let e = and_mask (folded 4 (bit_and j c.args.c)) 1 in
    (e ∙ shared_parity 4 j c.args.c c.ranges.j.fits, omega (arith, e))
