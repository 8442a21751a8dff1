use Rattle.std.proofs.Common.{arith}
use Rattle.witness_check.specs.Names.{mark_fits, used_more}
use Rattle.witness_check.proofs.each_once.Goals as goal

pub loop-name-preserved : goal.loop-name-preserved
loop-name-preserved c =
    let w = c.from-factor in
    let l = c.loop-name in
    rw (mark_fits w.result (omega arith))
    (used_more c.args.n c.args.names.now l.name-index l.seen w.result l.invariant w.ensures (omega arith) (omega (arith, c.level.ensures)))
