use Rattle.std.proofs.Common.{arith}
use Rattle.patterns.proofs.Laws.{counts_none, counts_le, counts_more}
use Rattle.patterns.proofs.letter_counts.Goals as goal

pub loop-w-init : goal.loop-w-init
loop-w-init c = counts_none _

pub overflow_add-counts : goal.overflow_add-counts
overflow_add-counts c =
    record { fits = omega (arith, counts_le c.loop-w.w-index c.letters.result _ _ c.letters.ensures.1 c.loop-w.invariant) }

pub loop-w-preserved : goal.loop-w-preserved
loop-w-preserved c = counts_more c.loop-w.w-index c.letters.result _ _ c.letters.ensures.0 c.letters.ensures.1 c.loop-w.invariant
