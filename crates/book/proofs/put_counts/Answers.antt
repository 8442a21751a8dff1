use Rattle.book.specs.PutLaws.{counts_start, counts_turn}
use Rattle.book.proofs.put_counts.Goals as goal

pub loop-i-init : goal.loop-i-init
loop-i-init c = counts_start c.args.n c.args.counts c.args.at c.args.out.now

pub loop-i-preserved : goal.loop-i-preserved
loop-i-preserved c =
    counts_turn c.requires.1 c.loop-i-test.true c.loop-i.invariant c.put_number.ensures
