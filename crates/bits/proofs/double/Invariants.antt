-- `bits::double` meets its contract: the first k numbers stand again, summed, from the half on. Assumes nothing.
use Rattle.gf2.specs.Doubling.{Doubling}
use Rattle.bits.proofs.double.Given as goal

abbrev pub invariant-loop-k : goal.invariant-loop-k
invariant-loop-k g l = let d = g.T.Summand in Doubling (d.number l.by) l.half l.k (d.numbers l.initial.table) (d.numbers l.table)
