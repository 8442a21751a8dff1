-- `generators::generators` meets its contract. The loop's invariant is `WordsWalk`: after f factors the basics stand in their array as letters, and
-- the words of the others in theirs. A turn puts one factor into one of the two. Assumes nothing.
use Rattle.generators.specs.Walk.{WordsWalk}
use Rattle.generators.proofs.generators.Given as goal

abbrev pub invariant-loop-f : goal.invariant-loop-f
invariant-loop-f l = WordsWalk l.columns l.f l.m l.unit l.basics l.words
