-- `witness_check::each_once` meets its contract. The invariant: the names read are factors, each used once, and `seen` has their bits. Assumes nothing.
use Rattle.witness_check.specs.Names.{Used}
use Rattle.witness_check.proofs.each_once.Given as goal

abbrev pub invariant-loop-name : goal.invariant-loop-name
invariant-loop-name l = Used l.n l.names l.name-index l.seen
