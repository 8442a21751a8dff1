-- `patterns::products` meets its contract. The invariant: the products of the first d words are there. Assumes nothing.
use Rattle.patterns.specs.Steps.{Products}
use Rattle.patterns.proofs.products.Given as goal

abbrev pub invariant-loop-d : goal.invariant-loop-d
invariant-loop-d l = Products l.d l.words l.sums
