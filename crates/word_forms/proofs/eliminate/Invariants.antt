-- `word_forms::eliminate` meets its contract. The loop's invariant: `piv` holds the pivot words of the words passed. A word that reduces to nothing
-- depends on them; any other has a new last letter. Assumes nothing.
use Rattle.words.specs.Model.{Pivots}
use Rattle.word_forms.proofs.eliminate.Given as goal

abbrev pub invariant-loop-word : goal.invariant-loop-word
invariant-loop-word l = Pivots l.n l.word-index l.ws l.piv
