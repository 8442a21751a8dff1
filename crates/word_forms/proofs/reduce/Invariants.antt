-- `word_forms::reduce` meets its contract. The loop's invariant: `v` is still to be reduced by the letters below `f`. Assumes nothing.
use Rattle.std.proofs.Common.{◌≡◌}
use Rattle.words.specs.Model.{reduced}
use Rattle.word_forms.proofs.reduce.Given as goal

abbrev pub invariant-loop-f : goal.invariant-loop-f
invariant-loop-f l = reduced l.piv l.n l.w ≡ reduced l.piv l.f l.v
