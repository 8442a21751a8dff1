-- `word_forms::total_from` meets its contract. The loop's invariant: `t` is the sum of `start` and the columns of the letters passed. Assumes nothing.
use Rattle.std.proofs.Common.{◌≡◌}
use Rattle.std.specs.Int.Bits.{bit_xor}
use Rattle.regular.specs.Words.{total}
use Rattle.word_forms.proofs.total_from.Given as goal

abbrev pub invariant-loop-g : goal.invariant-loop-g
invariant-loop-g g l = let d = g.T.Summand in d.number l.t ≡ bit_xor (d.number l.initial.t) (total (d.numbers l.columns) l.g l.w)
