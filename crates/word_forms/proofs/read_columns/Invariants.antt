-- `word_forms::read_columns` meets its contract. The loop's invariant: each factor passed has its column, the other places are 0, and `unit` is the next
-- unit. Assumes nothing.
use Rattle.std.proofs.Common.{◌≡◌, ◌^◌, replicate}
use Rattle.gf2.specs.Fill.{Filled}
use Rattle.words.specs.Model.{free_before}
use Rattle.word_forms.specs.Turns.{column_of}
use Rattle.word_forms.proofs.read_columns.Given as goal

abbrev pub invariant-loop-f : goal.invariant-loop-f
invariant-loop-f l = (l.unit ≡ 2 ^ free_before l.piv l.f) × Filled (column_of l.piv l.n) (replicate 16 0) l.f l.a
