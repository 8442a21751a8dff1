-- `table_forms::Walked::candidate` meets its contract. The invariant: the column so far has a bit for each basic factor passed,
-- read off a run that has it alone low.
-- Assumes nothing.
use Rattle.std.proofs.Common.{ℕ, ◌^◌, ◌<◌}
use Rattle.table_forms.specs.Walk.{Read}
use Rattle.table_forms.proofs.Walked.candidate.Given as goal

abbrev pub invariant-loop-i : goal.invariant-loop-i
invariant-loop-i l = (l.k < 2 ^ l.i) × ((j : ℕ) → j < l.i → Read l.t l.self.coords l.f l.k j)
