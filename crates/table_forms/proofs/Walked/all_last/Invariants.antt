-- `table_forms::Walked::all_last` meets its contract. The invariant: every run passed is the last with its levels. Assumes nothing.
use Rattle.std.proofs.Common.{◌≡◌, ℕ, ◌<◌, get_or}
use Rattle.table_forms.proofs.Walked.all_last.Given as goal

abbrev pub invariant-loop-i : goal.invariant-loop-i
invariant-loop-i l = (j : ℕ) → j < l.i → get_or l.self.place (get_or l.self.coords j 0) 0 ≡ j
