-- `table_forms::fits` meets its contract. The invariant: the column fits every run before `from`. The measure is what is left of the runs. Assumes nothing.
use Rattle.std.proofs.Common.{ℕ, ◌-◌, ◌<◌, ◌≤◌, length}
use Rattle.table_forms.specs.Walk.{FitsAt}
use Rattle.table_forms.proofs.fits.Given as goal

abbrev pub invariant-loop-end : goal.invariant-loop-end
invariant-loop-end l = (l.from ≤ length l.t) × ((l.from < l.end) × ((i : ℕ) → i < l.from → FitsAt l.t l.coords l.f l.k i))

abbrev pub decreases-loop-end : goal.decreases-loop-end
decreases-loop-end l = length l.t - l.from
