-- `loads::first_unused` meets its contract: `column` is as many steps up from column x + 1 as turns were made, and the columns at fewer steps are marked.
-- One that is not marked is the first unused; after f marked ones the next is not (`marks_first`). Assumes nothing.
use Rattle.std.proofs.Common.{◌≡◌, ℕ, ◌<◌, ◌≤◌, get_or}
use Rattle.load_laws.specs.Unused.{stepped}
use Rattle.loads.proofs.first_unused.Given as goal

abbrev pub invariant-loop : goal.invariant-loop
invariant-loop l = (0 < l.column) × (l.column ≤ l.last) × (l.column ≡ stepped l.last l.x l.counter)
    × ((i : ℕ) → i < l.counter → get_or l.seen (stepped l.last l.x i) 0 ≡ 0 → ⊥)
