-- Each turn adds the line of the next record, which is an entry. Assumes nothing.
use Rattle.std.proofs.Common.{◌+◌, ◌*◌, ◌≤◌}
use Rattle.printing.specs.Output.{EntryLines}
use Rattle.printing.proofs.add_entries.Given as goal

abbrev pub invariant-loop-i : goal.invariant-loop-i
invariant-loop-i l = (l.end ≤ 102 + 177 * l.i) × EntryLines l.n l.g l.i l.list l.initial.out l.out l.at l.end
