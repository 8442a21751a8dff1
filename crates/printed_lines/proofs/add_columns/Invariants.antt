-- The columns that were passed are added, each within 4 bytes. Assumes nothing.
use Rattle.std.proofs.Common.{◌+◌, ◌*◌, ◌≤◌}
use Rattle.printed_lines.specs.Text.{TextAdded, columns_text}
use Rattle.printed_lines.proofs.add_columns.Given as goal

abbrev pub invariant-loop-f : goal.invariant-loop-f
invariant-loop-f l = (l.end ≤ l.at + 4 * l.f) × TextAdded l.initial.out l.out l.at (columns_text l.f l.columns) l.end
