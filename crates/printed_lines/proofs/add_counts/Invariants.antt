-- The counts that were passed are added, each within 6 bytes; below three letters there is none. Assumes nothing.
use Rattle.std.proofs.Common.{◌+◌, ◌*◌, ◌-◌, ◌≤◌}
use Rattle.printed_lines.specs.Text.{TextAdded, counts_text}
use Rattle.printed_lines.proofs.add_counts.Given as goal

abbrev pub invariant-loop-l : goal.invariant-loop-l
invariant-loop-l l =
    (l.l - 2 ≤ l.n - 2) × (l.end ≤ l.at + 6 * (l.l - 2)) × TextAdded l.initial.out l.out l.at (counts_text l.l l.counts) l.end
