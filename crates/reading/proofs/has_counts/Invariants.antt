-- `reading::has_counts` meets its contract: the counts before i stand. Assumes nothing.
use Rattle.std.proofs.Common.{◌+◌, ◌*◌, ◌-◌, ◌≤◌, ◌≡◌}
use Rattle.reading.specs.Answers.{CountsAt}
use Rattle.reading.proofs.has_counts.Given as goal

abbrev pub invariant-loop-i : goal.invariant-loop-i
invariant-loop-i l = (2 ≤ l.i) × (l.to ≡ l.at + (l.i - 2) * 2) × CountsAt (l.i - 2) l.counts l.book l.at
