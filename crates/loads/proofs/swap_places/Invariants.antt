-- `loads::swap_places` meets its contract: what is left is to swap the columns from place i down, by the draws that follow. Assumes nothing.
use Rattle.std.proofs.Common.{◌≡◌, ◌-◌, length}
use Rattle.loads.specs.Drawing.{PlacesLeft}
use Rattle.loads.proofs.swap_places.Given as goal

abbrev pub invariant-loop-i : goal.invariant-loop-i
invariant-loop-i l = (length l.columns ≡ 16) × PlacesLeft l.n l.initial.state l.initial.columns (l.i - 1) l.state l.columns
