-- `sign_forms::signs_of` meets its contract: the words passed have their signs. Assumes nothing.
use Rattle.std.proofs.Common.{◌≡◌}
use Rattle.regular.specs.Columns.{run_of}
use Rattle.sign_forms.proofs.signs_of.Given as goal

abbrev pub invariant-loop-i : goal.invariant-loop-i
invariant-loop-i l = l.signs ≡ run_of l.words l.i l.mask
