-- `sign_forms::signs_at_a` meets its contract. The loop's invariant: the words passed stand with their signs in the place of letter A. Assumes nothing.
use Rattle.std.proofs.Common.{replicate}
use Rattle.gf2.specs.Fill.{Filled}
use Rattle.signs.specs.SignLetter.{signed_at}
use Rattle.sign_forms.proofs.signs_at_a.Given as goal

abbrev pub invariant-loop-i : goal.invariant-loop-i
invariant-loop-i l = Filled (signed_at l.words l.signs) (replicate 16 0) l.i l.signed
