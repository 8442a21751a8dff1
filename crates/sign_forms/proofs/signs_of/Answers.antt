use Rattle.std.proofs.Common.{refl, arith}
use Rattle.regular.specs.Columns.{run_of}
use Rattle.sign_forms.specs.Turns.{run_turn}
use Rattle.sign_forms.proofs.signs_of.Goals as goal

pub loop-i-init : goal.loop-i-init
unfolding run_of
loop-i-init c = refl

pub loop-i-preserved : goal.loop-i-preserved
loop-i-preserved c = run_turn _ _ _ _ _ (omega arith) c.loop-i.invariant c.parity.ensures.0
