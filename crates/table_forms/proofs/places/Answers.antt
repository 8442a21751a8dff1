use Rattle.std.proofs.Common.{arith}
use Rattle.table_forms.specs.Turns.{latest_none}
use Rattle.table_forms.proofs.places.Goals as goal

pub loop-i-init : goal.loop-i-init
loop-i-init c = latest_none _ _ (omega arith)
