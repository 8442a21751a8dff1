use Rattle.table_forms.specs.Turns.{fits_more}
use Rattle.table_forms.proofs.misfits.Goals as goal

pub loop-i-preserved : goal.loop-i-preserved
loop-i-preserved c = fits_more _ _ _ _ _ _ _ _ _ c.loop-i.auto.i c.level.ensures.0 c.parity.ensures.0 c.loop-i.invariant
