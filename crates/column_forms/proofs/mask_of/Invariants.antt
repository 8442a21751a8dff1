-- `column_forms::mask_of` meets its contract: after f columns the run is cleared at the units among them. Assumes nothing.
use Rattle.column_forms.specs.MaskWalk.{MaskWalk}
use Rattle.column_forms.proofs.mask_of.Given as goal

abbrev pub invariant-loop-f : goal.invariant-loop-f
invariant-loop-f l = MaskWalk l.n l.columns l.f l.d l.unit l.x l.mask
