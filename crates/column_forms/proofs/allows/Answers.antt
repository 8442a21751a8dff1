-- `column_forms::allows` meets its contract: the mask 0 is allowed, one past factor n is not, and any other is if clearing it at the units of the
-- standard columns changes nothing. Assumes nothing.
use Rattle.std.proofs.Common.{arith}
use Rattle.column_forms.specs.Allowing.{allows_past, allows_cleared}
use Rattle.column_forms.proofs.allows.Goals as goal

pub returns-then-power-from : goal.returns-then-power-from
returns-then-power-from c =
    allows_past _ _ _ (omega (arith, c.from.ensures)) (omega (arith, c.from.ensures, c.power.ensures.0))

pub returns : goal.returns
returns c =
    allows_cleared _ _ _ _ _ c.requires.2 c.walk.ensures _ _ c.mask_of.ensures
    (omega (arith, c.from.ensures, c.power.ensures.0))
