-- `column_forms::standardize` meets its contract: the walk over all columns has found what it can. Assumes nothing.
use Rattle.std.proofs.Common.{◌∙◌, sym}
use Rattle.column_forms.specs.Walk.{walk_full, walk_short}
use Rattle.column_forms.proofs.standardize.Goals as goal

pub returns-then-w-power : goal.returns-then-w-power
returns-then-w-power c =
    walk_short _ _ _ _ _ c.requires.2 c.walk-w.ensures (λ e. c.if-w-power.true (e ∙ sym c.power.ensures.0))

pub returns : goal.returns
returns c =
    walk_full _ _ _ _ _ c.requires.2 c.walk-w.ensures (c.if-w-power.false ∙ c.power.ensures.0)
