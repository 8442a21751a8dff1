use Rattle.std.proofs.Common.{refl, ap, ◌∙◌, arith}
use Rattle.gf2.specs.Digits.{bit}
use Rattle.regular.specs.Columns.{run_of}
use Rattle.column_forms.specs.TableLaws.{unit_turn}
use Rattle.column_forms.proofs.unit_run.Goals as goal

pub loop-f-init : goal.loop-f-init
unfolding run_of
loop-f-init c = refl

pub loop-f-preserved : goal.loop-f-preserved
loop-f-preserved c =
    unit_turn _ _ _ _ _ (omega arith) c.loop-f.invariant (c.level-x.ensures.0 ∙ ap (bit c.args.d) c.from.ensures)
