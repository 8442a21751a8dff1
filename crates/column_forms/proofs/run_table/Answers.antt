use Rattle.std.proofs.Common.{refl, arith}
use Rattle.column_forms.specs.TableLaws.{runs_none, runs_more}
use Rattle.gf2.specs.DigitLaws.{pow_half, pow_twice}
use Rattle.column_forms.proofs.run_table.Goals as goal

pub loop-d-init : goal.loop-d-init
loop-d-init c = (refl, runs_none _ _)

pub double-requires : goal.double-requires
double-requires c =
    let d = c.loop-d.d in
    omega (arith, pow_half d 7 (omega arith) (omega arith), c.loop-d.invariant.1.places)

pub loop-d-preserved : goal.loop-d-preserved
loop-d-preserved c =
    let i = c.loop-d.invariant in
    (pow_twice _ _ i.0, runs_more _ _ _ _ _ _ _ i.0 c.unit_run-u.ensures i.1 c.double.ensures)
