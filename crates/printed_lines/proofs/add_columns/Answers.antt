use Rattle.std.proofs.Common.{◌<◌, ap, arith, ℕ}
use Rattle.printed_lines.specs.Text.{next}
use Rattle.printed_lines.specs.Adding.{columns_none, adds_is, next_short, column_turn}
use Rattle.printed_lines.proofs.add_columns.Goals as goal

pub loop-f-init : goal.loop-f-init
loop-f-init c = (omega arith, columns_none _ _ c.args.columns)

pub loop-f-preserved : goal.loop-f-preserved
loop-f-preserved c =
    let l = c.loop-f in
    let w = c.from in
    let h = c.add_next-end.ensures in
    let byte : w.result < 1000 = omega (arith, w.ensures, c.loop-f-test.element_fits.fits) in (
      omega (arith, h.0.place, next_short 2 w.result byte, l.invariant.0),
      column_turn c.args.columns l.f l.invariant.1 (adds_is (ap (λ (x : ℕ). next x) w.ensures) h.0),
    )
