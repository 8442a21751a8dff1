use Rattle.std.proofs.Common.{◌-◌, refl, arith}
use Rattle.gf2.specs.DigitLaws.{pow_half}
use Rattle.loads.specs.DrawingLaws.{last_of_lem, drawing_none, drawing_basic, drawing_later}
use Rattle.loads.proofs.draw_columns.Goals as goal

pub loop-f-init : goal.loop-f-init
loop-f-init c =
    let a = c.args in
    (last_of_lem a.n a.m c.power-last.result c.requires c.power-last.ensures.0, drawing_none a.m a.seed _ refl)

pub loop-f-preserved : goal.loop-f-preserved
loop-f-preserved c =
    let l = c.loop-f in
    let a = c.args in
    let low = pow_half l.f a.m (omega arith) c.requires.few in (
      l.invariant.0,
      drawing_basic a.m a.seed l.f l.columns l.seen a.seed l.invariant.1 (omega (arith, c.requires.most)) c.power-x.result (omega arith)
          (omega (arith, c.power-x.ensures.0, low)) c.power-x.ensures.0,
    )

pub loop-f-2-preserved : goal.loop-f-2-preserved
loop-f-2-preserved c =
    let l = c.loop-f-2 in
    let a = c.args in
    let o = c.first_unused-x in (
      l.invariant.0,
      drawing_later a.m a.seed l.f l.columns l.seen l.state l.invariant.1
          (omega (arith, c.requires.most)) (c.power-last.result - 1)
          c.remainder.result o.result c.next_state-state.result (omega arith) l.invariant.0.is o.ensures.0
          (omega (arith, o.ensures.1, l.invariant.0.most)) c.next_state-state.ensures c.remainder.ensures.0
          (o.ensures.2 l.columns l.invariant.1.marks),
    )
