use Rattle.std.proofs.Common.{◌<◌, arith, length}
use Rattle.regular.specs.PlanBytes.{plan_count}
use Rattle.smallest_calls.specs.Each.{reduced_fits, turn_columns, turn_place, turn_more}
use Rattle.smallest_calls.proofs.form_each.Goals as goal

pub form_into-requires : goal.form_into-requires
form_into-requires c =
    let a = c.args in
    let q = c.requires in
    let l = c.loop-i in
    let from = c.plan_start-start in
    let to = c.plan_start-end in
    let less : l.i < plan_count a.n (length a.plans.now) = omega arith in
    let fits = reduced_fits a.n a.g a.plans.now q.0 a.forms.now a.witnesses.now q.1 q.2 l.i l.forms l.witnesses l.invariant less in
    let place = turn_place a.n a.g a.plans.now q.0 a.forms.now a.witnesses.now q.1 q.2 l.i l.forms l.witnesses l.invariant less
    from.result to.result from.ensures to.ensures in (
      turn_columns a.n a.g a.plans.now q.0 a.forms.now a.witnesses.now q.1 q.2 l.i l.forms l.witnesses l.invariant less
          from.result to.result from.ensures to.ensures,
      place l.forms fits.0,
      place l.witnesses fits.1,
    )

pub loop-i-preserved : goal.loop-i-preserved
loop-i-preserved c =
    let a = c.args in
    let q = c.requires in
    let l = c.loop-i in
    let from = c.plan_start-start in
    let to = c.plan_start-end in
    let less : l.i < plan_count a.n (length a.plans.now) = omega arith in
    turn_more a.n a.g a.plans.now q.0 a.forms.now a.witnesses.now q.1 q.2 l.i l.forms l.witnesses l.invariant less
    from.result to.result from.ensures to.ensures c.form_into.new.out c.form_into.new.witness c.form_into.ensures
