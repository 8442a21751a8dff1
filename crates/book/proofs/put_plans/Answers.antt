use Rattle.std.proofs.Common.{◌<◌, arith, length}
use Rattle.regular.specs.PlanBytes.{plan_count}
use Rattle.book.specs.Writing.{plan_entry}
use Rattle.book.specs.WritingLaws.{written_none}
use Rattle.book.specs.PlanLaws.{admitted_ok, plans_admitted_none, plans_ready, plans_more, plans_room}
use Rattle.book.proofs.put_plans.Goals as goal

pub loop-i-init : goal.loop-i-init
loop-i-init c = let a = c.args in written_none a.n (plan_entry a.n a.g a.plans.now) a.out.now

pub unwrap-plan-requires : goal.unwrap-plan-requires
unwrap-plan-requires c =
    let a = c.args in
    let less : c.loop-i.i < plan_count a.n (length a.plans.now) = omega (arith, c.plan_count-i-end.ensures, c.loop-i-test.true) in
    admitted_ok c.admit.result (plans_admitted_none a.n a.g c.requires.0.0 a.plans.now c.requires.0.1 a.out.now c.requires.1 c.loop-i.invariant less
    c.plan_at.ensures c.admit.ensures)

pub put_plan-at-requires : goal.put_plan-at-requires
put_plan-at-requires c =
    let a = c.args in
    let x = c.loop-i.invariant in
    let less : c.loop-i.i < plan_count a.n (length a.plans.now) = omega (arith, c.plan_count-i-end.ensures, c.loop-i-test.true) in
    let admitted = rw c.unwrap-plan.ensures at c.admit.ensures in (
      plans_ready a.n a.g c.requires.0.0 a.plans.now c.requires.0.1 a.out.now c.requires.1 x less c.plan_at.ensures admitted,
      plans_room a.n a.g c.requires.0.0 a.plans.now c.requires.0.1 a.out.now c.requires.1 x less,
    )

pub loop-i-preserved : goal.loop-i-preserved
loop-i-preserved c =
    let a = c.args in
    let less : c.loop-i.i < plan_count a.n (length a.plans.now) = omega (arith, c.plan_count-i-end.ensures, c.loop-i-test.true) in
    let admitted = rw c.unwrap-plan.ensures at c.admit.ensures in
    plans_more a.n a.g c.requires.0.0 a.plans.now c.requires.0.1 a.out.now c.requires.1 c.loop-i.invariant less c.plan_at.ensures admitted
    c.columns_at.ensures.0 c.put_plan-at.ensures
