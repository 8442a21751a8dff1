use Rattle.plan_lists.specs.Judging.{judged_more}
use Rattle.plan_lists.proofs.check_each.Goals as goal

pub loop-i-preserved : goal.loop-i-preserved
loop-i-preserved c =
    let a = c.args in
    judged_more a.n a.g a.r a.bare a.plans.now c.loop-i.invariant c.plan_at-plan.ensures c.check_bytes-of_plan.ensures c.lower-lowest.ensures
