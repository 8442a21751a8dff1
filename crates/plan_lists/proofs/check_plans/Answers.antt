-- `plan_lists::check_plans` meets its contract: the sizes, then the count of bytes, then each plan. Assumes nothing.
use Rattle.std.proofs.Common.{rules, refl}
use Rattle.regular.specs.Answers.{refusal_of}
use Rattle.plan_lists.specs.Judging.{sizes_passed_on, plans_four, judged_all}
use Rattle.plan_lists.proofs.check_plans.Goals as goal

pub returns-in_err-check_bounds : goal.returns-in_err-check_bounds
returns-in_err-check_bounds c =
    let a = c.args in
    let q = c.in_err-check_bounds in
    sizes_passed_on a.n a.g a.r a.bare a.plans.now q.field-0.0 c.from_residual.result (search rules) q.ensures.2 q.ensures.0

pub returns-then-not-whole_plans : goal.returns-then-not-whole_plans
returns-then-not-whole_plans c =
    let a = c.args in
    plans_four a.n a.g a.r a.bare a.plans.now c.in_ok-check_bounds.ensures.0 (c.whole_plans.ensures.1 c.if-not-whole_plans.true)

pub returns : goal.returns
returns c =
    let a = c.args in
    let z = c.in_ok-check_bounds.ensures.1 refl in
    judged_all a.n a.g a.r a.bare a.plans.now (c.whole_plans.ensures.0 c.if-not-whole_plans.false) z.size.some (refusal_of c.check_each.result)
    c.check_each.ensures
