-- `plan_layout::put_plan` meets its contract: the columns are pasted from the plan's start on, and the mask's bytes set after them. Assumes nothing.
use Rattle.std.proofs.Common.{ℕ, ◌≡◌, ◌+◌, ◌%◌, ◌/◌, sym, subst, arith, rules, length, get_or, set}
use Rattle.plan_layout.proofs.Pasted.{plan_put}
use Rattle.plan_layout.specs.Put.{PlanPut}
use Rattle.plan_layout.proofs.put_plan.Goals as goal

pub returns : goal.returns
returns c =
    let a = c.args in
    let start = c.plan_start-start.result in
    let w = c.put_first.new.out in
    let bytes = c.to_le_bytes.result in
    let long : 16 ≡ length a.columns = search rules in
    let low : get_or bytes 0 0 ≡ a.mask % 256 = search rules in
    let high : get_or bytes 1 0 ≡ a.mask / 256 = search rules in
    subst (λ (x : ℕ). PlanPut a.n a.columns a.mask a.i a.plans.now (set (set w (start + a.n) x) (start + a.n + 1) (get_or bytes 1 0))) (sym low)
    (subst (λ (x : ℕ). PlanPut a.n a.columns a.mask a.i a.plans.now (set (set w (start + a.n) (a.mask % 256)) (start + a.n + 1) x)) (sym high)
    (plan_put a.n a.columns a.mask a.i a.plans.now c.requires.1 (omega (arith, c.requires.0, long)) start w c.plan_start-start.ensures c.put_first.ensures))
