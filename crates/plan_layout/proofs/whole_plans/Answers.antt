-- `plan_layout::whole_plans` meets its contract: the plans end where the bytes do, or no count of plans ends there. Assumes nothing.
use Rattle.std.proofs.Common.{◌≡◌, ◌∙◌, sym, ap, eqb-true}
use Rattle.std.proofs.lemmas.Bool.{eqb-false}
use Rattle.regular.specs.PlanBytes.{plan_start, plan_count}
use Rattle.plan_layout.specs.Places.{start_first, start_whole}
use Rattle.plan_layout.proofs.whole_plans.Goals as goal

pub returns-then-count-eq0 : goal.returns-then-count-eq0
returns-then-count-eq0 c =
    let a = c.args in
    let none : plan_start a.n (plan_count a.n a.len) ≡ 0 =
    ap (plan_start a.n) (sym c.plan_count-count.ensures ∙ c.if-count-eq0.true) ∙ start_first a.n in (
      (λ y. eqb-true a.len 0 y ∙ sym none),
      (λ y count whole. eqb-false a.len 0 y (start_whole a.n a.len count whole ∙ none)),
    )

pub returns : goal.returns
returns c =
    let a = c.args in
    let e = ap (plan_start a.n) c.plan_count-count.ensures in
    let end = c.plan_start in (
      (λ y. sym (eqb-true end.result a.len y) ∙ end.ensures ∙ e),
      (λ y count whole. eqb-false end.result a.len y (end.ensures ∙ e ∙ sym (start_whole a.n a.len count whole))),
    )
