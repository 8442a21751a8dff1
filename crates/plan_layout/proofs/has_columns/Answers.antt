-- `plan_layout::has_columns` meets its contract: the columns are compared as lists, then the mask. Assumes nothing.
use Rattle.std.proofs.Common.{◌≡◌, ◌∙◌, ap, sym, arith, rules, length, take, eqb-true}
use Rattle.std.proofs.lemmas.Bool.{eqb-false}
use Rattle.std.proofs.lemmas.Bool.Decides.{Decides-eqb}
use Rattle.std.proofs.lemmas.Slice.Eq.{slice_eq-Decides}
use Rattle.gf2.specs.Truth.{clash}
use Rattle.regular.specs.PlanBytes.{plan_at, mask_in}
use Rattle.plan_layout.specs.Places.{plan_size}
use Rattle.plan_layout.proofs.Records.{first_equal, equal_first}
use Rattle.plan_layout.proofs.has_columns.Goals as goal

pub returns-then-eq : goal.returns-then-eq
returns-then-eq c =
    let a = c.args in
    let is = c.plan_at-plan.ensures in
    let plan = plan_at a.n a.plans.now a.i in
    let long : 16 ≡ length a.c = search rules in
    let d = slice_eq-Decides Decides-eqb (take a.n c.plan_at-plan.result.now) (take a.n a.c) c.eq.result c.eq.ensures in
    let same = first_equal a.n plan a.c (omega (arith, plan_size a.n a.plans.now a.i c.requires.1)) (omega (arith, c.requires.0, long))
    (ap (take a.n) (sym is) ∙ d.0 c.if-eq.true) in (
      (λ y. (same, ap (mask_in a.n) (sym is) ∙ sym c.mask_in.ensures ∙ eqb-true c.mask_in.result 0 y)),
      (λ y o. eqb-false c.mask_in.result 0 y (c.mask_in.ensures ∙ ap (mask_in a.n) is ∙ o.1)),
    )

pub returns-else-eq : goal.returns-else-eq
returns-else-eq c =
    let a = c.args in
    let is = c.plan_at-plan.ensures in
    let plan = plan_at a.n a.plans.now a.i in
    let long : 16 ≡ length a.c = search rules in
    let d = slice_eq-Decides Decides-eqb (take a.n c.plan_at-plan.result.now) (take a.n a.c) c.eq.result c.eq.ensures in (
      (λ y. absurd (clash y c.if-eq.false)),
      (λ y o. clash
          (d.1 (ap (take a.n) is ∙ equal_first a.n plan a.c
          (omega (arith, plan_size a.n a.plans.now a.i c.requires.1)) (omega (arith, c.requires.0, long)) o.0)) y),
    )
