-- `smallest_calls::form_into` meets its contract: the plan is accepted and the lists have the places, so the form is found and lent, and the witness's
-- mask put after its names. Assumes nothing.
use Rattle.std.proofs.Common.{◌-◌, ◌≤◌, ◌∙◌, sym, refl, subst, arith, length, rules}
use Rattle.regular.specs.Given.{of_columns}
use Rattle.regular.specs.SmallestAnswers.{Formed}
use Rattle.plan_layout.specs.Places.{columns_within}
use Rattle.smallest_calls.specs.Placed.{LentPlan, put_lent, formed_ok, formed_accepted, lent_form, named_form}
use Rattle.smallest_calls.proofs.form_into.Goals as goal

pub unwrap-form-requires : goal.unwrap-form-requires
unwrap-form-requires c =
    let a = c.args in
    let fits : a.n ≤ length a.witness.now = omega (arith, c.requires.2, columns_within a.n) in
    formed_ok _ (formed_accepted c.form_of.ensures c.requires.0 fits)

pub put_plan-requires : goal.put_plan-requires
put_plan-requires c = (((rw c.unwrap-form.ensures at c.form_of.ensures).sizes refl).most, search rules)

pub returns : goal.returns
returns c =
    let a = c.args in
    let p = c.requires in
    let b = (rw c.unwrap-form.ensures at c.form_of.ensures).made in
    let exit = c.put_mask.new.plan in
    let filled = c.put_plan.new.plans in
    let lent : LentPlan a.n c.unwrap-form.result.design.columns a.out.now filled = put_lent (omega (arith, p.1)) c.put_plan.ensures in
    let m = c.put_mask.ensures in
    record {
      form = subst (Formed a.n (a.n - a.g) (of_columns a.n a.g a.plan.now) filled exit) (sym m.mask)
          (named_form (lent_form (b.design refl).columns lent.columns) m.columns);
      unswitched = lent.unswitched;
      size = (lent.size ∙ p.1, m.size ∙ b.size ∙ p.2);
    }
