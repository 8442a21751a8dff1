-- `forms::list_runs_of_columns` meets its contract: the admitted plan is that of the bytes, which are those of one plan. Assumes nothing.
use Rattle.std.proofs.Common.{rules, refl, arith, ap, ◌≡◌, ◌∙◌, ℕ, ◌+◌, get_or, Ok, Err}
use Rattle.forms.specs.Made.{given_fills}
use Rattle.admission.specs.Admitting.{columns_count}
use Rattle.plan_layout.specs.Places.{plan_column}
use Rattle.lent.specs.Lends.{lends_refused}
use Rattle.regular.specs.Answers.{number, admitted_of}
use Rattle.regular.specs.RefusalLaws.{number_positive}
use Rattle.regular.specs.PlanBytes.{plan_start, mask_in}
use Rattle.forms.proofs.list_runs_of_columns.Goals as goal

pub returns-in_err-admitted : goal.returns-in_err-admitted
returns-in_err-admitted c =
    let ad = c.in_err-admitted.ensures in
    let e = c.in_err-admitted.field-0.0 in
    let plan = c.args.plan.now in
    let o = c.args.out.now in
    let up : c.from_residual.result ≡ Err e = search rules in
    rw up
    (given_fills {x = admitted_of (Err e)} ad plan plan (mask_in c.args.n plan) o o (number e) (λ f _. refl) ad.starts
    (lends_refused (number e) _ _ o (λ z. omega (arith, number_positive e))))

pub columns_at-columns-requires : goal.columns_at-columns-requires
columns_at-columns-requires c =
    let a = c.args in
    let ad = c.in_ok-admitted.ensures in
    ((ad.size refl).most, omega (arith, columns_count a.n a.g a.plan.now 0 refl ad.lowest))

pub returns : goal.returns
returns c =
    let a = c.args in
    let ad = c.in_ok-admitted.ensures in
    let o = c.columns_at-columns in
    let l = c.lend_runs in
    let plan = a.plan.now in
    let first : (f : ℕ) → plan_start a.n 0 + f ≡ f = λ f. omega arith in
    given_fills {x = admitted_of (Ok c.in_ok-admitted.admitted)} ad o.result plan (mask_in a.n plan) a.out.now l.new.out _
    (λ f h. o.ensures.0 f h ∙ plan_column a.n plan 0 f h ∙ ap (λ (i : ℕ). get_or plan i 0) (first f)) ad.starts l.ensures
