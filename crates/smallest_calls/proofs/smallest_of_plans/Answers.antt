-- `smallest_calls::smallest_of_plans` meets its contract: all plans and both lists are judged before any form is written. Assumes nothing.
use Rattle.std.proofs.Common.{ℕ, ◌≤◌, ◌≡◌, refl, subst, arith, length, rules}
use Rattle.std.specs.Prelude.{Err, List, false}
use Rattle.regular.specs.Answers.{number}
use Rattle.regular.specs.Refusals.{Lowest}
use Rattle.regular.specs.RefusalLaws.{number_positive}
use Rattle.regular.specs.PlanLists.{plans_faults, wanted_plans_faults}
use Rattle.regular.specs.SmallestAnswers.{each_faults}
use Rattle.plan_lists.specs.Judging.{three_plans}
use Rattle.lent.specs.Lending.{Lending, lending_lowest, lending_accepted}
use Rattle.smallest_calls.specs.Others.{others, others_most, others_lowest}
use Rattle.smallest_calls.specs.Each.{plans_some, each_refused, each_reduced}
use Rattle.smallest_calls.proofs.smallest_of_plans.Goals as goal

-- the plans judged, then the list for the forms, then that for the witnesses
module _ (n g : ℕ) (plans forms witnesses : List ℕ) (judged first : ℕ) (low : Lowest (wanted_plans_faults n g 3 false plans) judged)
    (room : Lending judged (length plans) (length forms) first) where
  lowest : (all : ℕ) → Lending first (length plans) (length witnesses) all → Lowest (each_faults n g plans forms witnesses) all
  lowest all l =
      lending_lowest (others n g plans (length plans) forms) first (length plans) witnesses all
      (others_lowest n g plans (length plans) forms judged first low room) (others_most n g plans (length plans) forms) l

  accepted : Lending first (length plans) (length witnesses) 0
      → Lowest (plans_faults n g plans) 0 × (length plans ≤ length forms) × (length plans ≤ length witnesses)
  accepted l =
      let names_fit = lending_accepted first (length plans) (length witnesses) 0 l refl in
      let forms_fit = lending_accepted judged (length plans) (length forms) first room names_fit.0 in
      (subst (Lowest (plans_faults n g plans)) forms_fit.0 (three_plans n g plans judged low), forms_fit.1, names_fit.1)

pub returns-in_err-lending : goal.returns-in_err-lending
returns-in_err-lending c =
    let a = c.args in
    let e = c.in_err-lending.field-0.0 in
    let is : c.from_residual.result ≡ Err e = search rules in
    rw is (each_refused a.n a.g a.plans.now a.forms.now a.witnesses.now (number e) (λ z. omega (arith, number_positive e))
    (lowest a.n a.g a.plans.now a.forms.now a.witnesses.now _ _ c.check_plans-judged.ensures c.lending-first.ensures.number (number e)
    c.in_err-lending.ensures.number))

pub form_each-requires : goal.form_each-requires
form_each-requires c =
    let a = c.args in
    accepted a.n a.g a.plans.now a.forms.now a.witnesses.now _ _ c.check_plans-judged.ensures c.lending-first.ensures.number c.in_ok-lending.ensures.number

pub returns : goal.returns
returns c =
    let a = c.args in
    let f = c.form_each in
    let low = c.check_plans-judged.ensures in
    let room = c.lending-first.ensures.number in
    let fit = c.in_ok-lending.ensures.number in
    each_reduced a.n a.g a.plans.now a.forms.now f.new.forms a.witnesses.now f.new.witnesses
    (plans_some a.n a.g a.plans.now (accepted a.n a.g a.plans.now a.forms.now a.witnesses.now _ _ low room fit).0)
    (lowest a.n a.g a.plans.now a.forms.now a.witnesses.now _ _ low room 0 fit) f.ensures
