-- `book::write_book` meets its contract: all is judged, the header is begun, then the entries follow. Assumes nothing.
use Rattle.std.proofs.Common.{◌≡◌, refl, true, length, rules, arith}
use Rattle.std.specs.Prelude.{Err}
use Rattle.regular.specs.Answers.{refusal_of}
use Rattle.regular.specs.PlanBytes.{plan_count}
use Rattle.regular.specs.RefusalLaws.{number_positive}
use Rattle.plan_lists.specs.Accepted.{plans_accepted, plans_most}
use Rattle.book.specs.WritingLaws.{refusal_none, begun_room, writes_refused, writes_book}
use Rattle.book.specs.PlanLaws.{plans_bounds}
use Rattle.book.proofs.write_book.Goals as goal

pub begin-requires : goal.begin-requires
begin-requires c =
    let a = c.args in
    let j = c.check_plans-judged in
    plans_bounds a.n a.g a.r (refusal_of j.result) a.plans.now j.ensures

pub returns-in_err-begin : goal.returns-in_err-begin
returns-in_err-begin c =
    let a = c.args in
    let e = c.in_err-begin.field-0.0 in
    let up : c.from_residual.result ≡ Err e = search rules in
    let opened = rw c.plan_count-count.ensures at c.in_err-begin.ensures in
    rw up (writes_refused (plans_most a.n a.g a.r true a.plans.now) c.check_plans-judged.ensures opened (λ z. omega (arith, number_positive e)))

pub put_plans-requires : goal.put_plans-requires
put_plans-requires c =
    let a = c.args in
    let j = c.check_plans-judged in
    let opened = rw c.plan_count-count.ensures at c.in_ok-begin.ensures in
    let none = refusal_none a.n (plan_count a.n (length a.plans.now)) (refusal_of j.result) (length a.out.now) 0 refl opened.refusal in
    ((a.r, plans_accepted a.n a.g a.r a.plans.now (rw none.plans at j.ensures)), begun_room opened refl)

pub returns : goal.returns
returns c =
    let a = c.args in
    let opened = rw c.plan_count-count.ensures at c.in_ok-begin.ensures in
    writes_book (plans_most a.n a.g a.r true a.plans.now) c.check_plans-judged.ensures opened refl c.put_plans.ensures
