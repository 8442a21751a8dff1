use Rattle.std.proofs.Common.{ℕ, List, length, ◌≡◌, ◌∙◌, refl, ap, arith, rules, get_or}
use Rattle.std.specs.Prelude.{Ok, Err}
use Rattle.regular.specs.Answers.{read_answer}
use Rattle.regular.specs.PlanBytes.{plan_start}
use Rattle.reading.specs.AnswerLaws.{taken_there}
use Rattle.reading.specs.Filling.{filled_no_plans, plan_room, plan_more, plans_read_lem}
use Rattle.reading.specs.Steps.{columns_long}
use Rattle.reading.proofs.list_book.Goals as goal

pub returns-in_err-header : goal.returns-in_err-header
returns-in_err-header c =
    let a = c.args in
    let e = c.in_err-header.field-0.0 in
    let up : c.from_residual.result ≡ Err e = search rules in
    let refused = read_answer (Err e) in
    rw up (plans_read_lem refused a.book.now a.out.now a.out.now c.in_err-header.ensures 0 (omega arith) (filled_no_plans refused a.book.now a.out.now))

pub columns_in-requires : goal.columns_in-requires
columns_in-requires c =
    let a = c.args in
    rw c.from-n.ensures
    (taken_there plan_start (length a.out.now) a.book.now (read_answer (Ok c.in_ok-header.header)) c.in_ok-header.ensures refl c.loop-i.i c.loop-i-test.true)

pub array_of-columns-requires : goal.array_of-columns-requires
array_of-columns-requires c =
    let a = c.args in
    let h = c.in_ok-header.header in
    let here = taken_there plan_start (length a.out.now) a.book.now (read_answer (Ok h)) c.in_ok-header.ensures refl c.loop-i.i c.loop-i-test.true in
    omega (arith, here.size, columns_long h.factors a.book.now c.loop-i.i here (rw c.from-n.ensures at c.columns_in.ensures))

pub put_plan-requires : goal.put_plan-requires
put_plan-requires c =
    let a = c.args in
    let l = c.loop-i in
    let h = read_answer (Ok c.in_ok-header.header) in
    let here = taken_there plan_start (length a.out.now) a.book.now h c.in_ok-header.ensures refl l.i c.loop-i-test.true in
    rw c.from-n.ensures (here.size, plan_room h a.book.now a.out.now l.out l.i c.in_ok-header.ensures l.invariant c.loop-i-test.true)

pub loop-i-preserved : goal.loop-i-preserved
loop-i-preserved c =
    let a = c.args in
    let l = c.loop-i in
    plan_more (read_answer (Ok c.in_ok-header.header)) a.book.now a.out.now l.out l.i c.in_ok-header.ensures l.invariant c.loop-i-test.true c.from-n.ensures
    (λ f h. c.array_of-columns.ensures f ∙ ap (λ (x : List ℕ). get_or x f 0) c.columns_in.ensures) c.put_plan.ensures

pub returns : goal.returns
returns c =
    let a = c.args in
    plans_read_lem (read_answer (Ok c.in_ok-header.header)) a.book.now a.out.now c.loop-i.out c.in_ok-header.ensures c.loop-i.i c.loop-i-test.false
    c.loop-i.invariant
