use Rattle.std.proofs.Common.{◌≡◌, ◌+◌, ◌≤◌, refl, true, length, subst, le_antisymm, rules, arith}
use Rattle.std.proofs.lemmas.List.{get_or_default}
use Rattle.std.specs.Prelude.{Err}
use Rattle.regular.specs.Answers.{refusal_of}
use Rattle.regular.specs.Book.{entry_length, entry_of_design}
use Rattle.regular.specs.Designs.{blank}
use Rattle.regular.specs.RefusalLaws.{number_positive}
use Rattle.regular.specs.Refusals.{Lowest, design_faults}
use Rattle.regular.specs.declared.Design.{Design}
use Rattle.plan_lists.specs.Accepted.{records_most}
use Rattle.book.specs.Writing.{PutEntry}
use Rattle.book.specs.WritingLaws.{writes_refused}
use Rattle.book.specs.DesignLaws.{records_bounds, so_far_start, so_far_room, so_far_more, so_far_end}
use Rattle.book.proofs.write_book_of_designs.Goals as goal

pub begin-requires : goal.begin-requires
begin-requires c =
    let a = c.args in
    let j = c.check_records-judged in
    records_bounds a.n a.g a.r (refusal_of j.result) a.list.now j.ensures

pub returns-in_err-at : goal.returns-in_err-at
returns-in_err-at c =
    let a = c.args in
    let e = c.in_err-at.field-0.0 in
    let up : c.from_residual.result ≡ Err e = search rules in
    rw up (writes_refused (records_most a.n a.g a.r true a.list.now) c.check_records-judged.ensures c.in_err-at.ensures
    (λ z. omega (arith, number_positive e)))

pub loop-d-init : goal.loop-d-init
loop-d-init c = so_far_start c.check_records-judged.ensures c.in_ok-at.ensures

pub put_design-at-requires : goal.put_design-at-requires
put_design-at-requires c =
    let a = c.args in
    let l = c.loop-d in
    let t = c.loop-d-test.true in
    let At : Design → Type 0 = λ d. Lowest (design_faults a.n a.g d) 0 × (l.at + entry_length a.n ≤ length l.out) in
    subst At (get_or_default a.list.now l.d-index blank _ t) (so_far_room l.invariant t refl)

pub loop-d-preserved : goal.loop-d-preserved
loop-d-preserved c =
    let a = c.args in
    let l = c.loop-d in
    let p = c.put_design-at in
    let At : Design → Type 0 = λ d. PutEntry a.n (entry_of_design a.n a.g d) l.at l.out p.new.out p.result in
    so_far_more l.invariant (record {
      refused = λ h. absurd (omega arith);
      added = λ _. (refl, subst At (get_or_default a.list.now l.d-index _ blank c.loop-d-test.true) p.ensures);
    })

pub returns : goal.returns
returns c = so_far_end c.loop-d.invariant (le_antisymm c.loop-d.auto.d-index-end c.loop-d-test.false)
