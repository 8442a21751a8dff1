use Rattle.std.proofs.Common.{subst, get_or, le_antisymm}
use Rattle.std.proofs.lemmas.List.{get_or_default}
use Rattle.regular.specs.Answers.{refusal_of}
use Rattle.regular.specs.Designs.{blank}
use Rattle.regular.specs.Refusals.{Lowest, size_faults}
use Rattle.regular.specs.declared.Design.{Design}
use Rattle.plan_lists.specs.Judged.{design_wanted}
use Rattle.plan_lists.specs.Judging.{joined_next, records_all}
use Rattle.plan_lists.proofs.check_records.Goals as goal

pub loop-design-preserved : goal.loop-design-preserved
loop-design-preserved c =
    let a = c.args in
    let l = c.loop-design in
    let q = c.check_record-of_record in
    let At : Design → Type 0 = λ d. Lowest (design_wanted a.n a.g a.r a.bare d) (refusal_of q.result) in
    joined_next (size_faults a.n a.g a.r) (λ j. design_wanted a.n a.g a.r a.bare (get_or a.list.now j blank)) l.design-index (refusal_of l.lowest)
    (refusal_of c.lower-lowest.result) l.invariant
    (record {
      number = refusal_of q.result;
      own = subst At (get_or_default a.list.now l.design-index _ blank c.loop-design-test.true) q.ensures;
      lower = c.lower-lowest.ensures;
    })

pub returns : goal.returns
returns c =
    let a = c.args in
    let l = c.loop-design in
    records_all a.n a.g a.r a.bare a.list.now l.design-index (refusal_of l.lowest) (le_antisymm l.auto.design-index-end c.loop-design-test.false) l.invariant
