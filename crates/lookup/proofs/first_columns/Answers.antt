use Rattle.std.proofs.Common.{arith, length}
use Rattle.regular.specs.PlanBytes.{HasPlan}
use Rattle.plan_layout.specs.Places.{count_held}
use Rattle.lookup.specs.Passing.{none_more, none_found, none_all}
use Rattle.lookup.proofs.first_columns.Goals as goal

pub returns-then-has_columns : goal.returns-then-has_columns
returns-then-has_columns c =
    let there : HasPlan c.args.n c.args.list.now c.loop-i.i =
    let a = c.args in
    count_held a.n (length a.list.now) c.loop-i.i (omega (arith, c.plan_count-count.ensures, c.loop-i-test.true)) in
    let a = c.args in
    none_found a.n a.list.now a.c c.loop-i.i c.loop-i.invariant (there) (c.has_columns.ensures.0 c.if-has_columns.true)

pub loop-i-preserved : goal.loop-i-preserved
loop-i-preserved c =
    let a = c.args in
    none_more a.n a.list.now a.c c.loop-i.i c.loop-i.invariant (c.has_columns.ensures.1 c.if-has_columns.false)

pub returns : goal.returns
returns c =
    let a = c.args in
    none_all a.n a.list.now a.c c.loop-i.i c.loop-i.invariant c.requires.0 (omega (arith, c.plan_count-count.ensures))
