-- `plan_lists::check_resolution` meets its contract: no word is shorter than 3; else the pattern decides. Assumes nothing.
use Rattle.std.proofs.Common.{◌-◌}
use Rattle.regular.specs.Columns.{plan_of}
use Rattle.counts.specs.ShortWords.{count_short, none_short}
use Rattle.plan_lists.specs.Judging.{ready_long, wanted_low, wanted_none, wanted_short}
use Rattle.plan_lists.proofs.check_resolution.Goals as goal

pub returns-then-r-le3 : goal.returns-then-r-le3
returns-then-r-le3 c =
    let a = c.args in
    wanted_low a.n a.r (plan_of a.n (a.n - a.g) a.plan.columns) c.if-r-le3.true (ready_long c.requires)

pub returns-then-word_below : goal.returns-then-word_below
returns-then-word_below c =
    wanted_short _ _ _ (count_short c.pattern-counts.ensures.0 c.args.r (c.word_below.ensures.0 c.if-word_below.true))

pub returns : goal.returns
returns c =
    wanted_none _ _ _ (none_short c.pattern-counts.ensures.0 c.args.r (c.word_below.ensures.1 c.if-word_below.false))
