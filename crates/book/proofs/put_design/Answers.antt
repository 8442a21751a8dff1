-- `book::put_design` meets its contract: the entry by the standard columns is the record's. Assumes nothing.
use Rattle.std.proofs.Common.{◌-◌, refl}
use Rattle.regular.specs.Columns.{plan_of}
use Rattle.words.specs.Switches.{pattern_switched}
use Rattle.book.specs.PlanLaws.{entry_of}
use Rattle.book.proofs.put_design.Goals as goal

pub returns : goal.returns
returns c =
    let a = c.args in
    let plan = plan_of a.n (a.n - a.g) a.design.columns in
    let admitted = rw c.unwrap-plan.ensures at c.admit.ensures in
    entry_of c.requires.0 admitted plan (pattern_switched a.n a.design.mask plan) refl c.put_plan.ensures
