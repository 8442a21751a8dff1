-- `aberration::second_less` meets its contract: the patterns of the two plans are compared, and no other lists can hold them. Assumes nothing.
use Rattle.std.proofs.Common.{◌-◌}
use Rattle.aberration.specs.Less.{less_told}
use Rattle.aberration.proofs.second_less.Goals as goal

pub returns : goal.returns
returns c =
    let a = c.args in
    let p = c.pattern-p in
    let q = c.pattern-q in
    less_told {m = a.n - a.g} q.ensures.0 p.ensures.0 c.better.ensures
