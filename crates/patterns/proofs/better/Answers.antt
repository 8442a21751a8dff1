-- `patterns::better` meets its contract: `<` on slices goes by the first place where they differ. Assumes nothing.
use Rattle.std.proofs.Common.{◌≡◌, arith, rules, length}
use Rattle.patterns.proofs.FirstLess.{is_below, better_tells, tail_to}
use Rattle.patterns.proofs.better.Goals as goal

pub returns : goal.returns
returns c =
    let end = c.max-end.result in
    let p = c.args.p in
    let q = c.args.q in
    let long_p : 16 ≡ length p = search rules in
    let long_q : 16 ≡ length q = search rules in
    better_tells c.args.last end p q c.max-end.ensures (omega (arith, c.max-end.ensures, c.requires, long_p))
    (omega (arith, c.max-end.ensures, c.requires, long_q))
    c.lt.result (is_below (tail_to end p) (tail_to end q) c.lt.result c.lt.ensures)
