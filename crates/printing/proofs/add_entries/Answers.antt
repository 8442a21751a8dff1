use Rattle.std.proofs.Common.{◌≡◌, arith, rules, length}
use Rattle.printing.proofs.Printed.{lines_none, lines_turn}
use Rattle.printing.proofs.add_entries.Goals as goal

pub loop-i-init : goal.loop-i-init
loop-i-init c = (omega (arith, c.requires.2), lines_none c.args.n c.args.g _ _ _)

pub loop-i-preserved : goal.loop-i-preserved
loop-i-preserved c =
    let a = c.args in
    let l = c.loop-i in
    let t = c.loop-i-test.true in
    let e = c.entry_line-end.ensures in
    let long : 1024 ≡ length a.list = search rules in (
      omega (arith, e.1, l.invariant.0),
      lines_turn a.n a.g l.i a.list _ (omega (arith, t, long, c.requires.0)) (c.requires.1 l.i t) l.invariant.1 e.0,
    )
