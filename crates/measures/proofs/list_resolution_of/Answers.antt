-- `measures::list_resolution_of` meets its contract: the plan is admitted, and its resolution goes into the list. Assumes nothing.
use Rattle.std.proofs.Common.{arith, length-set, ◌≤◌, length, Ok}
use Rattle.regular.specs.Answers.{admitted_of}
use Rattle.std.proofs.lemmas.List.{get_or-set_same, drop-set-lt}
use Rattle.lent.specs.Lends.{lends_fills, lends_short, lends_filled}
use Rattle.measures.specs.Measured.{resolution_accepted, resolution_fills}
use Rattle.measures.proofs.list_resolution_of.Goals as goal

pub returns-then-is_empty : goal.returns-then-is_empty
returns-then-is_empty g c =
    let ad = c.in_ok-admitted.ensures in
    let a = c.args in
    let o = a.out.now in
    lends_fills (g.P.Form.given a.plan a.n a.g).faults 0 1 _ o o 8 ad.most ad.lowest
    (lends_short 1 _ o (grind (arith, c.is_empty.ensures, c.if-is_empty.true)))

pub returns : goal.returns
returns g c =
    let o = c.args.out.now in
    let k = c.resolution.result in
    let some : 1 ≤ length o = grind (arith, c.is_empty.ensures, c.if-is_empty.false) in
    resolution_fills {a = admitted_of (Ok c.in_ok-admitted.admitted)} c.in_ok-admitted.ensures {i = 0} (resolution_accepted c.resolution.ensures)
    (lends_filled 1 _ o _ some (length-set o 0 k) (get_or-set_same o 0 k 0 some) (drop-set-lt 1 o 0 k (omega arith)))
