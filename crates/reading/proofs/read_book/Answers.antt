use Rattle.std.proofs.Common.{◌≡◌, arith, rules, length}
use Rattle.std.specs.Prelude.{Ok, Err}
use Rattle.regular.specs.Answers.{read_answer}
use Rattle.reading.specs.Filling.{filled_none, filled_place, filled_more, filled_all}
use Rattle.reading.proofs.read_book.Goals as goal

pub returns-in_err-header : goal.returns-in_err-header
returns-in_err-header c =
    let a = c.args in
    let e = c.in_err-header.field-0.0 in
    let up : c.from_residual.result ≡ Err e = search rules in
    let refused = read_answer (Err e) in
    rw up (filled_all a.book.now a.list.now refused c.in_err-header.ensures 0 a.list.now (omega arith)
    (filled_none a.book.now a.list.now refused c.in_err-header.ensures))

pub loop-i-init : goal.loop-i-init
loop-i-init c = filled_none c.args.book.now c.args.list.now (read_answer (Ok c.in_ok-header.header)) c.in_ok-header.ensures

pub design_in-requires : goal.design_in-requires
design_in-requires c = ((length c.args.list.now, c.in_ok-header.ensures), c.loop-i-test.true)

pub bounds-list-i : goal.bounds-list-i
bounds-list-i c =
    let a = c.args in
    let l = c.loop-i in
    omega (
      arith,
      filled_place a.book.now a.list.now (read_answer (Ok c.in_ok-header.header)) c.in_ok-header.ensures l.i c.loop-i-test.true,
      l.invariant.size,
    )

pub loop-i-preserved : goal.loop-i-preserved
loop-i-preserved c =
    let a = c.args in
    let l = c.loop-i in
    filled_more a.book.now a.list.now (read_answer (Ok c.in_ok-header.header)) c.in_ok-header.ensures l.i l.list c.design_in.result l.invariant
    c.loop-i-test.true c.design_in.ensures

pub returns : goal.returns
returns c =
    let a = c.args in
    let l = c.loop-i in
    filled_all a.book.now a.list.now (read_answer (Ok c.in_ok-header.header)) c.in_ok-header.ensures l.i l.list c.loop-i-test.false l.invariant
