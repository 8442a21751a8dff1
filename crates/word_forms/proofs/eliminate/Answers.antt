use Rattle.std.proofs.Common.{arith, length}
use Rattle.words.specs.Pivots.{pivots_none}
use Rattle.word_forms.specs.Turns.{eliminate_log, eliminate_never, elimination_not}
use Rattle.word_forms.proofs.eliminate.Goals as goal

pub loop-word-init : goal.loop-word-init
loop-word-init c = pivots_none c.args.n c.args.ws.now (omega arith)

pub returns-then-w-eq0 : goal.returns-then-w-eq0
returns-then-w-eq0 c =
    let n = c.args.n in
    let ws = c.args.ws.now in
    let l = c.loop-word in
    let i = l.word-index in
    elimination_not n (length ws) ws _
    (eliminate_never n i ws l.piv c.reduce-w.result l.invariant (c.requires.1 i (omega arith)) c.reduce-w.ensures (length ws) (omega arith) c.if-w-eq0.true)

pub loop-word-preserved : goal.loop-word-preserved
loop-word-preserved c =
    let l = c.loop-word in
    let i = l.word-index in
    let log = c.ilog2-last in
    eliminate_log c.args.n i c.args.ws.now l.piv c.reduce-w.result l.invariant (c.requires.1 i (omega arith)) c.reduce-w.ensures
    log.result log.ensures.power_le log.ensures.next_power_gt c.if-w-eq0.false
