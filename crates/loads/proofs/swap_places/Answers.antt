use Rattle.std.proofs.Common.{ℕ, ◌<◌, ◌-◌, ◌∙◌, length, arith}
use Rattle.std.proofs.lemmas.List.Edits.{swap_is}
use Rattle.load_laws.specs.Swaps.{swap_length}
use Rattle.loads.specs.SwapTurns.{left_turn, left_none}
use Rattle.loads.proofs.swap_places.Goals as goal

pub loop-i-preserved : goal.loop-i-preserved
loop-i-preserved c =
    let l = c.loop-i in
    let a = c.args in
    let j = c.remainder-j in
    let next = c.next_state-state in
    let i : ℕ = l.i - 1 in
    let low : j.result < length l.columns = omega (arith, j.ensures.1, l.invariant.0) in
    let is = swap_is l.columns i j.result 0 (omega (arith, l.invariant.0)) low in
    rw c.swap.ensures.after (rw (← is) (
      swap_length l.columns i j.result ∙ l.invariant.0,
      left_turn a.n a.before.state a.before.columns i l.state l.columns next.result j.result (omega arith) (omega arith)
          l.invariant.1 next.ensures j.ensures.0,
    ))

pub returns : goal.returns
returns c =
    let l = c.loop-i in
    let a = c.args in
    left_none a.n a.before.state a.before.columns (l.i - 1) l.state l.columns (omega arith) l.invariant.1
