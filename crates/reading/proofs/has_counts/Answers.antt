use Rattle.gf2.specs.Answers.{tells_no}
use Rattle.reading.specs.Steps.{counts_not}
use Rattle.reading.proofs.has_counts.Goals as goal

pub returns-then-not-has_number : goal.returns-then-not-has_number
returns-then-not-has_number c =
    let l = c.loop-i in
    let a = c.args in
    tells_no _ _ (counts_not a.counts a.book.now a.at l.i l.to l.invariant.0 l.invariant.1 a.n c.loop-i-test.true
    (c.has_number.ensures.1 (c.if-not-has_number.true)))
