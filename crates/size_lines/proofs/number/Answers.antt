-- No digit, one or two: each is the only number there that no digit follows. Assumes nothing.
use Rattle.std.proofs.Common.{arith}
use Rattle.size_lines.proofs.Laws.{no_digit, one_digit, two_digits}
use Rattle.size_lines.proofs.number.Goals as goal

pub returns-in_err-d-clause-part : goal.returns-in_err-d-clause-part
returns-in_err-d-clause-part c = rw c.from_residual.ensures (no_digit c.args.line.now c.args.p 10 c.in_err-d.ensures.is (omega arith))

pub returns-in-Some-clause-part : goal.returns-in-Some-clause-part
returns-in-Some-clause-part c = two_digits _ _ _ _ c.in_ok-d.ensures.is c.in_ok-d.ensures.some c.in-Some.ensures.is c.in-Some.ensures.some

pub returns-in-None-clause-part : goal.returns-in-None-clause-part
returns-in-None-clause-part c = one_digit _ _ _ _ c.in_ok-d.ensures.is c.in_ok-d.ensures.some c.in-None.ensures.is (omega arith)
