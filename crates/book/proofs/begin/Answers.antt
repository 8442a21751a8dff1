-- `book::begin` meets its contract: a refusal writes nothing, else the header stands. Assumes nothing.
use Rattle.std.proofs.Common.{refl, arith, length}
use Rattle.regular.specs.Answers.{refusal_of}
use Rattle.book.specs.WritingLaws.{refusal_none}
use Rattle.book.proofs.begin.Goals as goal

pub put_header-requires : goal.put_header-requires
put_header-requires c =
    let a = c.args in
    let z = refusal_none a.n a.count (refusal_of a.plans) (length a.out.now) 0 refl c.in_ok-check_book.ensures in
    let b = c.requires z.plans in
    (b.0, b.1, b.2, z.few, omega (arith, z.room))
