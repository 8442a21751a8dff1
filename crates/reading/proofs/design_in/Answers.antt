-- `reading::design_in` meets its contract: the record of the header's numbers and the entry's columns. Assumes nothing.
use Rattle.std.proofs.Common.{refl, arith}
use Rattle.std.specs.Prelude.{Ok}
use Rattle.regular.specs.Answers.{read_answer}
use Rattle.regular.specs.ReadingAnswers.{places_of}
use Rattle.reading.specs.AnswerLaws.{taken_sized, taken_there}
use Rattle.reading.specs.Steps.{columns_long}
use Rattle.reading.proofs.design_in.Goals as goal

pub overflow_sub-n : goal.overflow_sub-n
overflow_sub-n c =
    let a = c.args in
    let sized = taken_sized places_of c.requires.0.0 a.book.now (read_answer (Ok a.header)) c.requires.0.1 refl in
    omega (arith, sized.size.less, c.from-n.ensures, c.from-g.ensures)

pub columns_in-requires : goal.columns_in-requires
columns_in-requires c =
    let a = c.args in
    rw c.from-n.ensures (taken_there places_of c.requires.0.0 a.book.now (read_answer (Ok a.header)) c.requires.0.1 refl a.i c.requires.1)

pub array_of-requires : goal.array_of-requires
array_of-requires c =
    let a = c.args in
    let here = taken_there places_of c.requires.0.0 a.book.now (read_answer (Ok a.header)) c.requires.0.1 refl a.i c.requires.1 in
    let n = c.from-n.ensures in
    omega (arith, here.size, columns_long a.header.factors a.book.now a.i here (rw n at c.columns_in.ensures))
