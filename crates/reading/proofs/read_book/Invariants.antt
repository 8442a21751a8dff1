-- Before each turn the first i records of the list are those of the book.
use Rattle.std.specs.Prelude.{Ok}
use Rattle.regular.specs.Answers.{read_answer}
use Rattle.reading.specs.Filling.{FilledDesigns}
use Rattle.reading.proofs.read_book.Given as goal

abbrev pub invariant-loop-i : goal.invariant-loop-i
invariant-loop-i l = FilledDesigns (read_answer (Ok l.header)) l.book l.initial.list l.list l.i
