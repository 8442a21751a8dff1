-- `reading::list_book` meets its contract: the entries before i stand in the list. Assumes nothing.
use Rattle.std.specs.Prelude.{Ok}
use Rattle.regular.specs.Answers.{read_answer}
use Rattle.reading.specs.Filling.{FilledPlans}
use Rattle.reading.proofs.list_book.Given as goal

abbrev pub invariant-loop-i : goal.invariant-loop-i
invariant-loop-i l = FilledPlans (read_answer (Ok l.header)) l.book l.initial.out l.out l.i
