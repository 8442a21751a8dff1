use Rattle.std.specs.Prelude.{ℕ, List, Result, Ok, Err}
use Rattle.std.specs.Result.{result_unwrap_or}
use Rattle.regular.specs.declared.Refusal.{Refusal}
use Rattle.regular.specs.Answers.{book_answer, refusal_of}
use Rattle.regular.specs.Book.{WritesPlans}
use Rattle.planner.proofs.plan_write_book.Goals as goal

-- the book's answer has the refusal's number, and no bytes with one
written : (n g r : ℕ) (plans old new : List ℕ) (a : Result ℕ Refusal) → WritesPlans n g r plans old new (refusal_of a) (result_unwrap_or a 0)
    → WritesPlans n g r plans old new (book_answer a).number (book_answer a).count
written n g r plans old new (Ok x) w = w
written n g r plans old new (Err e) w = w

pub returns : goal.returns
returns c = rw c.from.ensures (written _ _ _ _ _ _ c.write_book.result c.write_book.ensures)
