-- A book that is written.
use Rattle.std.specs.Prelude.{refl, true, [], ◌∷◌, ◌++◌, replicate}
use Rattle.std.proofs.Common.{arith}
use Rattle.regular.specs.Book.{CountFault, WritesPlans}
use Rattle.regular.specs.PlanLists.{wanted_plans_faults}
use Rattle.regular.specs.RefusalLaws.{lowest_then, lent_fits}
use Rattle.regular.specs.Refusals.{LentFault, either}
use Rattle.whiteboard.specs.ListInstances.{plans_wanted}
use Rattle.whiteboard.specs.ResultInstances.{plans}
use Rattle.whiteboard.specs.BookInstances.{book, book_4, judged_two}

pub writes : WritesPlans 4 1 3 plans (replicate 27 9) (book ++ (9 ∷ [])) 0 26
writes = record {
  lowest = lowest_then (either (wanted_plans_faults 4 1 3 true plans) (CountFault 2)) (LentFault 26 (replicate 27 9)) 0
      (judged_two (wanted_plans_faults 4 1 3 true plans) (plans_wanted true)) (lent_fits 26 (replicate 27 9) (omega arith));
  refused = λ h. absurd (omega arith);
  whole = λ e. refl;
  book = λ e. book_4;
  rest = refl;
  size = refl;
}
