-- A plan without words is accepted.
use Rattle.std.specs.Prelude.{refl, []}
use Rattle.std.proofs.Common.{arith}
use Rattle.regular.specs.Words.{Generated, total}
use Rattle.regular.specs.Refusals.{words_faults}
use Rattle.regular.specs.Refusals.{Lowest}
use Rattle.counts.specs.FullFactorials.{resolution_long}
use Rattle.whiteboard.proofs.PlanInstances.{resolution_full}
use Rattle.whiteboard.specs.RowLaws.{is_given}
use Rattle.whiteboard.specs.Tests.{below}
use Rattle.whiteboard.specs.RefusalInstances.{words_accepted}

-- no words
pub accepted_no_words : Lowest (words_faults 3 0 [] 0) 0
unfolding total below
accepted_no_words =
    words_accepted 3 0 [] 0 (record { some = omega arith; most = omega arith; less = omega arith; few = omega arith }) refl (is_given 3 0 [] refl)
    (resolution_long 3 (Generated 3 0 []) 3 4 resolution_full (omega arith)) (omega arith)
