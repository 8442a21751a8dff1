-- Answers that rest on the examples.
use Rattle.std.specs.Prelude.{[], length}
use Rattle.std.proofs.Common.{arith}
use Rattle.regular.specs.Words.{Generated, Fraction}
use Rattle.regular.specs.Comparisons.{Differ}
use Rattle.regular.specs.Given.{of_words}
use Rattle.regular.specs.Measures.{ResolutionOf}
use Rattle.words.specs.Switches.{resolution_agree}
use Rattle.signs.specs.SignLaws.{fraction_plus}
use Rattle.whiteboard.proofs.PlanInstances.{resolution_full}
use Rattle.whiteboard.proofs.RefusalInstances.{accepted_no_words}
use Rattle.whiteboard.specs.Whiteboard.{words_p, words_q}
use Rattle.whiteboard.proofs.Whiteboard.{whiteboard}

pub gives_full : ResolutionOf 3 (of_words 3 0 [] 0) 0 4
gives_full = record {
  number = accepted_no_words;
  refused = λ h. absurd (omega arith);
  result = λ e. resolution_agree 3 (Generated 3 0 []) (Fraction 3 0 [] 0) (fraction_plus 3 0 []) 4 resolution_full;
}

pub differ_nowhere : Differ 9 (Generated 9 3 words_p) (Generated 9 3 words_q) 0
differ_nowhere = whiteboard.1.1.1.1.1.1.1.1.1.0.length
