-- The samples of patterns and signs hold.
use Rattle.std.specs.Prelude.{[], ◌∷◌}
use Rattle.regular.specs.Words.{Generated}
use Rattle.whiteboard.specs.Rows.{WordsRow, AllTrue}
use Rattle.whiteboard.specs.RowLaws.{table_true}
use Rattle.whiteboard.specs.Samples.{printed, signed, printed_pass, signed_pass}

pub printed_samples : AllTrue printed
printed_samples = table_true printed printed_pass

pub signed_samples : AllTrue signed
signed_samples = table_true signed signed_pass

pub words_three : WordsRow 3 1 (Generated 3 1 (7 ∷ [])) (1 ∷ 2 ∷ 3 ∷ []) (0 ∷ 0 ∷ 1 ∷ []) 3
words_three = signed_samples.1.1.1.1.0

pub words_five : WordsRow 5 2 (Generated 5 2 (27 ∷ 28 ∷ [])) (1 ∷ 2 ∷ 3 ∷ 4 ∷ 7 ∷ []) (0 ∷ 0 ∷ 2 ∷ 1 ∷ 0 ∷ []) 3
words_five = signed_samples.1.1.1.1.1.0
