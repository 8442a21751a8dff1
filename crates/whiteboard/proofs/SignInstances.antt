-- Signs: what rests on the samples and on the examples.
use Rattle.std.specs.Prelude.{ℕ, [], ◌∷◌}
use Rattle.regular.specs.Columns.{Allowed, Standard, ListedWith, RunsOfPlan}
use Rattle.regular.specs.Given.{of_words}
use Rattle.regular.specs.Same.{Same}
use Rattle.regular.specs.Words.{Generated, Fraction}
use Rattle.isomorphism_laws.specs.SamePlan.{same_sym, same_trans}
use Rattle.whiteboard.proofs.Samples.{signed_samples}
use Rattle.whiteboard.specs.Whiteboard.{words_p, words_q}
use Rattle.whiteboard.proofs.Whiteboard.{whiteboard}
use Rattle.whiteboard.specs.SignInstances.{minus, three, run_minus, five_columns, first_minus, signs_p, signs_q}

-- C is the last letter of ABC; A is that of no word, as both its levels are there
pub standard_minus : Standard 3 2 minus three 4
standard_minus = signed_samples.0.columns

pub allowed_c : Allowed 3 minus 4
allowed_c = standard_minus.allowed

-- it starts from the run that is its mask, not from another
pub start_minus : (of_words 3 1 (7 ∷ []) 1).start 4
start_minus = (run_minus, allowed_c)

-- its runs in a list, and in 128 places
pub listed_minus : ListedWith 3 2 three 4 (4 ∷ 1 ∷ 2 ∷ 7 ∷ [])
listed_minus = signed_samples.0.table

pub runs_of_minus : RunsOfPlan 3 2 ListedWith minus (4 ∷ 1 ∷ 2 ∷ 7 ∷ [])
runs_of_minus = record { columns = three; mask = 4; standard = standard_minus; table = listed_minus }

pub standard_first : Standard 5 3 first_minus five_columns 20
standard_first = signed_samples.1.1.0.columns

pub standard_second : Standard 5 3 (Fraction 5 2 (27 ∷ 28 ∷ []) 2) five_columns 4
standard_second = signed_samples.1.1.1.0.columns

-- and so different from each other
pub signs_different : (a b : ℕ) → Same 9 (Fraction 9 3 words_p a) (Fraction 9 3 words_q b) → ⊥
signs_different a b k =
    let p = Generated 9 3 words_p in
    let q = Generated 9 3 words_q in
    whiteboard.1.1.1.1.1.1.1.1.1.0.different
    (same_trans 9 p (Fraction 9 3 words_p a) q (same_sym 9 (Fraction 9 3 words_p a) p (λ x h. h.within) (signs_p a))
    (same_trans 9 (Fraction 9 3 words_p a) (Fraction 9 3 words_q b) q k (signs_q b)))
