-- Samples: plans that the sources print (documents 000 and 002), and the small plans of the instances. Rows of the kinds of the whiteboard, their
-- truth by the definitions. Where a source's print and the definition differ, the row has what the definition gives.
use Rattle.std.specs.Prelude.{◌≡◌, refl, true, List, [], ◌∷◌, ℕ, get_or}
use Rattle.std.proofs.Common.{arith}
use Rattle.std.specs.Int.Count.{ones, ones_in}
use Rattle.gf2.specs.Digits.{odd}
use Rattle.gf2.specs.Vec.{vec}
use Rattle.regular.specs.Columns.{run_of}
use Rattle.regular.specs.Smallest.{Catalogue}
use Rattle.regular.specs.Words.{Generated, total}
use Rattle.standard.specs.Form.{units_before}
use Rattle.words.specs.Model.{reduced, last_of, pivots_at, free_before, word_columns}
use Rattle.counts.specs.Models.{first_length}
use Rattle.counts.specs.Tally.{tally}
use Rattle.smallest_laws.specs.Presence.{present}
use Rattle.smallest_laws.specs.Search.{any_to, compare, reached, beaten}
use Rattle.catalogue_laws.specs.Model.{short, fits, may, branch, listing}
use Rattle.whiteboard.specs.Products.{product}
use Rattle.whiteboard.specs.Rows.{Row, RunsRow, WordsRow, AllTrue, all_pass}
use Rattle.whiteboard.specs.RowLaws.{table_true}
use Rattle.whiteboard.specs.Tests.{below, those, alike}

-- N 4, G 1: the plans of ABC and of ABCD, the two entries of their catalogue
abbrev pub abc : List ℕ
abc = 1 ∷ 2 ∷ 3 ∷ 4 ∷ []

abbrev pub abcd : List ℕ
abcd = 1 ∷ 2 ∷ 4 ∷ 7 ∷ []

-- the bytes of these plans: the columns, and two of no switches
abbrev pub plan_abc : List ℕ
plan_abc = 1 ∷ 2 ∷ 3 ∷ 4 ∷ 0 ∷ 0 ∷ []

abbrev pub plan_abcd : List ℕ
plan_abcd = 1 ∷ 2 ∷ 4 ∷ 7 ∷ 0 ∷ 0 ∷ []

-- N 5, G 1: the three entries
abbrev pub fives : List (List ℕ)
fives = (1 ∷ 2 ∷ 3 ∷ 4 ∷ 8 ∷ []) ∷ (1 ∷ 2 ∷ 4 ∷ 7 ∷ 8 ∷ []) ∷ (1 ∷ 2 ∷ 4 ∷ 8 ∷ 15 ∷ []) ∷ []

abbrev pub small : List Row
small =
    Row.catalogue 4 1 3 3 (abc ∷ abcd ∷ [])
    ∷ Row.words 4 1 (7 ∷ []) abc (0 ∷ 0 ∷ 1 ∷ 0 ∷ []) 3
    ∷ Row.words 4 1 (15 ∷ []) abcd (0 ∷ 0 ∷ 0 ∷ 1 ∷ []) 4
    ∷ Row.runs 4 3 abc (0 ∷ 5 ∷ 6 ∷ 3 ∷ 8 ∷ 13 ∷ 14 ∷ 11 ∷ []) (1 ∷ 1 ∷ 3 ∷ 3 ∷ 0 ∷ [])
    ∷ Row.runs 4 3 abcd (0 ∷ 9 ∷ 10 ∷ 3 ∷ 12 ∷ 5 ∷ 6 ∷ 15 ∷ []) (1 ∷ 0 ∷ 6 ∷ 0 ∷ 1 ∷ [])
    ∷ Row.catalogue 5 1 3 3 fives
    ∷ []

-- Example 2 of 000: ABCF, BCDEG and ADEFG; ABCF, ADEG and BCDEFG. (000 prints the product of ABCF and BCDEG as AEFG one page before.)
-- 000's words 125, 136, 1237 with four words of three letters and three of four.
-- 000's two plans of one pattern, 124, 135 and 124, 1235, which are the same plan.
-- 002's figure 4: ABE, BCD and ACDE. (002 prints its pattern as 3 1 0: three words, yet two of three letters.)
abbrev pub printed : List Row
printed =
    Row.words 7 2 (39 ∷ 94 ∷ []) (1 ∷ 2 ∷ 4 ∷ 8 ∷ 16 ∷ 7 ∷ 30 ∷ []) (0 ∷ 0 ∷ 0 ∷ 1 ∷ 2 ∷ 0 ∷ 0 ∷ []) 4
    ∷ Row.words 7 2 (39 ∷ 89 ∷ []) (1 ∷ 2 ∷ 4 ∷ 8 ∷ 16 ∷ 7 ∷ 25 ∷ []) (0 ∷ 0 ∷ 0 ∷ 2 ∷ 0 ∷ 1 ∷ 0 ∷ []) 4
    ∷ Row.words 7 3 (19 ∷ 37 ∷ 71 ∷ []) (1 ∷ 2 ∷ 4 ∷ 8 ∷ 3 ∷ 5 ∷ 7 ∷ []) (0 ∷ 0 ∷ 4 ∷ 3 ∷ 0 ∷ 0 ∷ 0 ∷ []) 3
    ∷ Row.words 5 2 (11 ∷ 21 ∷ []) (1 ∷ 2 ∷ 4 ∷ 3 ∷ 5 ∷ []) (0 ∷ 0 ∷ 2 ∷ 1 ∷ 0 ∷ []) 3
    ∷ Row.words 5 2 (11 ∷ 23 ∷ []) (1 ∷ 2 ∷ 4 ∷ 3 ∷ 7 ∷ []) (0 ∷ 0 ∷ 2 ∷ 1 ∷ 0 ∷ []) 3
    ∷ Row.words 5 2 (19 ∷ 14 ∷ []) (1 ∷ 2 ∷ 4 ∷ 6 ∷ 3 ∷ []) (0 ∷ 0 ∷ 2 ∷ 1 ∷ 0 ∷ []) 3
    ∷ []

-- Words with signs (document 02, request 5): ABC with a minus, of three and of four factors; ABDE and CDE, the one or the other with a minus; and these
-- words without signs.
abbrev pub signed : List Row
signed =
    Row.signed 3 1 (7 ∷ []) 1 (1 ∷ 2 ∷ 3 ∷ []) 4 (4 ∷ 1 ∷ 2 ∷ 7 ∷ [])
    ∷ Row.signed 4 1 (7 ∷ []) 1 abc 4 (4 ∷ 1 ∷ 2 ∷ 7 ∷ 12 ∷ 9 ∷ 10 ∷ 15 ∷ [])
    ∷ Row.signed 5 2 (27 ∷ 28 ∷ []) 1 (1 ∷ 2 ∷ 3 ∷ 4 ∷ 7 ∷ []) 20 (20 ∷ 1 ∷ 2 ∷ 23 ∷ 12 ∷ 25 ∷ 26 ∷ 15 ∷ [])
    ∷ Row.signed 5 2 (27 ∷ 28 ∷ []) 2 (1 ∷ 2 ∷ 3 ∷ 4 ∷ 7 ∷ []) 4 (4 ∷ 17 ∷ 18 ∷ 7 ∷ 28 ∷ 9 ∷ 10 ∷ 31 ∷ [])
    ∷ Row.words 3 1 (7 ∷ []) (1 ∷ 2 ∷ 3 ∷ []) (0 ∷ 0 ∷ 1 ∷ []) 3
    ∷ Row.words 5 2 (27 ∷ 28 ∷ []) (1 ∷ 2 ∷ 3 ∷ 4 ∷ 7 ∷ []) (0 ∷ 0 ∷ 2 ∷ 1 ∷ 0 ∷ []) 3
    ∷ []

-- every row passes its tests, by computation
small_pass : all_pass small ≡ true
unfolding ones ones_in odd run_of total reduced last_of pivots_at free_before word_columns first_length tally product below those alike
    short fits may branch listing beaten any_to compare reached vec present units_before
small_pass = refl

pub printed_pass : all_pass printed ≡ true
unfolding ones ones_in odd run_of total reduced last_of pivots_at free_before word_columns first_length tally product below those alike
    short fits may branch listing beaten any_to compare reached vec present units_before
printed_pass = refl

pub signed_pass : all_pass signed ≡ true
unfolding ones ones_in odd run_of total reduced last_of pivots_at free_before word_columns first_length tally product below those alike units_before
signed_pass = refl

-- so every row is true of the definitions
pub samples : AllTrue small
samples = table_true small small_pass

-- the rows by their names
pub catalogue_4 : Catalogue 4 3 3 2 (λ i. get_or (abc ∷ abcd ∷ []) i [])
catalogue_4 = samples.0 3 (omega arith) (omega arith)

pub words_abc : WordsRow 4 1 (Generated 4 1 (7 ∷ [])) abc (0 ∷ 0 ∷ 1 ∷ 0 ∷ []) 3
words_abc = samples.1.0

pub words_abcd : WordsRow 4 1 (Generated 4 1 (15 ∷ [])) abcd (0 ∷ 0 ∷ 0 ∷ 1 ∷ []) 4
words_abcd = samples.1.1.0

pub runs_abc_lem : RunsRow 4 3 abc (0 ∷ 5 ∷ 6 ∷ 3 ∷ 8 ∷ 13 ∷ 14 ∷ 11 ∷ []) (1 ∷ 1 ∷ 3 ∷ 3 ∷ 0 ∷ [])
runs_abc_lem = samples.1.1.1.0

pub catalogue_5 : Catalogue 5 4 3 3 (λ i. get_or fives i [])
catalogue_5 = samples.1.1.1.1.1.0 3 (omega arith) (omega arith)
