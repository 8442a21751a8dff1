-- The whiteboard: the starred examples of document 01, with what document 02 adds to them, one row an example, and their truth by the definitions.
use Rattle.std.specs.Prelude.{◌≡◌, refl, true, List, [], ◌∷◌, ℕ}
use Rattle.std.specs.Int.Count.{ones, ones_in}
use Rattle.gf2.specs.Digits.{odd}
use Rattle.gf2.specs.Vec.{vec}
use Rattle.regular.specs.Columns.{run_of}
use Rattle.regular.specs.Words.{total}
use Rattle.standard.specs.Form.{units_before}
use Rattle.words.specs.Model.{reduced, last_of, pivots_at, free_before, word_columns}
use Rattle.counts.specs.Models.{first_length}
use Rattle.counts.specs.Tally.{tally}
use Rattle.smallest_laws.specs.Presence.{present}
use Rattle.smallest_laws.specs.Search.{any_to, compare, reached, beaten}
use Rattle.catalogue_laws.specs.Model.{short, fits, may, branch, listing}
use Rattle.whiteboard.specs.Products.{product}
use Rattle.whiteboard.specs.Rows.{Row, all_pass}
use Rattle.whiteboard.specs.Tests.{below, those, alike}

-- ABCD, CDEF, ACEGHJ
abbrev pub words_p : List ℕ
words_p = 15 ∷ 60 ∷ 469 ∷ []

-- ABCD, AEFG, BEHJ
abbrev pub words_q : List ℕ
words_q = 15 ∷ 113 ∷ 402 ∷ []

-- three words of 4 letters and four of 6
abbrev pub pattern_pq : List ℕ
pattern_pq = 0 ∷ 0 ∷ 0 ∷ 3 ∷ 0 ∷ 4 ∷ 0 ∷ 0 ∷ 0 ∷ []

-- six factors, two generators
abbrev pub sixes : List (List ℕ)
sixes =
    (1 ∷ 2 ∷ 3 ∷ 4 ∷ 5 ∷ 8 ∷ [])
    ∷ (1 ∷ 2 ∷ 3 ∷ 4 ∷ 8 ∷ 12 ∷ [])
    ∷ (1 ∷ 2 ∷ 3 ∷ 4 ∷ 8 ∷ 13 ∷ [])
    ∷ (1 ∷ 2 ∷ 4 ∷ 7 ∷ 8 ∷ 11 ∷ [])
    ∷ []

-- A full factorial is said without a wanted resolution: it is the entry for each from 3 to 16. Its own resolution, one above its factors, stands with its
-- columns, as the plan of no words (document 02, request 2). P's words of 4 multiply to the identity, Q's to CDFGHJ.
abbrev pub table : List Row
table =
    Row.catalogue 1 0 3 16 ((1 ∷ []) ∷ [])
    ∷ Row.words 1 0 [] (1 ∷ []) (0 ∷ []) 2
    ∷ Row.catalogue 3 0 3 16 ((1 ∷ 2 ∷ 4 ∷ []) ∷ [])
    ∷ Row.words 3 0 [] (1 ∷ 2 ∷ 4 ∷ []) (0 ∷ 0 ∷ 0 ∷ []) 4
    ∷ Row.catalogue 4 2 3 3 []
    ∷ Row.catalogue 4 1 3 3 ((1 ∷ 2 ∷ 3 ∷ 4 ∷ []) ∷ (1 ∷ 2 ∷ 4 ∷ 7 ∷ []) ∷ [])
    ∷ Row.runs 3 2 (1 ∷ 2 ∷ 3 ∷ []) (0 ∷ 5 ∷ 6 ∷ 3 ∷ []) (1 ∷ 0 ∷ 3 ∷ 0 ∷ [])
    ∷ Row.words 9 3 words_p (1 ∷ 2 ∷ 4 ∷ 7 ∷ 8 ∷ 11 ∷ 16 ∷ 32 ∷ 61 ∷ []) pattern_pq 4
    ∷ Row.words 9 3 words_q (1 ∷ 2 ∷ 4 ∷ 7 ∷ 8 ∷ 16 ∷ 25 ∷ 32 ∷ 42 ∷ []) pattern_pq 4
    ∷ Row.different 9 3 words_p words_q pattern_pq 4 0 492
    ∷ Row.catalogue 6 2 3 3 sixes
    ∷ Row.catalogue 6 2 4 4 ((1 ∷ 2 ∷ 4 ∷ 7 ∷ 8 ∷ 11 ∷ []) ∷ [])
    ∷ []

-- every row passes its tests, by computation
pub every_row_passes : all_pass table ≡ true
unfolding ones ones_in odd run_of total reduced last_of pivots_at free_before word_columns first_length tally product below those alike
    short fits may branch listing beaten any_to compare reached vec present units_before
every_row_passes = refl
