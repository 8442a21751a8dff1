-- The lines that are printed, as lists of bytes (document 01, "Examples on the whiteboard"). Definitions only.
use Rattle.std.specs.Prelude.{◌≡◌, cond, List, [], ◌∷◌, ◌++◌, ℕ, zero, suc, ◌+◌, ◌-◌, ◌*◌, ◌/◌, ◌%◌, ltb, length, get_or, take, drop}
use Rattle.regular.specs.Given.{of_design}
use Rattle.regular.specs.Pattern.{Pattern, Resolution, of_length}
use Rattle.regular.specs.Book.{each}
use Rattle.regular.specs.declared.Design.{Design}

-- a number in decimal digits, none of them a leading zero; of at most k digits
unfoldable pub digits_up_to : ℕ → ℕ → List ℕ
digits_up_to zero x = []
digits_up_to (suc k) x = cond (ltb x 10) ((48 + x) ∷ []) (digits_up_to k (x / 10) ++ ((48 + x % 10) ∷ []))

abbrev pub decimal : ℕ → List ℕ
decimal x = digits_up_to 20 x

-- a number after a space
abbrev pub next : ℕ → List ℕ
next x = (32 ∷ []) ++ decimal x

-- the n columns; the counts for lengths 3 to n, none for n below 3
abbrev pub columns_text : ℕ → List ℕ → List ℕ
columns_text n c = each (λ f. next (get_or c f 0)) n

abbrev pub counts_text : ℕ → List ℕ → List ℕ
counts_text n p = each (λ i. next (of_length p (3 + i))) (n - 2)

-- "\n", " res", " columns", " pattern", "catalogue", " entries", "refused"
abbrev pub newline : List ℕ
newline = 10 ∷ []

abbrev pub res : List ℕ
res = 32 ∷ 114 ∷ 101 ∷ 115 ∷ []

abbrev pub columns_word : List ℕ
columns_word = 32 ∷ 99 ∷ 111 ∷ 108 ∷ 117 ∷ 109 ∷ 110 ∷ 115 ∷ []

abbrev pub pattern_word : List ℕ
pattern_word = 32 ∷ 112 ∷ 97 ∷ 116 ∷ 116 ∷ 101 ∷ 114 ∷ 110 ∷ []

abbrev pub catalogue_word : List ℕ
catalogue_word = 99 ∷ 97 ∷ 116 ∷ 97 ∷ 108 ∷ 111 ∷ 103 ∷ 117 ∷ 101 ∷ []

abbrev pub entries_word : List ℕ
entries_word = 32 ∷ 101 ∷ 110 ∷ 116 ∷ 114 ∷ 105 ∷ 101 ∷ 115 ∷ []

abbrev pub refused_word : List ℕ
refused_word = 114 ∷ 101 ∷ 102 ∷ 117 ∷ 115 ∷ 101 ∷ 100 ∷ []

-- the header: N, G, R, entry count
abbrev pub header_line : ℕ → ℕ → ℕ → ℕ → List ℕ
header_line n g r count = catalogue_word ++ next n ++ next g ++ next r ++ entries_word ++ next count ++ newline

-- the line of an entry: place, resolution, columns; then the counts
abbrev pub start : ℕ → ℕ → ℕ → List ℕ → List ℕ
start n place resolution columns = decimal place ++ res ++ next resolution ++ columns_word ++ columns_text n columns

abbrev pub entry : ℕ → ℕ → ℕ → List ℕ → List ℕ → List ℕ
entry n place resolution columns pattern = start n place resolution columns ++ pattern_word ++ counts_text n pattern ++ newline

-- the line of a refusal
abbrev pub refused : ℕ → List ℕ
refused number = refused_word ++ next number ++ newline

-- "not a size\n"
abbrev pub not_a_size : List ℕ
not_a_size = 110 ∷ 111 ∷ 116 ∷ 32 ∷ 97 ∷ 32 ∷ 115 ∷ 105 ∷ 122 ∷ 101 ∷ newline

-- the most bytes that a line without columns takes: a header with numbers of 20 digits; and that an entry's line takes: a place of four digits, a
-- resolution and columns of three, counts of five
abbrev pub header_most : ℕ
header_most = 102

abbrev pub entry_most : ℕ
entry_most = 177

-- the bytes that an entry's line asks for, its last number being of any size; those that suffice for the output of 1,024 entries
abbrev pub entry_room : ℕ
entry_room = entry_most + 15

abbrev pub output_room : ℕ
output_room = header_most + 1024 * entry_most + 15

-- the text t was added to the list `before` at place `at`, and ends at place `end` of `after`; the bytes past it are untouched
pub record TextAdded (before after : List ℕ) (at : ℕ) (t : List ℕ) (end : ℕ) : Type 0 where
  pub text : take end after ≡ take at before ++ t
  pub place : end ≡ at + length t
  pub rest : drop end after ≡ drop end before
  pub size : length after ≡ length before

-- the line of the design d, the place-th entry, was added: its resolution and pattern are those of its plan
pub record EntryLine (n g place : ℕ) (d : Design) (before after : List ℕ) (at end : ℕ) : Type 0 where
  pub resolution : ℕ
  pub pattern : List ℕ
  pub is_resolution : Resolution n (of_design n g d).plan resolution
  pub is_pattern : Pattern n (of_design n g d).plan pattern
  pub text : TextAdded before after at (entry n place resolution d.columns pattern) end
