-- The reader of books: which number it answers, for every list of bytes (document 02, request 1). Definitions only.
-- The checks come in the order in which the bytes bring them.
use Rattle.std.specs.Prelude.{ℕ, zero, suc, ◌+◌, ◌*◌, ◌-◌, ◌≤◌, ◌<◌, ◌≡◌, List, length, get_or, take, drop}
use Rattle.regular.specs.InTurn.{Check, InTurn}
use Rattle.regular.specs.Columns.{plan_of}
use Rattle.regular.specs.Pattern.{Pattern}
use Rattle.regular.specs.Refusals.{Lowest, size_faults}
use Rattle.regular.specs.Smallest.{Before, Entry}
use Rattle.regular.specs.Book.{header_kind, header_length, columns_kind, columns_length, pattern_kind, pattern_length, pattern_record}
use Rattle.regular.specs.PlanBytes.{byte_values}
use Rattle.regular.specs.Book.{book_length}

-- a record of a kind and a length at a place: 10 if its kind byte is missing, 11 if that is another kind, 10 if its body is cut off
abbrev pub RecordAt : ℕ → ℕ → List ℕ → ℕ → ℕ → Type 0
RecordAt kind len book at = InTurn (Check 10 (at < length book)) (InTurn (Check 11 (get_or book at 0 ≡ kind)) (Check 10 (at + len ≤ length book)))

-- N, G, R and the count, as the header has them
abbrev pub factors_in : List ℕ → ℕ
factors_in book = get_or book 1 0

abbrev pub generators_in : List ℕ → ℕ
generators_in book = get_or book 2 0

abbrev pub resolution_in : List ℕ → ℕ
resolution_in book = get_or book 3 0

abbrev pub count_in : List ℕ → ℕ
count_in book = get_or book 4 0 + byte_values * get_or book 5 0

-- the header: its record, then 1 to 3
abbrev pub HeaderChecks : List ℕ → ℕ → Type 0
HeaderChecks book =
    InTurn (RecordAt header_kind header_length book 0) (Lowest (size_faults (factors_in book) (generators_in book) (resolution_in book)))

-- entry i starts where a book of i entries ends: its columns, and the place of its pattern
abbrev pub columns_in : ℕ → List ℕ → ℕ → List ℕ
columns_in n book i = take n (drop (suc (book_length n i)) book)

abbrev pub pattern_place : ℕ → ℕ → ℕ
pattern_place n i = book_length n i + columns_length n

-- it comes strictly after the entry before it, where there is one
abbrev pub EntryRises : ℕ → List ℕ → ℕ → Type 0
EntryRises n book i = (j : ℕ) → suc j ≡ i → Before n (columns_in n book j) (columns_in n book i)

-- its columns are true: a smallest form that meets R, and it follows
pub record TrueColumns (n g r : ℕ) (book : List ℕ) (i : ℕ) : Type 0 where
  pub entry : Entry n (n - g) r (columns_in n book i)
  pub rises : EntryRises n book i

-- its pattern is true: the one of its plan
pub record TruePattern (n g : ℕ) (book : List ℕ) (i : ℕ) : Type 0 where
  pub counts : List ℕ
  pub pattern : Pattern n (plan_of n (n - g) (columns_in n book i)) counts
  pub bytes : take (pattern_length n) (drop (pattern_place n i) book) ≡ pattern_record n counts

-- 12: a body untrue
abbrev pub ColumnsChecks : ℕ → ℕ → ℕ → List ℕ → ℕ → ℕ → Type 0
ColumnsChecks n g r book i = InTurn (RecordAt (columns_kind n) (columns_length n) book (book_length n i)) (Check 12 (TrueColumns n g r book i))

abbrev pub PatternChecks : ℕ → ℕ → List ℕ → ℕ → ℕ → Type 0
PatternChecks n g book i = InTurn (RecordAt (pattern_kind n) (pattern_length n) book (pattern_place n i)) (Check 12 (TruePattern n g book i))

abbrev pub EntryChecks : ℕ → ℕ → ℕ → List ℕ → ℕ → ℕ → Type 0
EntryChecks n g r book i = InTurn (ColumnsChecks n g r book i) (PatternChecks n g book i)

-- the entries from entry i on, so many of which are due; 10 if bytes are left over after the last
unfoldable pub EntriesChecks : ℕ → ℕ → ℕ → List ℕ → ℕ → ℕ → ℕ → Type 0
EntriesChecks n g r book i zero = Check 10 (length book ≤ book_length n i)
EntriesChecks n g r book i (suc due) = InTurn (EntryChecks n g r book i) (EntriesChecks n g r book (suc i) due)

-- the number that the reader answers: the header, then 8 if the lent list has fewer places than the count of entries takes, then the entries
abbrev pub Reading : (ℕ → ℕ → ℕ) → ℕ → List ℕ → ℕ → Type 0
Reading takes places book =
    InTurn (HeaderChecks book)
    (InTurn (Check 8 (takes (factors_in book) (count_in book) ≤ places))
    (EntriesChecks (factors_in book) (generators_in book) (resolution_in book) book 0 (count_in book)))
