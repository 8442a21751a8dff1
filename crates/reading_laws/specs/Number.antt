-- The reader's number is one for every list of bytes.
use Rattle.std.specs.Prelude.{ℕ, zero, suc, ◌+◌, ◌≤◌, ◌<◌, ◌≡◌, List, length, get_or}
use Rattle.regular.specs.Refusals.{size_faults}
use Rattle.regular.specs.Book.{header_kind, header_length, columns_kind, columns_length, pattern_kind, pattern_length, book_length}
use Rattle.regular.specs.Reading.{RecordAt, HeaderChecks, factors_in, generators_in, resolution_in, count_in}
use Rattle.regular.specs.Reading.{pattern_place, TrueColumns, TruePattern, EntryChecks, EntriesChecks, Reading}
use Rattle.regular.specs.RefusalLaws.{lowest_unique}
use Rattle.regular.specs.InTurnLaws.{One, check_one, turn_one}

record_one : (kind len : ℕ) (book : List ℕ) (at : ℕ) → One (RecordAt kind len book at)
record_one kind len book at =
    turn_one (check_one 10 (at < length book)) (turn_one (check_one 11 (get_or book at 0 ≡ kind)) (check_one 10 (at + len ≤ length book)))

header_one : (book : List ℕ) → One (HeaderChecks book)
header_one book =
    turn_one (record_one header_kind header_length book 0) (lowest_unique (size_faults (factors_in book) (generators_in book) (resolution_in book)))

entry_one : (n g r : ℕ) (book : List ℕ) (i : ℕ) → One (EntryChecks n g r book i)
entry_one n g r book i =
    turn_one (turn_one (record_one (columns_kind n) (columns_length n) book (book_length n i)) (check_one 12 (TrueColumns n g r book i)))
    (turn_one (record_one (pattern_kind n) (pattern_length n) book (pattern_place n i)) (check_one 12 (TruePattern n g book i)))

entries_one : (n g r : ℕ) (book : List ℕ) (i due : ℕ) → One (EntriesChecks n g r book i due)
unfolding EntriesChecks
entries_one n g r book i zero = check_one 10 (length book ≤ book_length n i)
entries_one n g r book i (suc due) = turn_one (entry_one n g r book i) (entries_one n g r book (suc i) due)

pub reading_one : (takes : ℕ → ℕ → ℕ) (places : ℕ) (book : List ℕ) → One (Reading takes places book)
reading_one takes places book =
    turn_one (header_one book) (turn_one (check_one 8 (takes (factors_in book) (count_in book) ≤ places))
    (entries_one (factors_in book) (generators_in book) (resolution_in book) book 0 (count_in book)))
