-- `reading::check_entries` meets its contract: whatever the entries from i on answer is the answer, and the tables are those of the entry before. Assumes
-- nothing.
use Rattle.entry_test.specs.Testing.{KeptTables}
use Rattle.reading.specs.Answers.{earlier_columns}
use Rattle.reading.specs.Entries.{EntriesFrom}
use Rattle.reading.proofs.check_entries.Given as goal

abbrev pub invariant-loop-i : goal.invariant-loop-i
invariant-loop-i l =
    EntriesFrom l.n l.g l.r l.book l.count l.i × KeptTables (earlier_columns l.n l.book l.i) l.tables.present l.tables.factors l.tables.sums
