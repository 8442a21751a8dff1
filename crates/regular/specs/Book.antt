-- The book: its records, the book of a list of plans, and what its writer answers (document 01, "The book" and the table). Definitions only.
-- A record is one byte of kind, then a body whose length the kind fixes. Numbers of 16 bits stand low byte first.
use Rattle.std.specs.Prelude.{ℕ, zero, suc, ◌+◌, ◌*◌, ◌-◌, ◌/◌, ◌%◌, ◌<◌, true, ◌≡◌, List, [], ◌∷◌, ◌++◌, length, get_or, take, drop}
use Rattle.regular.specs.Runs.{Runs}
use Rattle.regular.specs.Columns.{plan_of}
use Rattle.regular.specs.Designs.{blank}
use Rattle.regular.specs.Pattern.{Pattern, of_length}
use Rattle.regular.specs.Refusals.{LentFault, either, Lowest}
use Rattle.regular.specs.PlanBytes.{byte_values, plan_at, plan_count}
use Rattle.regular.specs.PlanLists.{wanted_records_faults, wanted_plans_faults}
use Rattle.regular.specs.declared.Design.{Design}

-- 16 bits, low byte first
abbrev pub low_first : ℕ → List ℕ
low_first x = x % byte_values ∷ x / byte_values ∷ []

-- what `part` gives for 0 to k - 1, one after another
unfoldable pub each : (ℕ → List ℕ) → ℕ → List ℕ
each part zero = []
each part (suc k) = each part k ++ part k

-- the kinds: 0x01 the header, 0x20 + N the columns, 0x40 + N the pattern
abbrev pub header_kind : ℕ
header_kind = 1

abbrev pub columns_kind : ℕ → ℕ
columns_kind n = 32 + n

abbrev pub pattern_kind : ℕ → ℕ
pattern_kind n = 64 + n

-- the header: N, G, R and the count of entries
abbrev pub header : ℕ → ℕ → ℕ → ℕ → List ℕ
header n g r count = header_kind ∷ n ∷ g ∷ r ∷ low_first count

abbrev pub header_length : ℕ
header_length = 6

-- the N columns
abbrev pub columns_record : ℕ → List ℕ → List ℕ
columns_record n c = columns_kind n ∷ each (λ f. get_or c f 0 ∷ []) n

abbrev pub columns_length : ℕ → ℕ
columns_length n = 1 + n

-- the counts for lengths 3 to N, none for N below 3
abbrev pub pattern_record : ℕ → List ℕ → List ℕ
pattern_record n p = pattern_kind n ∷ each (λ i. low_first (of_length p (3 + i))) (n - 2)

abbrev pub pattern_length : ℕ → ℕ
pattern_length n = 1 + 2 * (n - 2)

-- the records of one entry, with the columns c and the pattern p, and their length
abbrev pub entry_records : ℕ → List ℕ → List ℕ → List ℕ
entry_records n c p = columns_record n c ++ pattern_record n p

abbrev pub entry_length : ℕ → ℕ
entry_length n = columns_length n + pattern_length n

-- an entry of a book, as the writer is handed it: the columns that are written, and the plan that they give
pub record BookEntry : Type 1 where
  pub columns : List ℕ
  pub plan : Runs

-- of a plan given as n columns, and as a design record. A book has no masks: an entry stands for the plan that its columns give
abbrev pub entry_of_columns : ℕ → ℕ → List ℕ → BookEntry
entry_of_columns n g c = record { columns = c; plan = plan_of n (n - g) c }

abbrev pub entry_of_design : ℕ → ℕ → Design → BookEntry
entry_of_design n g d = record { columns = d.columns; plan = plan_of n (n - g) d.columns }

-- the bytes of an entry: its columns, and the pattern of its plan
pub record EntryBytes (n : ℕ) (entry : BookEntry) (bytes : List ℕ) : Type 0 where
  pub counts : List ℕ
  pub pattern : Pattern n entry.plan counts
  pub records : bytes ≡ entry_records n entry.columns counts

-- the bytes of `count` entries, one after another: entry i is at place i of the list
pub record EntriesBytes (n : ℕ) (entry : ℕ → BookEntry) (count : ℕ) (bytes : List ℕ) : Type 0 where
  pub part : ℕ → List ℕ
  pub parts : (i : ℕ) → i < count → EntryBytes n (entry i) (part i)
  pub joined : bytes ≡ each part count

-- the book of `count` entries: the header, then the entries
pub record Book (n g r count : ℕ) (entry : ℕ → BookEntry) (book : List ℕ) : Type 0 where
  pub body : List ℕ
  pub entries : EntriesBytes n entry count body
  pub bytes : book ≡ header n g r count ++ body

abbrev pub book_length : ℕ → ℕ → ℕ
book_length n count = header_length + count * entry_length n

-- the most plans that the header can count
abbrev pub most_plans : ℕ
most_plans = 65535

-- 4: more plans than that
pub data CountFault (count : ℕ) : ℕ → Type 0 where
  many : most_plans < count → CountFault count 4

-- the faults of the plans, of their count, and of the lent bytes
abbrev pub book_faults : (ℕ → Type 0) → ℕ → ℕ → List ℕ → ℕ → Type 0
book_faults plans n count out = either (either plans (CountFault count)) (LentFault (book_length n count) out)

-- what the writer answers and writes, from `before` to `after`: the book in the first `used` bytes, those past it untouched; nothing if refused
pub record Writes (plans : ℕ → Type 0) (n g r count : ℕ) (entry : ℕ → BookEntry) (before after : List ℕ) (number used : ℕ) : Type 0 where
  pub lowest : Lowest (book_faults plans n count before) number
  pub refused : 0 < number → (used ≡ 0) × (after ≡ before)
  pub whole : number ≡ 0 → used ≡ book_length n count
  pub book : number ≡ 0 → Book n g r count entry (take used after)
  pub rest : drop used after ≡ drop used before
  pub size : length after ≡ length before

-- of plans as bytes, and of design records, which must be bare of switches
abbrev pub WritesPlans : ℕ → ℕ → ℕ → List ℕ → List ℕ → List ℕ → ℕ → ℕ → Type 0
WritesPlans n g r plans =
    Writes (wanted_plans_faults n g r true plans) n g r (plan_count n (length plans)) (λ i. entry_of_columns n g (plan_at n plans i))

abbrev pub WritesDesigns : ℕ → ℕ → ℕ → List Design → List ℕ → List ℕ → ℕ → ℕ → Type 0
WritesDesigns n g r list = Writes (wanted_records_faults n g r true list) n g r (length list) (λ i. entry_of_design n g (get_or list i blank))
