-- What the parts of the writer promise: a refusal, a begun book, an entry more, the entries so far. Definitions only.
use Rattle.std.specs.Prelude.{ℕ, ◌+◌, ◌-◌, ◌<◌, ◌≡◌, List, length}
use Rattle.regular.specs.Columns.{plan_of}
use Rattle.regular.specs.Refusals.{Lowest}
use Rattle.regular.specs.RefusalLaws.{Lower}
use Rattle.lent.specs.Lending.{Lending}
use Rattle.regular.specs.PlanBytes.{plan_at}
use Rattle.regular.specs.declared.Design.{Design}
use Rattle.regular.specs.Book.{header, header_length, entry_length, BookEntry, entry_of_columns}
use Rattle.regular.specs.Book.{entry_of_design, EntryBytes, EntriesBytes, book_length, CountFault}
use Rattle.book.specs.Over.{over}

-- the entry of the columns c and the plan of standard columns
abbrev pub standard_entry : ℕ → ℕ → List ℕ → List ℕ → BookEntry
standard_entry n g c standard = record { columns = c; plan = plan_of n (n - g) standard }

-- the bytes of an entry stand from `at` up to `to`
pub record PutEntry (n : ℕ) (entry : BookEntry) (at : ℕ) (v w : List ℕ) (to : ℕ) : Type 0 where
  pub bytes : List ℕ
  pub are : EntryBytes n entry bytes
  pub stand : w ≡ over at bytes v
  pub next : to ≡ at + entry_length n

-- the writer's number k: the lower of the plans' number and their count's, else 8 if there are too few places
pub record BookRefusal (n count number places k : ℕ) : Type 0 where
  pub many : ℕ
  pub low : ℕ
  pub counted : Lowest (CountFault count) many
  pub lower : Lower number many low
  pub lending : Lending low (book_length n count) places k

-- refused, and nothing written; or the header stands
pub record Opened (n g r count number : ℕ) (v w : List ℕ) (k used : ℕ) : Type 0 where
  pub refusal : BookRefusal n count number (length v) k
  pub refused : 0 < k → (used ≡ 0) × (w ≡ v)
  pub begun : k ≡ 0 → (used ≡ header_length) × (w ≡ over 0 (header n g r count) v)

-- the first i entries stand after the header, up to `at`
pub record Written (n : ℕ) (entry : ℕ → BookEntry) (i : ℕ) (v w : List ℕ) (at : ℕ) : Type 0 where
  pub body : List ℕ
  pub entries : EntriesBytes n entry i body
  pub bytes : w ≡ over header_length body v
  pub place : at ≡ book_length n i

-- entry i of the plans in bytes
abbrev pub plan_entry : ℕ → ℕ → List ℕ → ℕ → BookEntry
plan_entry n g plans i = entry_of_columns n g (plan_at n plans i)

-- a refusal is passed on; or one record's entry more
pub record EntryAdded (n g : ℕ) (d : Design) (number used : ℕ) (v w : List ℕ) (k to : ℕ) : Type 0 where
  pub refused : 0 < number → (k ≡ number) × (to ≡ used) × (w ≡ v)
  pub added : number ≡ 0 → (k ≡ 0) × PutEntry n (entry_of_design n g d) used v w to
