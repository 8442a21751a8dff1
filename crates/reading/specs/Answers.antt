-- What the steps of the reader answer. Definitions only.
use Rattle.std.specs.Prelude.{ℕ, zero, suc, ◌+◌, ◌*◌, ◌-◌, ◌/◌, ◌%◌, ◌≤◌, ◌<◌, ◌≡◌, Bool, true, false, List, [], length, get_or}
use Rattle.regular.specs.Book.{columns_length, book_length, most_plans}
use Rattle.regular.specs.PlanBytes.{byte_values}
use Rattle.regular.specs.Pattern.{of_length}
use Rattle.regular.specs.Reading.{EntriesChecks, factors_in, generators_in, resolution_in, count_in, columns_in}
use Rattle.regular.specs.ReadingAnswers.{refused_book}
use Rattle.regular.specs.declared.Design.{Design}
use Rattle.regular.specs.declared.ReadAnswer.{ReadAnswer}

-- the columns of entry i are there
pub record EntryThere (n : ℕ) (book : List ℕ) (i : ℕ) : Type 0 where
  pub size : n ≤ 16
  pub few : i ≤ most_plans
  pub whole : book_length n i + columns_length n ≤ length book

-- the columns of the entry before entry i; none if it is the first
abbrev pub earlier_columns : ℕ → List ℕ → ℕ → List ℕ
earlier_columns n book zero = []
earlier_columns n book (suc j) = columns_in n book j

-- a number of 16 bits stands at a place, low byte first
abbrev pub NumberAt : ℕ → List ℕ → ℕ → Type 0
NumberAt x book at = (get_or book at 0 ≡ x % byte_values) × (get_or book (at + 1) 0 ≡ x / byte_values)

-- the k counts of a pattern from length 3 on stand one after another
abbrev pub CountsAt : ℕ → List ℕ → List ℕ → ℕ → Type 0
CountsAt k counts book at = (i : ℕ) → i < k → NumberAt (of_length counts (3 + i)) book (at + i * 2)

-- what a book's header says
abbrev pub header_with : List ℕ → ℕ → ReadAnswer
header_with book count = record { number = 0; factors = factors_in book; generators = generators_in book; resolution = resolution_in book; count = count }

abbrev pub header_of : List ℕ → ReadAnswer
header_of book = header_with book (count_in book)

pub record HeaderRead (book : List ℕ) (a : ReadAnswer) : Type 0 where
  pub is : a ≡ header_of book
  pub few : a.count ≤ most_plans
  pub low : get_or book 4 0 < byte_values

-- an answer by some checks: what the header says, or the refusal
pub record Answered (checks : ℕ → Type 0) (book : List ℕ) (a : ReadAnswer) : Type 0 where
  pub number : checks a.number
  pub refused : 0 < a.number → a ≡ refused_book a.number
  pub header : a.number ≡ 0 → a ≡ header_of book
  pub few : a.count ≤ most_plans
  pub low : a.number ≡ 0 → get_or book 4 0 < byte_values

-- what follows the header's answer, where there is room for the entries or not
pub record Judged (book : List ℕ) (header : ReadAnswer) (room : Bool) (a : ReadAnswer) : Type 0 where
  pub stays : 0 < header.number → a ≡ header
  pub cramped : header.number ≡ 0 → room ≡ false → a ≡ refused_book 8
  pub entries : header.number ≡ 0 → room ≡ true
      → Answered (EntriesChecks (factors_in book) (generators_in book) (resolution_in book) book 0 (count_in book)) book a

-- the record of entry i, by the header's numbers, without switches
pub record DesignIn (a : ReadAnswer) (book : List ℕ) (i : ℕ) (d : Design) : Type 0 where
  pub factors : d.factors ≡ a.factors
  pub basics : d.basics ≡ a.factors - a.generators
  pub columns : (f : ℕ) → get_or d.columns f 0 ≡ get_or (columns_in a.factors book i) f 0
  pub unswitched : d.mask ≡ 0
