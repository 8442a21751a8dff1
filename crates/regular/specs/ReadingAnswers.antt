-- What the reader of books answers, and what it leaves in the lent list (document 02, request 1). Definitions only.
use Rattle.std.specs.Prelude.{ℕ, ◌-◌, ◌≤◌, ◌<◌, ◌≡◌, List, length, get_or, drop}
use Rattle.regular.specs.Sizes.{Sized}
use Rattle.regular.specs.Designs.{Holds, blank}
use Rattle.regular.specs.PlanBytes.{plan_start, plan_at, mask_in}
use Rattle.regular.specs.Smallest.{Before, Entry}
use Rattle.regular.specs.Book.{BookEntry, entry_of_columns, entry_of_design, Book}
use Rattle.regular.specs.Reading.{Reading}
use Rattle.regular.specs.declared.Design.{Design}
use Rattle.regular.specs.declared.ReadAnswer.{ReadAnswer}

-- a book that is taken: of smallest forms that meet R, rising strictly. It says nothing of completeness: the catalogue may have entries that the book lacks
pub record Taken (n g r count : ℕ) (entry : ℕ → BookEntry) (book : List ℕ) : Type 0 where
  pub sized : Sized n g r
  pub entries : (i : ℕ) → i < count → Entry n (n - g) r (entry i).columns
  pub rising : (i j : ℕ) → i < j → j < count → Before n (entry i).columns (entry j).columns
  pub is : Book n g r count entry book

-- a refused call's answer
abbrev pub refused_book : ℕ → ReadAnswer
refused_book number = record { number = number; factors = 0; generators = 0; resolution = 0; count = 0 }

-- what the reader answers and leaves in a lent list, from `before` to `after`, in which `entry n g after i` is entry i. Taken: N, G, R, the count, and the
-- entries in order, untouched past them. Refused: the number alone, all of the list untouched
pub record Reads {A : Type 0} (takes : ℕ → ℕ → ℕ) (entry : ℕ → ℕ → List A → ℕ → BookEntry) (book : List ℕ) (before after : List A)
    (answer : ReadAnswer) : Type 0 where
  pub number : Reading takes (length before) book answer.number
  pub refused : 0 < answer.number → (answer ≡ refused_book answer.number) × (after ≡ before)
  pub taken : answer.number ≡ 0
      → Taken answer.factors answer.generators answer.resolution answer.count (entry answer.factors answer.generators after) book
  pub room : answer.number ≡ 0 → takes answer.factors answer.count ≤ length before
  pub rest : drop (takes answer.factors answer.count) after ≡ drop (takes answer.factors answer.count) before
  pub size : length after ≡ length before

-- in a list of bytes entry i is plan i, without switches
pub record ReadsPlans (book before after : List ℕ) (answer : ReadAnswer) : Type 0 where
  pub reads : Reads plan_start (λ n g plans i. entry_of_columns n g (plan_at n plans i)) book before after answer
  pub unswitched : (i : ℕ) → i < answer.count → mask_in answer.factors (plan_at answer.factors after i) ≡ 0

-- in a list of design records each is of n factors and n - g basics, its columns past n zero, without switches
abbrev pub places_of : ℕ → ℕ → ℕ
places_of n count = count

pub record ReadsDesigns (book : List ℕ) (before after : List Design) (answer : ReadAnswer) : Type 0 where
  pub reads : Reads places_of (λ n g list i. entry_of_design n g (get_or list i blank)) book before after answer
  pub records : (i : ℕ) → i < answer.count
      → Holds answer.factors (answer.factors - answer.generators)
      (Entry answer.factors (answer.factors - answer.generators) answer.resolution) (get_or after i blank)
