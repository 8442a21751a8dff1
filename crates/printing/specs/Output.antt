-- What is printed for a line, all of it (document 01, "Examples on the whiteboard"). Definitions only.
use Rattle.std.specs.Prelude.{◌≡◌, List, [], ◌++◌, ℕ, suc, ◌-◌, ◌≤◌, ◌<◌, get_or, take, drop}
use Rattle.io.specs.Counts.{IsPrefixLen}
use Rattle.regular.specs.Columns.{plan_of}
use Rattle.regular.specs.Pattern.{Pattern, Resolution}
use Rattle.regular.specs.Refusals.{Lowest}
use Rattle.regular.specs.Smallest.{Catalogue}
use Rattle.regular.specs.Catalogues.{catalogue_faults}
use Rattle.regular.specs.Designs.{blank}
use Rattle.regular.specs.declared.Design.{Design}
use Rattle.size_lines.specs.Lines.{SizeLine}
use Rattle.printed_lines.specs.Listed.{Listable}
use Rattle.printed_lines.specs.Text.{header_line, entry, refused, not_a_size, TextAdded}

-- the lines of the first k of these entries, in order: each has its place, from 1, the resolution of its plan, its columns, and the counts of its plan
pub data Lines (n g : ℕ) (columns : ℕ → List ℕ) : ℕ → List ℕ → Type 0 where
  none : Lines n g columns 0 []
  more : (k : ℕ) (lines : List ℕ) (resolution : ℕ) (pattern : List ℕ) → Lines n g columns k lines
      → Resolution n (plan_of n (n - g) (columns k)) resolution → Pattern n (plan_of n (n - g) (columns k)) pattern
      → Lines n g columns (suc k) (lines ++ entry n (suc k) resolution (columns k) pattern)

-- the faults of a size where a list of 1,024 records is lent
abbrev pub printed_faults : ℕ → ℕ → ℕ → ℕ → Type 0
printed_faults n g r = catalogue_faults n g r (λ k. k ≤ 1024)

-- what is printed for a size: the lowest number that it is refused by; or the header with the count of the catalogue's entries, and the line of each
pub data SizeOutput (n g r : ℕ) : List ℕ → Type 0 where
  refusal : (number : ℕ) → 0 < number → Lowest (printed_faults n g r) number → SizeOutput n g r (refused number)
  listing : (count : ℕ) (columns : ℕ → List ℕ) (lines : List ℕ) → Lowest (printed_faults n g r) 0
      → Catalogue n (n - g) r count columns → Lines n g columns count lines → SizeOutput n g r (header_line n g r count ++ lines)

-- what is printed for a line
pub data Output (line : List ℕ) : List ℕ → Type 0 where
  no_size : ((n g r : ℕ) → SizeLine line n g r → ⊥) → Output line not_a_size
  size : (n g r : ℕ) (text : List ℕ) → SizeLine line n g r → SizeOutput n g r text → Output line text

-- a text with the property P was put at the start of a list, into its first k bytes; the bytes past it are untouched
pub record Printed (P : List ℕ → Type 0) (before after : List ℕ) (k : ℕ) : Type 0 where
  pub counts : IsPrefixLen k after
  pub text : P (take k after)
  pub rest : drop k after ≡ drop k before

-- the bytes of a line that decide what is printed for it, if it has so many (`first_nine`)
abbrev pub line_room : ℕ
line_room = 9

-- the columns of the records of a list
abbrev pub columns_at : List Design → ℕ → List ℕ
columns_at list i = (get_or list i blank).columns

-- the lines of the first k records of a list were added
pub record EntryLines (n g k : ℕ) (list : List Design) (before after : List ℕ) (at end : ℕ) : Type 0 where
  pub lines : List ℕ
  pub are : Lines n g (columns_at list) k lines
  pub text : TextAdded before after at lines end

-- the first count designs of a list are entries
abbrev pub AllListable : ℕ → ℕ → ℕ → List Design → Type 0
AllListable n g count list = (i : ℕ) → i < count → Listable n g (get_or list i blank)
