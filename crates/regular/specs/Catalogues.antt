-- What the catalogue's call answers, and what the lent list holds (document 01, "Same plan, smallest form, catalogue"). Definitions only.
use Rattle.std.specs.Prelude.{◌≡◌, List, ℕ, suc, ◌-◌, ◌≤◌, ◌<◌, length, get_or, drop}
use Rattle.regular.specs.Designs.{Holds, blank}
use Rattle.regular.specs.PlanBytes.{plan_start, plan_at, mask_in}
use Rattle.regular.specs.Refusals.{Lowest, RoomFault, either, size_faults}
use Rattle.regular.specs.Smallest.{Equal, Entry, Catalogue}
use Rattle.regular.specs.declared.Design.{Design}

-- the sizes and the resolution by 1 to 3, and by 9 a catalogue with more entries than there is room for
abbrev pub catalogue_faults : ℕ → ℕ → ℕ → (ℕ → Type 0) → ℕ → Type 0
catalogue_faults n g r room = either (size_faults n g r) (RoomFault n (n - g) r room)

-- the first of the catalogue's entries, as many as there is room for
pub record Begins (n m r : ℕ) (room : ℕ → Type 0) (entry : ℕ → List ℕ) (count : ℕ) : Type 0 where
  pub fits : room count
  pub full : room (suc count) → ⊥
  pub first : (whole : ℕ) (all : ℕ → List ℕ) → Catalogue n m r whole all → (i : ℕ) → i < count → Equal n (entry i) (all i)

-- the answer: the lowest number that applies, and the entries. Accepted: the catalogue. Refused by 9: its first entries, as many as there is room for.
-- Refused by 1, 2 or 3: none
pub record Catalogues (n g r : ℕ) (room : ℕ → Type 0) (entry : ℕ → List ℕ) (number count : ℕ) : Type 0 where
  pub lowest : Lowest (catalogue_faults n g r room) number
  pub whole : number ≡ 0 → Catalogue n (n - g) r count entry
  pub fits : number ≡ 0 → room count
  pub begins : number ≡ 9 → Begins n (n - g) r room entry count
  pub none : 0 < number → number < 9 → count ≡ 0

-- a list of bytes, entry i at plan i, without switches; from `before` to `after`, untouched past the entries
pub record ListsBytes (n g r : ℕ) (before after : List ℕ) (number count : ℕ) : Type 0 where
  pub catalogues : Catalogues n g r (λ k. plan_start n k ≤ length before) (plan_at n after) number count
  pub unswitched : (i : ℕ) → i < count → mask_in n (plan_at n after i) ≡ 0
  pub rest : drop (plan_start n count) after ≡ drop (plan_start n count) before
  pub size : length after ≡ length before

-- a list of design records, each of n factors and n - g basics, its columns an entry and those past n zero, without switches
pub record ListsDesigns (n g r : ℕ) (before after : List Design) (number count : ℕ) : Type 0 where
  pub catalogues : Catalogues n g r (λ k. k ≤ length before) (λ i. (get_or after i blank).columns) number count
  pub records : (i : ℕ) → i < count → Holds n (n - g) (Entry n (n - g) r) (get_or after i blank)
  pub rest : drop count after ≡ drop count before
  pub size : length after ≡ length before
