-- What is turned away, under which number (document 01's table), and what a call's answer says. Definitions only.
-- Each argument of a call has its faults, by number; a call's faults are those of all its arguments, and the lowest is its answer.
use Rattle.std.specs.Prelude.{ℕ, ◌-◌, ◌^◌, ◌≤◌, ◌<◌, ◌≡◌, Bool, true, ◌⊎◌, List, length, get_or, take, drop}
use Rattle.std.specs.Borrow.{Bor}
use Rattle.gf2.specs.Members.{In, Different}
use Rattle.regular.specs.Runs.{Runs, runs_of, Regular}
use Rattle.regular.specs.Words.{Word, letters, Generated, Independent}
use Rattle.regular.specs.Columns.{plan_of, Spans, Allowed}
use Rattle.regular.specs.PlanBytes.{plan_bytes, mask_in}
use Rattle.regular.specs.Smallest.{Catalogue}
use Rattle.regular.specs.declared.Design.{Design}

-- a word of fewer than r letters
pub record Short (n r : ℕ) (s : Runs) : Type 0 where
  pub word : ℕ
  pub is : Word n s word
  pub few : letters word < r

-- 1, 2: the sizes
pub data SizeFault (n g : ℕ) : ℕ → Type 0 where
  factors : (n < 1) ⊎ (16 < n) → SizeFault n g 1
  generators : (n ≤ g) ⊎ (7 < n - g) → SizeFault n g 2

-- 3: the wanted resolution
pub data ResolutionFault (r : ℕ) : ℕ → Type 0 where
  outside : (r < 3) ⊎ (16 < r) → ResolutionFault r 3

-- 4 to 7: a list of words
pub data WordsFault (n g : ℕ) (ws : List ℕ) : ℕ → Type 0 where
  count : (length ws ≡ g → ⊥) → WordsFault n g ws 4
  past : (i : ℕ) → i < length ws → 2 ^ n ≤ get_or ws i 0 → WordsFault n g ws 5
  dependent : (Independent g ws → ⊥) → WordsFault n g ws 6
  short : Short n 3 (Generated n g ws) → WordsFault n g ws 7

-- 5 to 7: columns
pub data ColumnsFault (n m : ℕ) (c : List ℕ) : ℕ → Type 0 where
  above : (f : ℕ) → f < n → 2 ^ m ≤ get_or c f 0 → ColumnsFault n m c 5
  rank : (Spans n m c → ⊥) → ColumnsFault n m c 6
  short : Short n 3 (plan_of n m c) → ColumnsFault n m c 7

-- 5: a sign from bit g up
pub data SignFault (g signs : ℕ) : ℕ → Type 0 where
  past : 2 ^ g ≤ signs → SignFault g signs 5

-- 5: a switch mask that is not allowed: with a bit at a factor that is the last letter of no word, or past factor n
pub data MaskFault (n : ℕ) (s : Runs) (mask : ℕ) : ℕ → Type 0 where
  barred : (Allowed n s mask → ⊥) → MaskFault n s mask 5

-- 5: a mask other than 0, where plans must be bare of switches
pub data SwitchFault (bare : Bool) (mask : ℕ) : ℕ → Type 0 where
  some : bare ≡ true → (mask ≡ 0 → ⊥) → SwitchFault bare mask 5

-- 4: a list of other than k numbers
pub data ListFault (k : ℕ) (c : List ℕ) : ℕ → Type 0 where
  count : (length c ≡ k → ⊥) → ListFault k c 4

-- 4, 5: a design record
pub data RecordFault (n m : ℕ) (d : Design) : ℕ → Type 0 where
  factors : (d.factors ≡ n → ⊥) → RecordFault n m d 4
  basics : (d.basics ≡ m → ⊥) → RecordFault n m d 4
  used : (f : ℕ) → n ≤ f → f < 16 → (get_or d.columns f 0 ≡ 0 → ⊥) → RecordFault n m d 5

-- 4 to 7: a run table
pub data TableFault (n m : ℕ) (t : List ℕ) : ℕ → Type 0 where
  count : (length t ≡ 2 ^ m → ⊥) → TableFault n m t 4
  past : (x : ℕ) → In x t → 2 ^ n ≤ x → TableFault n m t 5
  repeated : (Different t → ⊥) → TableFault n m t 6
  irregular : (Regular (runs_of t) → ⊥) → TableFault n m t 6
  short : Short n 3 (runs_of t) → TableFault n m t 7

-- 7: a word shorter than the wanted resolution, where it is taken
pub data WantedFault (n r : ℕ) (s : Runs) : ℕ → Type 0 where
  short : Short n r s → WantedFault n r s 7

-- 8: a lent result of fewer than k places
pub data LentFault (k : ℕ) (out : List ℕ) : ℕ → Type 0 where
  few : length out < k → LentFault k out 8

-- 9: the catalogue has more entries than there is room for; `room k` says that k entries have room
pub data RoomFault (n m r : ℕ) (room : ℕ → Type 0) : ℕ → Type 0 where
  more : (whole : ℕ) (all : ℕ → List ℕ) → Catalogue n m r whole all → (room whole → ⊥) → RoomFault n m r room 9

-- the faults of two arguments
abbrev pub either : (ℕ → Type 0) → (ℕ → Type 0) → ℕ → Type 0
either f h k = f k ⊎ h k

-- the fault of an argument that was judged before: its number, none if 0
abbrev pub numbered : ℕ → ℕ → Type 0
numbered x k = (0 < k) × (k ≡ x)

-- the sizes and the wanted resolution
abbrev pub size_faults : ℕ → ℕ → ℕ → ℕ → Type 0
size_faults n g r = either (SizeFault n g) (ResolutionFault r)

-- columns and a mask: the barred bits are those of the columns' plan, of whatever rank
abbrev pub masked_faults : ℕ → ℕ → List ℕ → ℕ → ℕ → Type 0
masked_faults n m c mask = either (ColumnsFault n m c) (MaskFault n (plan_of n m c) mask)

-- the faults of a plan given by words and signs, by a run table, by a design record, by its bytes, by n columns alone
abbrev pub words_faults : ℕ → ℕ → List ℕ → ℕ → ℕ → Type 0
words_faults n g ws signs = either (SizeFault n g) (either (WordsFault n g ws) (SignFault g signs))

abbrev pub runs_faults : ℕ → ℕ → List ℕ → ℕ → Type 0
runs_faults n g t = either (SizeFault n g) (TableFault n (n - g) t)

abbrev pub design_faults : ℕ → ℕ → Design → ℕ → Type 0
design_faults n g d = either (SizeFault n g) (either (RecordFault n (n - g) d) (masked_faults n (n - g) d.columns d.mask))

abbrev pub columns_faults : ℕ → ℕ → List ℕ → ℕ → Type 0
columns_faults n g c = either (SizeFault n g) (either (ListFault (plan_bytes n) c) (masked_faults n (n - g) c (mask_in n c)))

abbrev pub bare_faults : ℕ → ℕ → List ℕ → ℕ → Type 0
bare_faults n g c = either (SizeFault n g) (either (ListFault n c) (ColumnsFault n (n - g) c))

-- the answer's number: 0 if nothing is at fault, else the lowest number that applies
pub record Lowest (fault : ℕ → Type 0) (r : ℕ) : Type 0 where
  pub applies : 0 < r → fault r
  pub least : (k : ℕ) → fault k → (0 < r) × (r ≤ k)

-- a call that answers a number and a value: the value `none` if refused
pub record Gives {A : Type 0} (fault : ℕ → Type 0) (Result : A → Type 0) (none : A) (r : ℕ) (value : A) : Type 0 where
  pub number : Lowest fault r
  pub refused : 0 < r → value ≡ none
  pub result : r ≡ 0 → Result value

-- a call that answers a number and fills the first k places of a lent list, from `entry` to `exit`: untouched past them, all of it untouched if refused
pub record Fills (fault : ℕ → Type 0) (k : ℕ) (Result : List ℕ → Type 0) (entry exit : List ℕ) (r : ℕ) : Type 0 where
  pub number : Lowest fault r
  pub refused : 0 < r → exit ≡ entry
  pub result : r ≡ 0 → Result exit
  pub past : r ≡ 0 → drop k exit ≡ drop k entry
  pub size : length exit ≡ length entry

-- a call that says which of two lists it takes: 1 the first, 2 the second if it has less, 0 if it refuses
pub data Chooses (fault : ℕ → Type 0) (Less : Type 0) : ℕ → Type 0 where
  refused : (k : ℕ) → 0 < k → Lowest fault k → Chooses fault Less 0
  first : Lowest fault 0 → (Less → ⊥) → Chooses fault Less 1
  second : Lowest fault 0 → Less → Chooses fault Less 2

-- a call that hands back one of two lent lists, the first unless the second has less; if refused, the empty start of the first: none of its
-- numbers (`now`), where the first stands (`ptr`)
pub record HandsBack (fault : ℕ → Type 0) (Less : Type 0) (first second r : Bor (List ℕ)) : Type 0 where
  pub better : Lowest fault 0 → Less → r ≡ second
  pub otherwise : Lowest fault 0 → (Less → ⊥) → r ≡ first
  pub refused : (k : ℕ) → 0 < k → Lowest fault k → r.now ≡ take 0 first.now
  pub start : (k : ℕ) → 0 < k → Lowest fault k → r.ref_ptr ≡ first.ref_ptr
