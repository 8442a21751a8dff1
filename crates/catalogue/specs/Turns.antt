-- What a turn of the catalogue's loop needs and answers. Definitions only.
use Rattle.std.specs.Prelude.{◌≡◌, Bool, true, false, List, [], ℕ, ◌-◌, ◌≤◌, ◌<◌, ltb, length, drop, replicate, Option, Some, None, Result, Ok, Err}
use Rattle.regular.specs.PlanBytes.{plan_start, plan_at, mask_in}
use Rattle.regular.specs.declared.Refusal.{Refusal}
use Rattle.regular.specs.Refusals.{Lowest, size_faults}
use Rattle.regular.specs.Smallest.{Equal, Entry}
use Rattle.smallest_laws.specs.Value.{value}
use Rattle.catalogue_laws.specs.Steps.{EntryHeld, FirstEntry, bound}
use Rattle.catalogue_laws.specs.Walked.{Begun, edge}
use Rattle.entries.specs.declared.WalkState.{WalkState}
use Rattle.entries.specs.Tracing.{StateOf}
use Rattle.regular.specs.Sizes.{Sized}

-- where the search for the i-th entry starts, c being the one before it
abbrev pub from : ℕ → ℕ → List ℕ → ℕ
from i n c = bound (ltb 0 i) n c

-- before every turn but the first, c is an entry, to which the state leads; before the first the state is that of no column
pub record WalkAt (n g r i : ℕ) (c : List ℕ) (state : WalkState) : Type 0 where
  pub sized : ltb 0 i ≡ true → Sized n g r
  pub held : ltb 0 i ≡ true → EntryHeld n (n - g) r c × StateOf (n - 1) c state
  pub start : ltb 0 i ≡ false → StateOf 0 [] state

-- d is the next entry, and has room; the state leads to it
pub record NextFound (n g r i : ℕ) (left : Bool) (c d : List ℕ) (state : WalkState) : Type 0 where
  pub room : left ≡ true
  pub sized : Sized n g r
  pub first : FirstEntry n (n - g) r (from i n c) d
  pub followed : StateOf (n - 1) d state

-- the sizes are refused; or no entry is left; or one is left and has no room
pub data Stops (n g r i : ℕ) (room : Bool) (c : List ℕ) : ℕ → Type 0 where
  refused : (k : ℕ) → 0 < k → k ≤ 3 → Lowest (size_faults n g r) k → Stops n g r i room c k
  ended : Sized n g r → ((e : List ℕ) → Entry n (n - g) r e → from i n c ≤ value n e → ⊥) → Stops n g r i room c 0
  full : Sized n g r → room ≡ false → (d : List ℕ) → FirstEntry n (n - g) r (from i n c) d → Stops n g r i room c 9

-- what a turn hands out: whether it found an entry, the answer's number if it did not, and the entry's columns; zeros if there is none
abbrev pub turn_found : Result (Option (List ℕ)) Refusal → Bool
turn_found (Ok (Some d)) = true
turn_found (Ok None) = false
turn_found (Err e) = false

abbrev pub turn_columns : Result (Option (List ℕ)) Refusal → List ℕ
turn_columns (Ok (Some d)) = d
turn_columns (Ok None) = replicate 16 0
turn_columns (Err e) = replicate 16 0

pub record Turned (n g r i : ℕ) (room : Bool) (c : List ℕ) (found : Bool) (number : ℕ) (d : List ℕ) (state : WalkState) : Type 0 where
  pub goes : found ≡ true → NextFound n g r i room c d state
  pub stops : found ≡ false → Stops n g r i room c number

-- after i turns: the first i entries, c being the last of them
pub record EntriesSoFar (n g r i : ℕ) (all : ℕ → List ℕ) (c : List ℕ) (state : WalkState) : Type 0 where
  pub begun : Begun n (n - g) r i all
  pub last : edge n all i ≡ from i n c
  pub going : WalkAt n g r i c state

-- the loop over the bytes after i turns: the list w, filled up to plan i, was v
pub record FillingBytes (n g r : ℕ) (v w : List ℕ) (i : ℕ) (c : List ℕ) (state : WalkState) : Type 0 where
  pub all : ℕ → List ℕ
  pub progress : EntriesSoFar n g r i all c state
  pub room : plan_start n i ≤ length v
  pub size : length w ≡ length v
  pub entries : (j : ℕ) → j < i → Equal n (all j) (plan_at n w j)
  pub unswitched : (j : ℕ) → j < i → mask_in n (plan_at n w j) ≡ 0
  pub rest : drop (plan_start n i) w ≡ drop (plan_start n i) v
