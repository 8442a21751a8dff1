-- What is drawn, step by step: sizes that have a load, the columns while they are drawn, places swapped, and the whole load. Definitions only.
use Rattle.std.specs.Prelude.{◌≡◌, ℕ, ◌+◌, ◌-◌, ◌%◌, ◌^◌, ◌<◌, ◌≤◌, List, length, slice_index}
use Rattle.regular.specs.Columns.{Column}
use Rattle.regular.specs.Loads.{state_after, draw, FirstUnused, Unswapped, swapped, Load, state_back}
use Rattle.column_forms.specs.Tables.{Seen}

-- sizes that have a load: n factors of m basics, no more than there are columns
pub record Roomy (n m : ℕ) : Type 0 where
  pub some : 1 ≤ m
  pub few : m ≤ 7
  pub within : m ≤ n
  pub most : n ≤ 16
  pub room : n < 2 ^ m

-- their last column
pub record LastColumn (n m last : ℕ) : Type 0 where
  pub is : last ≡ 2 ^ m - 1
  pub some : 0 < last
  pub most : last < 128
  pub room : n ≤ last

-- the columns of the first f factors, zeros after them; their marks; and the state after their draws
pub record Drawing (m seed f : ℕ) (c seen : List ℕ) (state : ℕ) : Type 0 where
  pub places : length c ≡ 16
  pub marks : Seen c f seen
  pub basic : (e : ℕ) → e < f → e < m → slice_index c e ≡ 2 ^ e
  pub later : (e : ℕ) → m ≤ e → e < f → FirstUnused (2 ^ m - 1) (Column e c) (draw seed (e - m) % (2 ^ m - 1) + 1) (slice_index c e)
  pub unused : (e : ℕ) → f ≤ e → slice_index c e ≡ 0
  pub after : state ≡ state_after seed (f - m)

-- all n columns before swapping
pub record ColumnsDrawn (n m seed : ℕ) (c : List ℕ) (state : ℕ) : Type 0 where
  pub unswapped : Unswapped n m seed c
  pub unused : (e : ℕ) → n ≤ e → slice_index c e ≡ 0
  pub after : state ≡ state_after seed (n - m)

-- the places below n, from the last down, swapped by the draws that follow, whatever the seed and the number of draws before; from b to c
abbrev pub PlacesSwapped : ℕ → ℕ → List ℕ → ℕ → List ℕ → Type 0
PlacesSwapped n before b after c = (seed k : ℕ) → before ≡ state_after seed k
    → (c ≡ swapped seed (n - 1) k b) × (after ≡ state_after seed (k + (n - 1)))

-- the same with the places from i down still to be swapped: b was to be swapped from the last place, c is from place i, by the draws that are left
abbrev pub PlacesLeft : ℕ → ℕ → List ℕ → ℕ → ℕ → List ℕ → Type 0
PlacesLeft n before b i after c = (seed k : ℕ) → before ≡ state_after seed k
    → (swapped seed i (k + (n - 1 - i)) c ≡ swapped seed (n - 1) k b) × (after ≡ state_after seed (k + (n - 1 - i)))

-- the load, zeros after its columns, and the state that goes back
pub record Loaded (n g seed : ℕ) (c : List ℕ) (state : ℕ) : Type 0 where
  pub load : Load n g seed c
  pub unused : (f : ℕ) → n ≤ f → slice_index c f ≡ 0
  pub after : state ≡ state_back n g seed
