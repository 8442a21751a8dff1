-- What the list of design records holds after i turns. Definitions only.
use Rattle.std.specs.Prelude.{◌≡◌, List, ℕ, ◌-◌, ◌≤◌, ◌<◌, length, get_or, drop}
use Rattle.regular.specs.Designs.{design_of, blank}
use Rattle.regular.specs.declared.Design.{Design}
use Rattle.entries.specs.declared.WalkState.{WalkState}
use Rattle.catalogue.specs.Turns.{EntriesSoFar}

-- the list zs, filled up to i, was ys
pub record FillingRecords (n g r : ℕ) (ys zs : List Design) (i : ℕ) (c : List ℕ) (state : WalkState) : Type 0 where
  pub all : ℕ → List ℕ
  pub progress : EntriesSoFar n g r i all c state
  pub room : i ≤ length ys
  pub size : length zs ≡ length ys
  pub records : (j : ℕ) → j < i → get_or zs j blank ≡ design_of n (n - g) (all j)
  pub rest : drop i zs ≡ drop i ys
