-- What is printed of a catalogue: designs that are entries of it. Definitions only.
use Rattle.std.specs.Prelude.{ℕ, ◌-◌, ◌≤◌}
use Rattle.regular.specs.Sizes.{Size}
use Rattle.regular.specs.Designs.{Holds}
use Rattle.regular.specs.Smallest.{Entry}
use Rattle.regular.specs.declared.Design.{Design}

-- a design of n factors and g generators that is an entry of some catalogue
pub record Listable (n g : ℕ) (d : Design) : Type 0 where
  pub size : Size n g
  pub r : ℕ
  pub low : 3 ≤ r
  pub holds : Holds n (n - g) (Entry n (n - g) r) d
