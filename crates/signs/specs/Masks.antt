-- The mask of a plan that has the run x and columns in standard form: x and a run of the columns, every basic factor being high. Definitions only.
use Rattle.std.specs.Prelude.{ℕ, ◌^◌, ◌<◌, ◌≡◌, List, get_or}
use Rattle.std.specs.Int.Bits.{bit_xor}
use Rattle.gf2.specs.Digits.{bit}
use Rattle.regular.specs.Columns.{run_of}
use Rattle.standard.specs.Form.{units_before}

pub record MaskOf (n : ℕ) (c : List ℕ) (x mask : ℕ) : Type 0 where
  pub run : ℕ
  pub below : run < 2 ^ units_before c n
  pub is : mask ≡ bit_xor x (run_of c n run)
  pub high : (f : ℕ) → f < n → get_or c f 0 ≡ 2 ^ units_before c f → bit f mask ≡ 0
