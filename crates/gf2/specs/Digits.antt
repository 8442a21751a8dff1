-- Binary digits of a number, and the parity of the digits that two numbers share. Definitions only; the laws are in DigitLaws and Parity.
use Rattle.std.specs.Prelude.{ℕ, ◌/◌, ◌%◌, ◌^◌, Bool, true, false}
use Rattle.std.specs.Int.Bits.{bit_and}
use Rattle.std.specs.Int.Count.{ones}

-- the digit of x at the place i
abbrev pub bit : ℕ → ℕ → ℕ
bit i x = x / 2 ^ i % 2

-- 1 if j and c share an odd number of digits, else 0
unfoldable pub odd : ℕ → ℕ → ℕ
odd j c = ones (bit_and j c) % 2

-- a test in a definition
abbrev pub pick : Bool → ℕ → ℕ → ℕ
pick true a b = a
pick false a b = b
