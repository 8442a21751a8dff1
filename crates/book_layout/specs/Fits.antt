-- The length of a book fits a number of 64 bits.
use Rattle.std.specs.Prelude.{ℕ, ◌*◌, ◌≤◌}
use Rattle.std.proofs.Common.{mul-le-mul_right, arith}
use Rattle.regular.specs.Book.{entry_length, most_plans}

pub entries_fit : (n count : ℕ) → n ≤ 16 → count ≤ most_plans → count * entry_length n ≤ most_plans * entry_length 16
entries_fit n count h l = omega (arith, mul-le-mul_right {m = count} {n = most_plans} (entry_length n) l)
