-- Checks that are met in turn (document 02): the first that fails answers, whatever its number. Definitions only.
use Rattle.std.specs.Prelude.{ℕ, ◌<◌}

-- a check: 0 if P is true, else its number
pub data Check (number : ℕ) (P : Type 0) : ℕ → Type 0 where
  holds : P → Check number P 0
  fails : (P → ⊥) → Check number P number

-- two in turn: the number of the first, if it refuses; else that of the next
pub data InTurn (First Then : ℕ → Type 0) : ℕ → Type 0 where
  stops : (k : ℕ) → 0 < k → First k → InTurn First Then k
  passes : (k : ℕ) → First 0 → Then k → InTurn First Then k
