-- Signs as a letter: the words with their signs in the place of letter A. Definitions only.
use Rattle.std.specs.Prelude.{ℕ, ◌+◌, ◌^◌, ◌≤◌, ◌<◌, ◌≡◌, List, get_or}
use Rattle.std.specs.Int.Bits.{bit_xor}
use Rattle.gf2.specs.Digits.{bit}
use Rattle.regular.specs.Words.{Generated, Independent, NoShort}

-- word i, with the letter A exactly if its sign is minus
abbrev pub signed_at : List ℕ → ℕ → ℕ → ℕ
signed_at ws signs i = bit_xor (bit_xor (get_or ws i 0) (bit 0 (get_or ws i 0))) (bit i signs)

-- the first g words with their signs in the place of letter A
abbrev pub SignedAtA : ℕ → List ℕ → ℕ → List ℕ → Type 0
SignedAtA g ws signs v = (i : ℕ) → i < g → get_or v i 0 ≡ signed_at ws signs i

-- g independent words of n factors, sizes in bounds, that generate no short word
pub record Solvable (n g : ℕ) (ws : List ℕ) : Type 0 where
  pub most : n ≤ 16
  pub less : g < n
  pub basics : n ≤ g + 7
  pub within : (i : ℕ) → i < g → get_or ws i 0 < 2 ^ n
  pub independent : Independent g ws
  pub long : NoShort n 3 (Generated n g ws)
