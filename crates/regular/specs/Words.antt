-- Words (defining words) of a plan, and the plan that words generate (document 01, "Plans in three forms"). Definitions only.
-- A set of factors is a number whose bit f says whether factor f is in it. The product of its signs in a run is − if an odd number of its
-- factors are low there, that is if the run and the set share an odd number of bits.
use Rattle.std.specs.Prelude.{ℕ, zero, suc, ◌*◌, ◌^◌, ◌/◌, ◌≤◌, ◌<◌, ◌≡◌, List, get_or}
use Rattle.std.specs.Int.Bits.{bit_xor}
use Rattle.std.specs.Int.Count.{ones}
use Rattle.gf2.specs.Digits.{bit, odd}
use Rattle.regular.specs.Runs.{Runs, Agree}

-- a word: factors, not none, whose signs have the same product in every run
pub record Word (n : ℕ) (s : Runs) (w : ℕ) : Type 0 where
  pub some : 0 < w
  pub within : w < 2 ^ n
  pub constant : (x y : ℕ) → s x → s y → odd x w ≡ odd y w

-- the number of letters of a set of factors
abbrev pub letters : ℕ → ℕ
letters w = ones w

-- no word has fewer than r letters
abbrev pub NoShort : ℕ → ℕ → Runs → Type 0
NoShort n r s = (w : ℕ) → Word n s w → r ≤ letters w

-- the plan that the first g of the words generate: every product is +, so each word meets every run in an even number of low levels
pub record Generated (n g : ℕ) (ws : List ℕ) (x : ℕ) : Type 0 where
  pub within : x < 2 ^ n
  pub even : (i : ℕ) → i < g → odd x (get_or ws i 0) ≡ 0

-- the exclusive-or of those of the first n numbers of c that stand at a bit of w
unfoldable pub total : List ℕ → ℕ → ℕ → ℕ
total c zero w = 0
total c (suc n) w = bit_xor (total c n w) (get_or c n 0 * bit n w)

-- independent words: no product of some of them is empty
abbrev pub Independent : ℕ → List ℕ → Type 0
Independent g ws = (s : ℕ) → s < 2 ^ g → total ws g s ≡ 0 → s ≡ 0

-- f is the last letter of w
abbrev pub Last : ℕ → ℕ → Type 0
Last f w = w / 2 ^ f ≡ 1

-- the reduced words of a plan of g generators: g words that generate it, by rising last letter, in which no other word's last letter stands
pub record Reduced (n g : ℕ) (s : Runs) (ws : List ℕ) : Type 0 where
  pub word : (i : ℕ) → i < g → Word n s (get_or ws i 0)
  pub plan : Agree s (Generated n g ws)
  pub rising : (i j e f : ℕ) → i < j → j < g → Last e (get_or ws i 0) → Last f (get_or ws j 0) → e < f
  pub apart : (i j f : ℕ) → i < g → j < g → (i ≡ j → ⊥) → Last f (get_or ws j 0) → bit f (get_or ws i 0) ≡ 0

-- the fraction of the first g words with their signs (document 02, request 5), bit i of `signs` for word i: the product of word i is − if its sign is
-- 1, so that the word meets every run in an odd number of low levels, and + if it is 0
pub record Fraction (n g : ℕ) (ws : List ℕ) (signs x : ℕ) : Type 0 where
  pub within : x < 2 ^ n
  pub product : (i : ℕ) → i < g → odd x (get_or ws i 0) ≡ bit i signs

-- the reduced words of a plan of g generators, and their signs
pub record SignedWords (n g : ℕ) (s : Runs) (ws : List ℕ) (signs : ℕ) : Type 0 where
  pub words : Reduced n g (Generated n g ws) ws
  pub within : signs < 2 ^ g
  pub plan : Agree s (Fraction n g ws signs)
