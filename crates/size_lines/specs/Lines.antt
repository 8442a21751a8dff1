-- The line that gives a size, three numbers of one or two digits with a space between, and what the functions that read it answer. Definitions only.
use Rattle.std.specs.Prelude.{◌≡◌, Bool, true, false, List, ℕ, ◌+◌, ◌*◌, ◌≤◌, ◌<◌, length, get_or}

-- digit d stands at place p of the line
pub record Digit (line : List ℕ) (p d : ℕ) : Type 0 where
  pub low : d < 10
  pub byte : get_or line p 0 ≡ 48 + d

-- a number of one or two digits stands from place p on: its value, and the place after it
pub data Number (line : List ℕ) (p : ℕ) : ℕ → ℕ → Type 0 where
  one : (d : ℕ) → Digit line p d → Number line p d (p + 1)
  two : (d e : ℕ) → Digit line p d → Digit line (p + 1) e → Number line p (10 * d + e) (p + 2)

-- the line gives the size n, g, r: a and b are the places of its two spaces
pub record SizeLine (line : List ℕ) (n g r : ℕ) : Type 0 where
  pub a : ℕ
  pub b : ℕ
  pub first : Number line 0 n a
  pub space1 : get_or line a 0 ≡ 32
  pub second : Number line (a + 1) g b
  pub space2 : get_or line b 0 ≡ 32
  pub third : Number line (b + 1) r (length line)

-- d is the digit at place p, or 10 and no digit stands there
pub record DigitIs (line : List ℕ) (p d : ℕ) : Type 0 where
  pub high : d ≤ 10
  pub some : d < 10 → get_or line p 0 ≡ 48 + d
  pub none : 9 < d → (x : ℕ) → Digit line p x → ⊥

-- whether a space stands at place p
pub record SpaceIs (line : List ℕ) (p : ℕ) (is : Bool) : Type 0 where
  pub some : is ≡ true → get_or line p 0 ≡ 32
  pub none : is ≡ false → get_or line p 0 ≡ 32 → ⊥

-- the number v from place p to e, none if e is p; it is the only one that no digit follows
pub record NumberPart (line : List ℕ) (p v e : ℕ) : Type 0 where
  pub low : p ≤ e
  pub high : e ≤ p + 2
  pub some : p < e → Number line p v e
  pub only : (w q : ℕ) → Number line p w q → ((x : ℕ) → Digit line q x → ⊥) → (p < e) × (w ≡ v) × (q ≡ e)

-- the size that a line gives, if ok; else it gives none, and the numbers are 0
pub record Parsed (line : List ℕ) (ok : Bool) (n g r : ℕ) : Type 0 where
  pub size : ok ≡ true → SizeLine line n g r
  pub none : ok ≡ false → (x y z : ℕ) → SizeLine line x y z → ⊥
  pub zeros : ok ≡ false → (n ≡ 0) × (g ≡ 0) × (r ≡ 0)
