-- Elimination with the last letter as pivot, and the standard columns read off it. Definitions only.
use Rattle.std.specs.Prelude.{ℕ, zero, suc, ◌+◌, ◌*◌, ◌^◌, ◌/◌, ◌<◌, ◌≤◌, ◌≡◌, List, [], ◌∷◌, ◌++◌, ◌⊎◌, eqb, length, get_or, set, replicate}
use Rattle.std.specs.Int.Bits.{bit_xor}
use Rattle.gf2.specs.Digits.{bit, pick}
use Rattle.regular.specs.Words.{total, Independent}
use Rattle.standard.specs.Total.{InSpan}
use Rattle.standard.specs.Model.{choose}

-- w less the pivot words of its letters, from letter n - 1 down; piv has the word with last letter f at place f, else 0
unfoldable pub reduced : List ℕ → ℕ → ℕ → ℕ
reduced piv zero w = w
reduced piv (suc f) w = reduced piv f (bit_xor w (get_or piv f 0 * bit f w))

-- the last letter of w
unfoldable pub last_of : ℕ → ℕ → ℕ
last_of zero w = 0
last_of (suc f) w = let r = last_of f w in pick (eqb (bit f w) 1) f r

-- the pivot words of the first i words
unfoldable pub pivots_at : List ℕ → ℕ → ℕ → List ℕ
pivots_at ws n zero = replicate 16 0
pivots_at ws n (suc i) =
    let piv = pivots_at ws n i in
    let w = reduced piv n (get_or ws i 0) in
    set piv (last_of n w) w

-- how many of the first f factors are the last letter of no pivot word
unfoldable pub free_before : List ℕ → ℕ → ℕ
free_before piv zero = 0
free_before piv (suc f) = free_before piv f + pick (eqb (get_or piv f 0) 0) 1 0

-- those factors, the last first
unfoldable pub free_at : List ℕ → ℕ → List ℕ
free_at piv zero = []
free_at piv (suc f) = choose (eqb (get_or piv f 0) 0) (f ∷ free_at piv f) (free_at piv f)

-- the columns: the next unit, or the sum of the columns of the other letters
unfoldable pub word_columns : List ℕ → ℕ → List ℕ
word_columns piv zero = []
word_columns piv (suc f) =
    let a = word_columns piv f in
    a ++ (pick (eqb (get_or piv f 0) 0) (2 ^ free_before piv f) (total a f (get_or piv f 0)) ∷ [])

-- what holds of the pivot words of the first i words
pub record Pivots (n i : ℕ) (ws piv : List ℕ) : Type 0 where
  pub room : n ≤ length piv
  pub last : (f : ℕ) → f < n → (get_or piv f 0 ≡ 0) ⊎ (get_or piv f 0 / 2 ^ f ≡ 1)
  pub from : (f : ℕ) → f < n → InSpan ws i (get_or piv f 0)
  pub back : (g : ℕ) → g < i → InSpan piv n (get_or ws g 0)
  pub count : free_before piv n + i ≡ n
  pub free : Independent i ws
