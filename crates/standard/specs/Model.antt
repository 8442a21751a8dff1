-- Standard columns of a run table, as a function that computes. Definitions only.
use Rattle.std.specs.Prelude.{ℕ, zero, suc, ◌+◌, ◌*◌, ◌^◌, Bool, true, false, ◌&&◌, List, [], ◌∷◌, eqb, length, get_or}
use Rattle.std.specs.Int.Bits.{bit_xor}
use Rattle.gf2.specs.Digits.{bit, odd, pick}
use Rattle.gf2.specs.Lists.{image, list_to}
use Rattle.regular.specs.Columns.{run_of}

-- the levels of x at the basic factors, the i-th basic at bit i; the list has the last basic first
unfoldable pub coord_of : List ℕ → ℕ → ℕ
coord_of [] x = 0
coord_of (p ∷ bs) x = bit p x * 2 ^ length bs + coord_of bs x

-- every run less the first run
abbrev pub diffs : List ℕ → List ℕ
diffs t = image (λ x. bit_xor x (get_or t 0 0)) t

-- column k gives factor f its level in every run of u
unfoldable pub fits_all : List ℕ → List ℕ → ℕ → ℕ → Bool
fits_all bs [] f k = true
fits_all bs (x ∷ u) f k = eqb (bit f x) (odd (coord_of bs x) k) && fits_all bs u f k

-- the first of k, k + 1, .., k + fuel that fits, the last one untried
unfoldable pub first_from : List ℕ → List ℕ → ℕ → ℕ → ℕ → ℕ
first_from bs u f zero k = k
first_from bs u f (suc fuel) k = let r = first_from bs u f fuel (suc k) in pick (fits_all bs u f k) k r

-- the column of factor f: the first that fits, else the next unit
abbrev pub first_fit : List ℕ → List ℕ → ℕ → ℕ
first_fit bs u f = first_from bs u f (2 ^ length bs) 0

abbrev pub choose : Bool → List ℕ → List ℕ → List ℕ
choose true a b = a
choose false a b = b

-- the basic factors among the first f, the last first
unfoldable pub basics_at : List ℕ → ℕ → List ℕ
basics_at u zero = []
basics_at u (suc f) = let bs = basics_at u f in choose (eqb (first_fit bs u f) (2 ^ length bs)) (f ∷ bs) bs

-- the column of factor f
unfoldable pub column_at : List ℕ → ℕ → ℕ
column_at u f = first_fit (basics_at u f) u f

abbrev pub columns_to : List ℕ → ℕ → List ℕ
columns_to u n = list_to (column_at u) n

-- the standard columns of a run table
abbrev pub standard : List ℕ → ℕ → List ℕ
standard t n = columns_to (diffs t) n

-- the run table of columns, run j at place j
abbrev pub run_table : ℕ → ℕ → List ℕ → List ℕ
run_table n m c = list_to (run_of c n) (2 ^ m)
