-- Columns, the runs that they give, their rank, and the standard columns of a plan (document 01, "Plans in three forms"). Definitions only.
-- Column bit i says whether basic factor i enters that factor.
use Rattle.std.specs.Prelude.{ℕ, zero, suc, ◌+◌, ◌*◌, ◌^◌, ◌≤◌, ◌<◌, ◌≡◌, List, length, get_or}
use Rattle.std.specs.Int.Bits.{bit_xor}
use Rattle.gf2.specs.Digits.{bit, odd}
use Rattle.gf2.specs.Counts.{Count}
use Rattle.regular.specs.Runs.{Runs, Agree, switched}
use Rattle.regular.specs.Words.{Word, Last, total}

-- run j of the first n columns: a factor is low if j and its column share an odd number of bits
unfoldable pub run_of : List ℕ → ℕ → ℕ → ℕ
run_of c zero j = 0
run_of c (suc n) j = run_of c n j + odd j (get_or c n 0) * 2 ^ n

-- the plan of n columns: its runs 0 to 2^m - 1
abbrev pub plan_of : ℕ → ℕ → List ℕ → Runs
plan_of n m c x = (j : ℕ) × ((j < 2 ^ m) × (x ≡ run_of c n j))

-- the plan of n columns and a switch mask: the mask is exclusive-ored into each run (document 02, request 5)
abbrev pub plan_with : ℕ → ℕ → List ℕ → ℕ → Runs
plan_with n m c mask = switched mask (plan_of n m c)

-- the columns are numbers of m bits
abbrev pub Below : ℕ → ℕ → List ℕ → Type 0
Below n m c = (f : ℕ) → f < n → get_or c f 0 < 2 ^ m

-- v is one of the first n columns
abbrev pub Column : ℕ → List ℕ → ℕ → Type 0
Column n c v = (f : ℕ) × ((f < n) × (get_or c f 0 ≡ v))

-- the columns have rank m: every number of m bits is the exclusive-or of some of them
abbrev pub Spans : ℕ → ℕ → List ℕ → Type 0
Spans n m c = (v : ℕ) → v < 2 ^ m → (w : ℕ) × ((w < 2 ^ n) × (total c n w ≡ v))

-- the runs of columns in a list: run j at place j
abbrev pub Listed : ℕ → ℕ → List ℕ → List ℕ → Type 0
Listed n m c t = (j : ℕ) → j < 2 ^ m → get_or t j 0 ≡ run_of c n j

-- the run table of columns in 128 places, the unused places zero
pub record RunTable (n m : ℕ) (c t : List ℕ) : Type 0 where
  pub places : length t ≡ 128
  pub run : Listed n m c t
  pub unused : (j : ℕ) → 2 ^ m ≤ j → get_or t j 0 ≡ 0

-- the runs of columns and a mask in a list, and in 128 places: run j, switched, at place j; the unused places are zero
abbrev pub ListedWith : ℕ → ℕ → List ℕ → ℕ → List ℕ → Type 0
ListedWith n m c mask t = (j : ℕ) → j < 2 ^ m → get_or t j 0 ≡ bit_xor (run_of c n j) mask

pub record RunTableWith (n m : ℕ) (c : List ℕ) (mask : ℕ) (t : List ℕ) : Type 0 where
  pub places : length t ≡ 128
  pub run : ListedWith n m c mask t
  pub unused : (j : ℕ) → 2 ^ m ≤ j → get_or t j 0 ≡ 0

-- a factor that is the last letter of no word
abbrev pub Basic : ℕ → Runs → ℕ → Type 0
Basic n s f = (w : ℕ) → Word n s w → Last f w → ⊥

-- the standard columns of a plan, as words to columns gives them: from A, a factor that is the last letter of no word takes the next of
-- 1, 2, 4 and so on; the others follow, since the columns' plan is the plan
pub record StandardColumns (n m : ℕ) (s : Runs) (c : List ℕ) : Type 0 where
  pub below : Below n m c
  pub plan : Agree s (plan_of n m c)
  pub basic : (f k : ℕ) → f < n → Basic n s f → Count (λ e. (e < f) × Basic n s e) k → get_or c f 0 ≡ 2 ^ k

-- a switch mask that the plan s allows: zero at every factor that is the last letter of no word, and so at every bit past factor n
abbrev pub Allowed : ℕ → Runs → ℕ → Type 0
Allowed n s mask = (f : ℕ) → Basic n s f → bit f mask ≡ 0

-- the standard columns and the mask of a plan: an allowed mask, and the standard columns of the plan with the levels of the mask switched
pub record Standard (n m : ℕ) (s : Runs) (c : List ℕ) (mask : ℕ) : Type 0 where
  pub allowed : Allowed n s mask
  pub columns : StandardColumns n m (switched mask s) c

-- the run table of a plan, by its standard columns and its mask: in a list, and in 128 places
pub record RunsOfPlan (n m : ℕ) (Form : ℕ → ℕ → List ℕ → ℕ → List ℕ → Type 0) (s : Runs) (t : List ℕ) : Type 0 where
  pub columns : List ℕ
  pub mask : ℕ
  pub standard : Standard n m s columns mask
  pub table : Form n m columns mask t
