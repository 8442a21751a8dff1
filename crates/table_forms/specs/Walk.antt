-- What the walk over the factors of a run table keeps: the basic factors so far, the levels of each run at them, a run for each choice of
-- these levels, and the columns of the factors passed. Definitions only.
use Rattle.std.specs.Prelude.{ℕ, ◌+◌, ◌*◌, ◌^◌, ◌<◌, ◌≤◌, ◌≡◌, Bool, true, false, List, length, get_or, set}
use Rattle.std.specs.Int.Bits.{bit_xor}
use Rattle.gf2.specs.Digits.{bit, odd}
use Rattle.regular.specs.Runs.{Table}
use Rattle.standard.specs.Basics.{ColumnFits, Onto}
use Rattle.standard.specs.Form.{units_before}
use Rattle.standard.specs.Model.{diffs, coord_of}
use Rattle.table_forms.specs.declared.Walked.{Walked}

-- run i less the first run
abbrev pub diff_at : List ℕ → ℕ → ℕ
diff_at t i = bit_xor (get_or t i 0) (get_or t 0 0)

-- place i holds the basic levels of run i less the first run
abbrev pub LevelsHeld : List ℕ → List ℕ → List ℕ → Type 0
LevelsHeld bs t coords = (i : ℕ) → i < length t → get_or coords i 0 ≡ coord_of bs (diff_at t i)

-- place c of v holds the last of the first k runs whose basic levels are c; every place of v holds a number below count
pub record Latest (count k : ℕ) (coords v : List ℕ) : Type 0 where
  pub size : length v ≡ 128
  pub within : (c : ℕ) → get_or v c 0 < count
  pub same : (i : ℕ) → i < k → get_or coords (get_or v (get_or coords i 0) 0) 0 ≡ get_or coords i 0
  pub last : (i : ℕ) → i < k → i ≤ get_or v (get_or coords i 0) 0

-- run x has basic factor i low, and no other
abbrev pub Alone : List ℕ → ℕ → ℕ → Type 0
Alone coords i x = get_or coords x 0 ≡ 2 ^ i

-- bit i of column k is the level of factor f in a run that has basic factor i alone low
abbrev pub Read : List ℕ → List ℕ → ℕ → ℕ → ℕ → Type 0
Read t coords f k i = (x : ℕ) × ((x < length t) × (Alone coords i x × (bit i k ≡ bit f (diff_at t x))))

-- the only column of b bits that can give factor f its levels, or a basic factor that is low alone in no run
pub record Candidate (t coords place : List ℕ) (b f : ℕ) (ok : Bool) (k : ℕ) : Type 0 where
  pub below : ok ≡ true → k < 2 ^ b
  pub reads : ok ≡ true → (i : ℕ) → i < b → Read t coords f k i
  pub missing : ok ≡ false → (i : ℕ) × ((i < b) × (Alone coords i (get_or place (2 ^ i) 0) → ⊥))

-- column k gives factor f its level in run i
abbrev pub FitsAt : List ℕ → List ℕ → ℕ → ℕ → ℕ → Type 0
FitsAt t coords f k i = bit f (diff_at t i) ≡ odd (get_or coords i 0) k

-- whether column k gives factor f its level in every run
pub record Fitting (t coords : List ℕ) (f k : ℕ) (ok : Bool) : Type 0 where
  pub all : ok ≡ true → (i : ℕ) → i < length t → FitsAt t coords f k i
  pub some : ok ≡ false → (i : ℕ) × ((i < length t) × (FitsAt t coords f k i → ⊥))

-- wrong is 0 exactly if column k gives factor f its level in each run from a to before b
pub record FitsFrom (t coords : List ℕ) (f k a b wrong : ℕ) : Type 0 where
  pub all : wrong ≡ 0 → (i : ℕ) → i < b → a ≤ i → FitsAt t coords f k i
  pub some : (wrong ≡ 0 → ⊥) → (i : ℕ) × ((i < b) × ((a ≤ i) × (FitsAt t coords f k i → ⊥)))

-- c is c₀ with the level of factor f put above the levels of each of the first k runs
pub record LevelsExtended (t c₀ c : List ℕ) (f half k : ℕ) : Type 0 where
  pub size : length c ≡ 128
  pub made : (i : ℕ) → i < k → get_or c i 0 ≡ bit f (diff_at t i) * half + get_or c₀ i 0
  pub kept : (i : ℕ) → k ≤ i → get_or c i 0 ≡ get_or c₀ i 0

-- the state of the walk before factor f; the basic factors bs have the last first
pub record TableWalk (m : ℕ) (t : List ℕ) (f : ℕ) (w : Walked) : Type 0 where
  pub bs : List ℕ
  pub basics : w.basics ≡ length bs
  pub few : length bs ≤ m
  pub half : w.half ≡ 2 ^ length bs
  pub held : LevelsHeld bs t w.coords
  pub latest : Latest (length t) (length t) w.coords w.place
  pub onto : (n : ℕ) → Table n m t → Onto bs (diffs t)
  pub size : length w.columns ≡ 16
  pub fits : (g : ℕ) → g < f → (get_or w.columns g 0 < 2 ^ length bs) × ColumnFits bs (diffs t) g (get_or w.columns g 0)
  pub next : (g : ℕ) → g < f → get_or w.columns g 0 ≤ 2 ^ units_before w.columns g
  pub units : units_before w.columns f ≡ length bs
  pub unused : (g : ℕ) → f ≤ g → get_or w.columns g 0 ≡ 0

-- v is w with the column k for factor f
pub record ColumnGiven (f k : ℕ) (w v : Walked) : Type 0 where
  pub is : v ≡ record { columns = set w.columns f k; basics = w.basics; half = w.half; coords = w.coords; place = w.place }

-- v is w with factor f as one more basic factor
pub record BasicAdded (t : List ℕ) (f : ℕ) (w v : Walked) : Type 0 where
  pub is : v ≡ record {
    columns = set w.columns f w.half;
    basics = w.basics + 1;
    half = w.half + w.half;
    coords = v.coords;
    place = v.place;
  }
  pub extended : LevelsExtended t w.coords v.coords f w.half (length t)
  pub latest : Latest (length t) (length t) v.coords v.place

-- the walk went on to factor f, or the runs are not different and regular
pub record WalkReached (m : ℕ) (t : List ℕ) (f : ℕ) (ok : Bool) (w : Walked) : Type 0 where
  pub walk : ok ≡ true → TableWalk m t f w
  pub refused : ok ≡ false → (n : ℕ) → Table n m t → ⊥

-- whether each of the first k runs is the last with its basic levels
pub record AllLast (k : ℕ) (coords place : List ℕ) (ok : Bool) : Type 0 where
  pub all : ok ≡ true → (i : ℕ) → i < k → get_or place (get_or coords i 0) 0 ≡ i
  pub some : ok ≡ false → (i : ℕ) × ((i < k) × (get_or place (get_or coords i 0) 0 ≡ i → ⊥))
