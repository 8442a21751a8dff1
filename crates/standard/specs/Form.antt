-- Columns in standard form: the walk over the factors that gives the standard columns of a plan, as a property. Definitions only.
-- That they are the standard columns of document 01, and the only ones, is proved in the crate words (`form_standard`, `standard_columns_unique`).
use Rattle.std.specs.Prelude.{ℕ, zero, suc, ◌+◌, ◌^◌, ◌≤◌, ◌<◌, ◌≡◌, List, eqb, get_or}
use Rattle.gf2.specs.Digits.{pick}
use Rattle.regular.specs.Runs.{Runs, Agree}
use Rattle.regular.specs.Columns.{plan_of, run_of}

-- how many of the first f columns are the next unit when they come
unfoldable pub units_before : List ℕ → ℕ → ℕ
units_before a zero = 0
units_before a (suc f) = units_before a f + pick (eqb (get_or a f 0) (2 ^ units_before a f)) 1 0

-- each of the n columns is the next of 1, 2, 4, .. or below it, and m of them are such units. A column may be 0: a factor of one level.
pub record StandardForm (n m : ℕ) (a : List ℕ) : Type 0 where
  pub next : (f : ℕ) → f < n → get_or a f 0 ≤ 2 ^ units_before a f
  pub units : units_before a n ≡ m

-- a are columns in standard form with the runs of s
pub record StandardFor (n m : ℕ) (s : Runs) (a : List ℕ) : Type 0 where
  pub form : StandardForm n m a
  pub plan : Agree s (plan_of n m a)

-- no run but the first is 0
abbrev pub ZeroOnce : ℕ → ℕ → List ℕ → Type 0
ZeroOnce n m c = (j : ℕ) → j < 2 ^ m → run_of c n j ≡ 0 → j ≡ 0

-- no column is 0 and none stands twice: the plan has no word of fewer than three letters
pub record DistinctNonzero (n : ℕ) (c : List ℕ) : Type 0 where
  pub some : (f : ℕ) → f < n → 0 < get_or c f 0
  pub once : (f g : ℕ) → f < g → g < n → get_or c f 0 ≡ get_or c g 0 → ⊥

-- a column is 0 or stands twice
pub data Repeat (n : ℕ) (c : List ℕ) : Type 0 where
  none : (f : ℕ) → f < n → get_or c f 0 ≡ 0 → Repeat n c
  twice : (f g : ℕ) → f < g → g < n → get_or c f 0 ≡ get_or c g 0 → Repeat n c
