-- A plan as it is given to a call, in whichever form: by words, columns, a run table or a design record (document 01, "Plans in three forms" and the
-- table of refusals). What a call promises is said of the given plan. Definitions only.
use Rattle.std.specs.Prelude.{ℕ, ◌-◌, ◌≡◌, List, get_or}
use Rattle.regular.specs.Runs.{Runs, runs_of}
use Rattle.regular.specs.Words.{Fraction}
use Rattle.regular.specs.Columns.{plan_of, plan_with, Allowed}
use Rattle.regular.specs.PlanBytes.{mask_in}
use Rattle.regular.specs.Refusals.{LentFault, either, words_faults, runs_faults, design_faults, columns_faults, bare_faults, Gives, Fills}
use Rattle.regular.specs.declared.Design.{Design}

-- its faults, by number; its set of runs; and `start x`, that x is the run it starts from: distances are counted from it, and a witness without
-- switches takes it to the start of the other plan
pub record Given : Type 1 where
  pub faults : ℕ → Type 0
  pub plan : Runs
  pub start : ℕ → Type 0

-- the plan of words and signs starts from the run that it allows as a mask, that of a plan's bytes and of a design record from their mask, a table from
-- its first run
abbrev pub of_words : ℕ → ℕ → List ℕ → ℕ → Given
of_words n g ws signs = record {
  faults = words_faults n g ws signs;
  plan = Fraction n g ws signs;
  start = λ x. Fraction n g ws signs x × Allowed n (Fraction n g ws signs) x;
}

abbrev pub of_columns : ℕ → ℕ → List ℕ → Given
of_columns n g c = record { faults = columns_faults n g c; plan = plan_with n (n - g) c (mask_in n c); start = λ x. x ≡ mask_in n c }

abbrev pub of_design : ℕ → ℕ → Design → Given
of_design n g d = record { faults = design_faults n g d; plan = plan_with n (n - g) d.columns d.mask; start = λ x. x ≡ d.mask }

-- n columns alone, as a book has them
abbrev pub of_bare : ℕ → ℕ → List ℕ → Given
of_bare n g c = record { faults = bare_faults n g c; plan = plan_of n (n - g) c; start = λ x. x ≡ 0 }

abbrev pub of_runs : ℕ → ℕ → List ℕ → Given
of_runs n g t = record { faults = runs_faults n g t; plan = runs_of t; start = λ x. x ≡ get_or t 0 0 }

-- a call on one plan that answers a number and a value, and one that fills the first k places of a lent list
abbrev pub GivesFor : {A : Type 0} → Given → (Runs → A → Type 0) → A → ℕ → A → Type 0
GivesFor p Result none r value = Gives p.faults (Result p.plan) none r value

abbrev pub FillsFor : Given → ℕ → (Runs → List ℕ → Type 0) → List ℕ → List ℕ → ℕ → Type 0
FillsFor p k Result entry exit r = Fills (either p.faults (LentFault k entry)) k (Result p.plan) entry exit r
