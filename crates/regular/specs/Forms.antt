-- What the calls that turn the forms of a plan into each other answer (document 01, "Plans in three forms"; document 02, request 5). Definitions only.
use Rattle.std.specs.Prelude.{ℕ, ◌-◌, ◌<◌, ◌≡◌, List}
use Rattle.regular.specs.Words.{SignedWords}
use Rattle.regular.specs.Columns.{Standard}
use Rattle.regular.specs.Designs.{HoldsWith, blank}
use Rattle.regular.specs.PlanBytes.{plan_bytes, mask_in}
use Rattle.regular.specs.Given.{Given, GivesFor, FillsFor}
use Rattle.regular.specs.declared.Design.{Design}
use Rattle.regular.specs.declared.SignsAnswer.{SignsAnswer}

-- the standard columns and the mask of the plan: as a record, and as the bytes of a plan in a lent list
abbrev pub StandardDesign : ℕ → ℕ → Given → ℕ → Design → Type 0
StandardDesign n g p number design = GivesFor p (λ s. HoldsWith n (n - g) (Standard n (n - g) s)) blank number design

abbrev pub StandardInto : ℕ → ℕ → Given → List ℕ → List ℕ → ℕ → Type 0
StandardInto n g p entry exit r = FillsFor p (plan_bytes n) (λ s zs. Standard n (n - g) s zs (mask_in n zs)) entry exit r

-- the reduced words in a lent list, and their signs; no signs if refused
pub record WordsInto (n g : ℕ) (p : Given) (entry exit : List ℕ) (r : SignsAnswer) : Type 0 where
  pub words : FillsFor p g (λ s ws. SignedWords n g s ws r.signs) entry exit r.number
  pub no_signs : 0 < r.number → r.signs ≡ 0
