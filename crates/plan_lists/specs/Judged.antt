-- What the judging of one plan and of the plans of a list answers, a resolution r being wanted. Definitions only.
use Rattle.std.specs.Prelude.{ℕ, ◌<◌, Bool, ◌≡◌, List}
use Rattle.regular.specs.Runs.{Runs}
use Rattle.regular.specs.Refusals.{WantedFault, SwitchFault, either, Lowest, size_faults}
use Rattle.regular.specs.Given.{Given, of_design, of_columns, of_bare}
use Rattle.regular.specs.RefusalLaws.{Lower}
use Rattle.regular.specs.PlanBytes.{plan_at, mask_in}
use Rattle.regular.specs.PlanLists.{of_some}
use Rattle.regular.specs.declared.Design.{Design}

-- the faults of one plan: its own, and a word shorter than r
abbrev pub wanted : ℕ → ℕ → Given → ℕ → Type 0
wanted n r p = either p.faults (WantedFault n r p.plan)

abbrev pub bare_wanted : ℕ → ℕ → ℕ → List ℕ → ℕ → Type 0
bare_wanted n g r c = wanted n r (of_bare n g c)

-- .. and a mask, where it must be bare of switches
abbrev pub design_wanted : ℕ → ℕ → ℕ → Bool → Design → ℕ → Type 0
design_wanted n g r bare d = either (wanted n r (of_design n g d)) (SwitchFault bare d.mask)

abbrev pub columns_wanted : ℕ → ℕ → ℕ → Bool → List ℕ → ℕ → Type 0
columns_wanted n g r bare c = either (wanted n r (of_columns n g c)) (SwitchFault bare (mask_in n c))

-- a plan s with the refusal `number`, 0 if admitted: that number, or what its words say
pub record WantedNumber (n r : ℕ) (s : Runs) (number k : ℕ) : Type 0 where
  pub refused : 0 < number → k ≡ number
  pub admitted : number ≡ 0 → Lowest (WantedFault n r s) k

-- one plan more: k is the lower of the number so far and that of the plan's faults
pub record JudgedMore (fault : ℕ → Type 0) (lowest k : ℕ) : Type 0 where
  pub number : ℕ
  pub own : Lowest fault number
  pub lower : Lower lowest number k

-- the sizes and the first `count` plans of the bytes are judged
abbrev pub AllJudged : ℕ → ℕ → ℕ → Bool → List ℕ → ℕ → ℕ → Type 0
AllJudged n g r bare bytes count = Lowest (either (size_faults n g r) (of_some (λ i. i < count) (λ i. columns_wanted n g r bare (plan_at n bytes i))))
