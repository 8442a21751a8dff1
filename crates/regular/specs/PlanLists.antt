-- Several plans in one list, as design records or as their columns' bytes one after another: what is turned away, under which number (document 01's
-- table). Definitions only.
use Rattle.std.specs.Prelude.{ℕ, ◌<◌, Bool, ◌≡◌, List, length, get_or}
use Rattle.regular.specs.Designs.{blank}
use Rattle.regular.specs.PlanBytes.{plan_start, plan_at, HasPlan, mask_in}
use Rattle.regular.specs.Refusals.{SizeFault, ResolutionFault, WantedFault, SwitchFault, either}
use Rattle.regular.specs.Given.{of_design, of_columns}
use Rattle.regular.specs.declared.Design.{Design}

-- 4: the bytes are not whole plans
pub data BytesFault (n : ℕ) (bytes : List ℕ) : ℕ → Type 0 where
  count : ((count : ℕ) → length bytes ≡ plan_start n count → ⊥) → BytesFault n bytes 4

-- the faults of some plan of a list, plan i of which, where there is one, has the faults `fault i`
abbrev pub of_some : (ℕ → Type 0) → (ℕ → ℕ → Type 0) → ℕ → Type 0
of_some there fault k = (i : ℕ) × (there i × fault i k)

-- a list of design records: the sizes, and the faults of each
abbrev pub records_faults : ℕ → ℕ → List Design → ℕ → Type 0
records_faults n g list = either (SizeFault n g) (of_some (λ i. i < length list) (λ i. (of_design n g (get_or list i blank)).faults))

-- plans as bytes: the sizes, the count of bytes, and the faults of each
abbrev pub plans_faults : ℕ → ℕ → List ℕ → ℕ → Type 0
plans_faults n g bytes = either (SizeFault n g) (either (BytesFault n bytes) (of_some (HasPlan n bytes) (λ i. (of_columns n g (plan_at n bytes i)).faults)))

-- the same where a resolution r is wanted and plans must be bare of switches or not: the resolution, a word shorter than it in some plan, and a mask
abbrev pub wanted_records_faults : ℕ → ℕ → ℕ → Bool → List Design → ℕ → Type 0
wanted_records_faults n g r bare list =
    either (records_faults n g list)
    (either (ResolutionFault r)
    (of_some (λ i. i < length list)
    (λ i. either (WantedFault n r (of_design n g (get_or list i blank)).plan) (SwitchFault bare (get_or list i blank).mask))))

abbrev pub wanted_plans_faults : ℕ → ℕ → ℕ → Bool → List ℕ → ℕ → Type 0
wanted_plans_faults n g r bare bytes =
    either (plans_faults n g bytes)
    (either (ResolutionFault r)
    (of_some (HasPlan n bytes)
    (λ i. either (WantedFault n r (of_columns n g (plan_at n bytes i)).plan) (SwitchFault bare (mask_in n (plan_at n bytes i))))))
