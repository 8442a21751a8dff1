-- What putting a plan into bytes leaves there. Definitions only.
use Rattle.std.specs.Prelude.{ℕ, suc, ◌<◌, ◌≡◌, List, length, drop}
use Rattle.regular.specs.PlanBytes.{plan_start, plan_at, mask_in}
use Rattle.regular.specs.Smallest.{Equal}

-- the bytes of a plan have the mask, and their columns are as they were
pub record MaskPut (n switches : ℕ) (before after : List ℕ) : Type 0 where
  pub columns : Equal n after before
  pub mask : mask_in n after ≡ switches
  pub size : length after ≡ length before

-- plan i has the columns and the mask, the plans before it and the bytes after it are as they were
pub record PlanPut (n : ℕ) (columns : List ℕ) (switches i : ℕ) (before after : List ℕ) : Type 0 where
  pub plan : Equal n (plan_at n after i) columns
  pub mask : mask_in n (plan_at n after i) ≡ switches
  pub earlier : (j : ℕ) → j < i → plan_at n after j ≡ plan_at n before j
  pub rest : drop (plan_start n (suc i)) after ≡ drop (plan_start n (suc i)) before
  pub size : length after ≡ length before
