-- Masks: what rests on the signed samples.
use Rattle.std.specs.Prelude.{ℕ}
use Rattle.regular.specs.Columns.{plan_with}
use Rattle.regular.specs.Refusals.{MaskFault}
use Rattle.whiteboard.specs.RefusalInstances.{mask_none}
use Rattle.whiteboard.specs.SignInstances.{minus, three, not_all_high}
use Rattle.whiteboard.proofs.SignInstances.{standard_minus, allowed_c}

pub not_run_with : plan_with 3 2 three 4 0 → ⊥
not_run_with h = not_all_high (standard_minus.columns.plan.onto 4 h)

pub no_mask_fault : (k : ℕ) → MaskFault 3 minus 4 k → ⊥
no_mask_fault = mask_none 3 minus 4 allowed_c
