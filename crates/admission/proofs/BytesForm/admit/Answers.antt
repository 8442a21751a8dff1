-- `admission::Form::admit` of the bytes of a plan meets its contract: 1, 2 and 4 are met first, then the faults of the columns and the mask. Assumes nothing.
use Rattle.std.proofs.Common.{rules, sym, ◌∙◌, refl}
use Rattle.admission.proofs.OfColumns.{bytes_sizes, bytes_refused, bytes_taken}
use Rattle.admission.proofs.BytesForm.admit.Goals as goal

pub returns-in_err-check_size : goal.returns-in_err-check_size
returns-in_err-check_size c =
    let a = c.args in
    bytes_sizes a.n a.g a.self.0.now c.in_err-check_size.field-0.0 c.from_residual.result (search rules) c.in_err-check_size.ensures.0

pub returns-then-plan-plan_bytes : goal.returns-then-plan-plan_bytes
returns-then-plan-plan_bytes c =
    let a = c.args in
    bytes_refused a.n a.g a.self.0.now (c.in_ok-check_size.ensures.1 refl) (λ e. c.if-plan-plan_bytes.true (e ∙ sym c.plan_bytes.ensures))

pub returns : goal.returns
returns c =
    let a = c.args in
    bytes_taken a.n a.g a.self.0.now (c.in_ok-check_size.ensures.1 refl) (c.if-plan-plan_bytes.false ∙ c.plan_bytes.ensures) c.columns_at.result
    c.columns_at.ensures.0 c.mask_in.result c.mask_in.ensures c.admit_array.result c.admit_array.ensures
