-- `admission::Form::admit` of a design record meets its contract: 1, 2, 4 and a used place past the factors are met first, then the faults of columns and
-- mask. Assumes nothing.
use Rattle.std.proofs.Common.{rules, sym, ◌∙◌, refl, inl, inr}
use Rattle.admission.proofs.OfColumns.{design_sizes, counts_refused, used_refused, design_taken}
use Rattle.admission.proofs.DesignForm.admit.Goals as goal

pub returns-in_err-check_size : goal.returns-in_err-check_size
returns-in_err-check_size c =
    let a = c.args in
    design_sizes a.n a.g a.self c.in_err-check_size.field-0.0 c.from_residual.result (search rules) c.in_err-check_size.ensures.0

pub returns-then-from-n : goal.returns-then-from-n
returns-then-from-n c =
    let a = c.args in
    counts_refused a.n a.g a.self (c.in_ok-check_size.ensures.1 refl) (inl (λ e. c.if-from-n.true (c.from.ensures ∙ e)))

pub returns-then-from-m : goal.returns-then-from-m
returns-then-from-m c =
    let a = c.args in
    counts_refused a.n a.g a.self (c.in_ok-check_size.ensures.1 refl) (inr (λ e. c.if-from-m.true (c.from-2.ensures ∙ e)))

pub returns-then-not-unused_zero : goal.returns-then-not-unused_zero
returns-then-not-unused_zero c =
    let a = c.args in
    let p = c.unused_zero.ensures.1 c.if-not-unused_zero.true in
    used_refused a.n a.g a.self (c.in_ok-check_size.ensures.1 refl) (sym c.from.ensures ∙ c.if-from-n.false) (sym c.from-2.ensures ∙ c.if-from-m.false)
    p.0 p.1.0 p.1.1.0 p.1.1.1

pub returns : goal.returns
returns c =
    let a = c.args in
    design_taken a.n a.g a.self (c.in_ok-check_size.ensures.1 refl) (sym c.from.ensures ∙ c.if-from-n.false) (sym c.from-2.ensures ∙ c.if-from-m.false)
    (c.unused_zero.ensures.0 c.if-not-unused_zero.false) c.admit_array.result c.admit_array.ensures
