-- `admission::Form::admit` of columns alone meets its contract: 1, 2 and 4 are met first, then the faults of the columns. Assumes nothing.
use Rattle.std.proofs.Common.{refl}
use Rattle.admission.proofs.OfColumns.{bare_refused, bare_taken}
use Rattle.admission.proofs.BareForm.admit.Goals as goal

pub returns-then-list-n : goal.returns-then-list-n
returns-then-list-n c =
    let a = c.args in
    bare_refused a.n a.g a.self.0.now (c.in_ok-check_size.ensures.1 refl) c.if-list-n.true

pub returns : goal.returns
returns c =
    let a = c.args in
    bare_taken a.n a.g a.self.0.now (c.in_ok-check_size.ensures.1 refl) c.if-list-n.false c.array_of.result c.array_of.ensures c.admit_array.result
    c.admit_array.ensures
