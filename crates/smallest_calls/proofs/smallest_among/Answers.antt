-- The list is asked for resolution 3, and then no more is found than its own faults.
use Rattle.std.proofs.Common.{◌≡◌, rules}
use Rattle.std.specs.Prelude.{Err}
use Rattle.plan_lists.specs.Judging.{three_records}
use Rattle.smallest_calls.specs.Placed.{refused_among, placed_among}
use Rattle.smallest_calls.proofs.smallest_among.Goals as goal

pub returns-in_err-mask : goal.returns-in_err-mask
returns-in_err-mask g c =
    let a = c.args in
    let e = c.in_err-mask.field-0.0 in
    let is : c.from_residual.result ≡ Err e = search rules in
    rw is (refused_among e a.list.now (three_records a.n a.g a.list.now _ c.check_records-listed.ensures) c.in_err-mask.ensures)

pub returns : goal.returns
returns g c =
    let a = c.args in
    let f = c.in_ok-mask in
    placed_among f.field-0.mask f.field-0.design a.list.now (three_records a.n a.g a.list.now _ c.check_records-listed.ensures)
    f.ensures _ c.first_place-place.ensures
