-- `smallest_calls::smallest_into` meets its contract: the list and the lent list are judged first, then the plan; its form is lent and looked for. Assumes
-- nothing.
use Rattle.std.proofs.Common.{◌≡◌, refl, arith, rules}
use Rattle.std.specs.Prelude.{Err}
use Rattle.lent.specs.Lending.{lending_accepted}
use Rattle.smallest_calls.specs.Others.{others_number, others_size}
use Rattle.smallest_calls.specs.Placed.{put_lent, formed_other, refused_into, placed_into}
use Rattle.smallest_calls.proofs.smallest_into.Goals as goal

pub lending_plan-other-requires : goal.lending_plan-other-requires
lending_plan-other-requires g c = λ e. (others_size _ _ _ _ _ _ c.check_plans-listed.ensures e).most

pub form_of-requires : goal.form_of-requires
form_of-requires g c = omega (arith, others_number c.check_plans-listed.ensures c.lending_plan-other.ensures.number)

pub returns-in_err-mask : goal.returns-in_err-mask
returns-in_err-mask g c =
    let e = c.in_err-mask.field-0.0 in
    let is : c.from_residual.result ≡ Err e = search rules in
    rw is (refused_into _ _ e c.check_plans-listed.ensures c.lending_plan-other.ensures.number c.in_err-mask.ensures)

pub put_plan-requires : goal.put_plan-requires
put_plan-requires g c =
    let fits = lending_accepted _ _ _ _ c.lending_plan-other.ensures.number (formed_other c.in_ok-mask.ensures refl) in
    ((c.in_ok-mask.ensures.sizes refl).most, search rules)

pub returns : goal.returns
returns g c =
    let f = c.in_ok-mask in
    let lent = c.lending_plan-other.ensures.number in
    let fits = lending_accepted _ _ _ _ lent (formed_other f.ensures refl) in
    placed_into _ _ f.field-0.mask f.field-0.design c.check_plans-listed.ensures lent f.ensures _ c.first_columns-place.result
    (put_lent fits.1 c.put_plan.ensures) c.first_columns-place.ensures
