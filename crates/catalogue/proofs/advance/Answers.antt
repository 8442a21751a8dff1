-- `catalogue::advance` meets its contract: the four ways that a turn goes. Assumes nothing.
use Rattle.std.proofs.Common.{refl, arith, ◌≡◌, rules}
use Rattle.std.specs.Prelude.{Err}
use Rattle.regular.specs.RefusalLaws.{number_positive}
use Rattle.catalogue.proofs.Turns.{turn_refused, turn_ended, turn_full}
use Rattle.catalogue.proofs.advance.Goals as goal

pub returns-in_err-check_bounds : goal.returns-in_err-check_bounds
returns-in_err-check_bounds c =
    let h = c.in_err-check_bounds.ensures in
    let e = c.in_err-check_bounds.field-0.0 in
    let is : c.from_residual.result ≡ Err e = search rules in
    rw is (turn_refused _ _ _ _ _ _ _ _ (λ z. omega (arith, z, number_positive e)) h.2 h.0 _)

pub returns-in_default : goal.returns-in_default
returns-in_default c = turn_ended _ _ _ _ _ _ (c.in_ok-check_bounds.ensures.1 refl) _ _ c.in_default.ensures.stepped refl _ _

pub returns-then-not-room : goal.returns-then-not-room
returns-then-not-room c =
    turn_full _ _ _ _ _ _ (c.in_ok-check_bounds.ensures.1 refl) _ _ c.in-Some.ensures.stepped refl c.if-not-room.true _ _
