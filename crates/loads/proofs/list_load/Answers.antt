-- `loads::list_load` meets its contract: a list that is too short gives the seed back; any other call lends the plan of the load. Assumes nothing.
use Rattle.std.proofs.Common.{◌≡◌, refl, arith, rules}
use Rattle.std.specs.Prelude.{Err}
use Rattle.regular.specs.RefusalLaws.{number_positive}
use Rattle.loads.specs.Answers.{into_lent}
use Rattle.loads.proofs.list_load.Goals as goal

pub returns-in_err-lend_plan : goal.returns-in_err-lend_plan
returns-in_err-lend_plan c =
    let a = c.args in
    let d = c.drawn_load-state in
    let l = c.lend_plan in
    let e = c.in_err-lend_plan.field-0.0 in
    let is : c.from_residual-in_err-lend_plan.result ≡ Err e = search rules in
    rw is (into_lent a.n a.g a.seed 0 c.in_ok-check_room.ensures.0 refl d.result.columns d.result.state d.ensures a.out.now l.new.out _
    c.in_err-lend_plan.ensures a.seed (λ _. refl) (λ z. absurd (omega (arith, number_positive e))))
