-- `loads::check_room` meets its contract: the sizes are met first, then whether there are columns enough. Assumes nothing.
use Rattle.std.proofs.Common.{refl, arith}
use Rattle.loads.specs.Answers.{load_crowded}
use Rattle.loads.proofs.check_room.Goals as goal

pub returns-then-power-n : goal.returns-then-power-n
returns-then-power-n c =
    let a = c.args in
    (load_crowded a.n a.g 0 refl c.in_ok-check_size.ensures.0 (omega (arith, c.power.ensures.0)), λ e. absurd (omega arith))
