-- `plan_lists::check_wanted` meets its contract: the plan is admitted, then its words are judged. Assumes nothing.
use Rattle.std.proofs.Common.{refl}
use Rattle.plan_lists.specs.Judging.{judged, judges}
use Rattle.plan_lists.proofs.check_wanted.Goals as goal

pub returns : goal.returns
returns g c = judged c.in_ok-admitted.ensures (judges _ _ _ 0 _ refl c.check_resolution.ensures)
