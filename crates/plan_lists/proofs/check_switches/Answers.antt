-- A mask other than 0 is at fault where plans must be bare, and nowhere else.
use Rattle.plan_lists.specs.Judging.{switch_some}
use Rattle.plan_lists.proofs.check_switches.Goals as goal

pub returns-then-mask-ne0 : goal.returns-then-mask-ne0
returns-then-mask-ne0 c = switch_some c.args.bare c.args.mask c.if-bare.true c.if-mask-ne0.true
