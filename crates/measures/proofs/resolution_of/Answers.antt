-- `measures::resolution_of` meets its contract: the plan is admitted, and has the resolution of its standard columns. Assumes nothing.
use Rattle.measures.specs.Measured.{resolution_accepted, resolution_gives}
use Rattle.measures.proofs.resolution_of.Goals as goal

pub returns : goal.returns
returns g c = resolution_gives c.in_ok-admit.ensures (resolution_accepted c.resolution.ensures)
