-- `measures::distances` meets its contract: the runs of the standard columns are counted by their low levels, the first run having none. Assumes nothing.
use Rattle.measures.specs.Ready.{runs_distances}
use Rattle.measures.proofs.distances.Goals as goal

pub returns : goal.returns
returns c =
    runs_distances c.requires c.run_table-runs.ensures c.power.ensures.0 c.distances_of.ensures
