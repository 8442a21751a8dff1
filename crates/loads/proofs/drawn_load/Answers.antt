-- `loads::drawn_load` meets its contract: the swaps take the draws after those of the columns (`load_drawn`). Assumes nothing.
use Rattle.loads.specs.Answers.{load_drawn}
use Rattle.loads.proofs.drawn_load.Goals as goal

pub returns : goal.returns
returns c =
    let d = c.draw_columns in
    let s = c.swap_places in
    let a = c.args in
    load_drawn a.n a.g a.seed d.result.columns s.result.columns d.result.state s.result.state c.requires d.ensures
    s.ensures
