-- `patterns::distances_of` meets its contract: the letters of the runs are counted. Assumes nothing.
use Rattle.std.proofs.Common.{◌≡◌, length, arith, rules}
use Rattle.patterns.proofs.Laws.{counts_front, distance_model}
use Rattle.patterns.proofs.distances_of.Goals as goal

pub returns : goal.returns
returns c =
    let a = c.args in
    let long : 128 ≡ length a.runs = search rules in
    distance_model a.end a.runs _ (counts_front a.end a.runs _ (omega (arith, c.requires, long)) c.letter_counts.ensures)
