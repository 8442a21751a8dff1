-- `table_forms::Walked::start` meets its contract: no factor is passed, and all levels are 0. Assumes nothing.
use Rattle.std.proofs.Common.{arith}
use Rattle.gf2.specs.Fill.{zeros}
use Rattle.table_forms.specs.Steps.{walk_start_lem}
use Rattle.table_forms.proofs.Walked.start.Goals as goal

pub places-requires : goal.places-requires
places-requires c = (omega arith, omega arith, λ i h. omega (arith, zeros 128 i))

pub returns : goal.returns
returns c = λ m. walk_start_lem m _ _ c.places.ensures
