-- `measures::resolution` meets its contract: the first length with a word is the shortest word's. Assumes nothing.
use Rattle.std.proofs.Common.{refl}
use Rattle.measures.specs.Measured.{resolution_made}
use Rattle.measures.proofs.resolution.Goals as goal

pub returns : goal.returns
returns c = (resolution_made refl c.pattern.ensures.0 c.resolution_of.ensures).made refl
