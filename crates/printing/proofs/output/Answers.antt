-- What the line gives is a size, or there is none. Assumes nothing.
use Rattle.std.proofs.Common.{refl, arith}
use Rattle.printing.specs.Output.{Output}
use Rattle.printing.proofs.Printed.{printed}
use Rattle.printing.proofs.output.Goals as goal

pub returns-in-Some : goal.returns-in-Some
returns-in-Some c =
    let s = c.size_output.ensures in
    record { counts = s.counts; text = Output.size _ _ _ _ (c.in-Some.ensures.size refl) s.text; rest = s.rest }

pub returns-in-None : goal.returns-in-None
returns-in-None c =
    let t = c.no_size_line.ensures in
    printed (Output _) t.0 (omega (arith, t.1, c.requires)) (Output.no_size (c.in-None.ensures.none refl))
