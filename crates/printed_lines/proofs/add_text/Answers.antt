-- The bytes of the text are copied over the part that it takes. Assumes nothing.
use Rattle.std.proofs.Common.{arith}
use Rattle.printed_lines.proofs.Copied.{text_put}
use Rattle.printed_lines.proofs.add_text.Goals as goal

pub returns : goal.returns
returns c =
    let a = c.args in
    text_put a.out.now c.copy_from_slice.new.self a.text.now a.at _ c.copy_from_slice.ensures.after (omega arith) c.requires
