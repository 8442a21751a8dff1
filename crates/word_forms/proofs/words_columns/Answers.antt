-- `word_forms::words_columns` meets its contract: the pivot words exist exactly if the words are independent, and the columns read off them are standard.
-- Assumes nothing.
use Rattle.std.proofs.Common.{arith, length, refl}
use Rattle.word_forms.specs.Turns.{found_done}
use Rattle.word_forms.proofs.words_columns.Goals as goal

pub returns : goal.returns
returns c =
    let ws = c.args.ws.now in
    let e = c.in_ok-piv in
    found_done c.args.n (length ws) ws e.piv c.read_columns.result (omega arith) (e.ensures.done refl) c.read_columns.ensures
