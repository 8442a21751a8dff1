-- `forms::runs_of_words` meets its contract: the admitted plan is the words'. Assumes nothing.
use Rattle.std.proofs.Common.{refl, arith, Ok}
use Rattle.regular.specs.Answers.{admitted_of}
use Rattle.forms.specs.Made.{runs_gives}
use Rattle.forms.proofs.runs_of_words.Goals as goal

pub returns : goal.returns
returns c =
    let ad = c.in_ok-standard.ensures in
    let t = c.switched_table in
    runs_gives {x = admitted_of (Ok c.in_ok-standard.standard)} ad (λ e. (ad.starts e).1) 0 t.result
    (record { same = refl; refused = λ l. absurd (omega arith); made = λ _. t.ensures })
