-- `forms::list_runs_of_words` meets its contract: the admitted plan is the words'. Assumes nothing.
use Rattle.std.proofs.Common.{Ok}
use Rattle.regular.specs.Answers.{admitted_of}
use Rattle.forms.specs.Made.{runs_fills}
use Rattle.forms.proofs.list_runs_of_words.Goals as goal

pub returns : goal.returns
returns c =
    let ad = c.in_ok-admitted.ensures in
    let l = c.lend_runs in
    runs_fills {x = admitted_of (Ok c.in_ok-admitted.admitted)} ad (λ e. (ad.starts e).1) c.args.out.now l.new.out _ l.ensures
