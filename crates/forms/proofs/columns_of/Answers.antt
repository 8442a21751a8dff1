-- `forms::columns_of` meets its contract: the plan is admitted, and the columns and the mask of its record are lent. Assumes nothing.
use Rattle.std.proofs.Common.{sym, subst, ap, ◌∙◌, get_or, Ok}
use Rattle.regular.specs.Answers.{admitted_of}
use Rattle.regular.specs.declared.Design.{Design}
use Rattle.signs.specs.Masks.{MaskOf}
use Rattle.lent.specs.Lends.{lends_means}
use Rattle.forms.specs.Made.{columns_fills}
use Rattle.forms.proofs.columns_of.Goals as goal

pub returns : goal.returns
returns g c =
    let p = c.in_ok-admit.field-0 in
    let d = c.record_of-design.ensures in
    let l = c.lend_plan in
    let o = c.args.out.now in
    columns_fills {x = admitted_of (Ok p)} c.in_ok-admit.ensures o l.new.out _
    (lends_means 0 _ _ _ o l.new.out _
    (λ _ w. (λ f h. w.0 f h ∙ ap (λ (d : Design). get_or d.columns f 0) d.record, subst (MaskOf c.args.n p.columns p.run) (sym w.1) d.mask)) l.ensures)
