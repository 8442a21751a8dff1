use Rattle.std.proofs.Common.{sym, ap, ◌∙◌, arith}
use Rattle.std.specs.Int.Bits.{xor_zero_r}
use Rattle.regular.specs.Words.{total}
use Rattle.word_forms.specs.Turns.{total_taken, total_passed}
use Rattle.word_forms.proofs.total_from.Goals as goal
use Rattle.word_forms.proofs.total_from.Goals.{then-level-eq1, else-level-eq1}

pub loop-g-init : goal.loop-g-init
unfolding total
loop-g-init g c = sym (xor_zero_r (g.T.Summand.number c.args.start))

pub loop-g-preserved : goal.loop-g-preserved
loop-g-preserved g c =
    let d = g.T.Summand in
    let xs = c.args.columns.now in
    let l = c.loop-g in
    let x = c.index-columns-g in
    elim c.if-level-eq1.branch [
      | then-level-eq1 b ↦
          ap d.number b.t-is ∙ c.plus-sum.ensures
          ∙ total_taken _ (d.numbers xs) l.g c.args.w (d.number l.t) l.invariant (d.number x.result)
          (ap d.number x.is ∙ sym (g.met.T.Summand.laws.place xs l.g x.result (omega arith))) (sym c.level.ensures.0 ∙ b.if-level-eq1.true)
      | else-level-eq1 b ↦
          ap d.number b.t-is
          ∙ total_passed _ (d.numbers xs) l.g c.args.w (d.number l.t) l.invariant (omega arith) (λ e. b.if-level-eq1.false (c.level.ensures.0 ∙ e))
    ]
