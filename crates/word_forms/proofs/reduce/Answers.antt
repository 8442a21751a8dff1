use Rattle.std.proofs.Common.{sym, arith, ◌∙◌}
use Rattle.word_forms.specs.Turns.{smaller_turn, reduce_end}
use Rattle.word_forms.proofs.reduce.Goals as goal

pub loop-f-preserved : goal.loop-f-preserved
loop-f-preserved c =
    c.loop-f.invariant ∙ smaller_turn c.args.piv.now c.args.n c.loop-f.f c.loop-f.v _ c.requires.1 (omega arith) (omega arith) c.min-v.ensures

pub returns : goal.returns
returns c = sym (c.loop-f.invariant ∙ reduce_end c.args.piv.now c.loop-f.f c.loop-f.v (omega arith))
