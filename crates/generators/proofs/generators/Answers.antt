use Rattle.std.proofs.Common.{◌∙◌, refl, sym, ap, ap₂, arith, ◌-◌}
use Rattle.std.specs.Int.Bits.{bit_xor}
use Rattle.regular.specs.Words.{total}
use Rattle.word_forms.specs.Turns.{total_part}
use Rattle.generators.specs.Walk.{walked_none, walked_basic, walked_word}
use Rattle.generators.proofs.generators.Goals as goal
use Rattle.generators.proofs.generators.Goals.{then-c-unit, else-c-unit}

pub loop-f-init : goal.loop-f-init
loop-f-init c = walked_none c.args.columns

pub loop-f-preserved : goal.loop-f-preserved
loop-f-preserved c =
    let a = c.args.columns in
    let l = c.loop-f in
    let is = c.from-c.ensures in
    elim c.if-c-unit.branch [
      | then-c-unit b ↦
          rw (b.words-is, b.basics-is, b.unit-is, b.m-is)
          (walked_basic a l.f l.m l.unit l.basics l.words (omega arith) l.invariant b.letter.result (sym is ∙ b.if-c-unit.true) b.letter.ensures)
      | else-c-unit b ↦
          rw (b.words-is, b.basics-is, b.unit-is, b.m-is)
          (walked_word a l.f l.m l.unit l.basics l.words (omega arith) l.invariant (l.f - l.m) _ (λ e. b.if-c-unit.false (is ∙ e)) refl
          (b.total_from.ensures
          ∙ ap₂ bit_xor b.letter-else-c-unit.ensures (total_part l.basics l.m c.from-c.result (omega arith) ∙ ap (total l.basics l.m) is)))
    ]
