use Rattle.std.proofs.Common.{sym, ap, ◌∙◌, arith}
use Rattle.std.specs.Int.Bits.{bit_xor}
use Rattle.column_forms.specs.MaskWalk.{mask_none, mask_stay, mask_next, xor_none_of, xor_one_of}
use Rattle.column_forms.proofs.mask_of.Goals as goal
use Rattle.column_forms.proofs.mask_of.Goals.{then-from-unit, then-level-eq1, else-level-eq1, else-from-unit}

pub loop-f-init : goal.loop-f-init
loop-f-init c = mask_none _ _ _

pub loop-f-preserved : goal.loop-f-preserved
loop-f-preserved c =
    let l = c.loop-f in
    elim c.if-from-unit.branch [
      | then-from-unit b ↦
          rw (b.mask-is, b.unit-is, b.d-is)
          (mask_next _ _ _ _ _ _ _ l.invariant _ c.from.ensures (omega arith) b.if-from-unit.true _ (elim b.if-level-eq1.branch [
            | then-level-eq1 t ↦
                t.mask-is ∙ ap (bit_xor l.mask) t.unit_run-mask.ensures ∙ sym (xor_one_of l.mask _ _ (omega arith) (λ e. omega arith))
            | else-level-eq1 t ↦ t.mask-is ∙ sym (xor_none_of l.mask _ _ (omega arith))
          ]))
      | else-from-unit b ↦
          rw (b.mask-is, b.unit-is, b.d-is) (mask_stay _ _ _ _ _ _ _ l.invariant _ c.from.ensures b.if-from-unit.false)
    ]
