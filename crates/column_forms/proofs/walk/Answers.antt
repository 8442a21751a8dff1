use Rattle.std.proofs.Common.{refl, ◌∙◌, arith, rules}
use Rattle.column_forms.specs.Walk.{walk_none, walk_old, walk_new, walk_room, walk_sums}
use Rattle.gf2.specs.DigitLaws.{pow_most}
use Rattle.column_forms.proofs.walk.Goals as goal
use Rattle.column_forms.proofs.walk.Goals.{then-p-ne0, else-p-ne0}

pub loop-f-init : goal.loop-f-init
loop-f-init c = (refl, refl, refl, walk_none _ _ _)

pub double-requires : goal.double-requires
double-requires c =
    let i = c.loop-f.invariant in (
      walk_room _ _ _ _ _ _ _ _ i.3 (omega arith) c.requires.2 (omega arith) _ c.from.ensures c.if-p-ne0.false (omega arith),
      omega (arith, c.requires.2 c.loop-f.f (omega arith), pow_most c.args.m (omega arith)),
      i.1,
      i.2,
      walk_sums _ _ _ _ _ _ _ _ i.3 c.requires.2 (omega arith),
    )

pub loop-f-preserved : goal.loop-f-preserved
loop-f-preserved c =
    let i = c.loop-f.invariant in
    elim c.if-p-ne0.branch [
      | then-p-ne0 b ↦
          rw (b.columns-is, b.sums-is, b.places-is, b.half-is)
          (search rules, i.1, i.2, walk_old _ _ _ _ _ _ _ _ i.3 (omega arith) _ c.from.ensures b.if-p-ne0.true)
      | else-p-ne0 b ↦
          let g = b.double.ensures in
          rw (b.columns-is, b.sums-is, b.places-is, b.half-is) (
            search rules,
            g.doubling.size ∙ i.1,
            g.wide ∙ i.2,
            walk_new _ _ _ _ _ _ _ _ i.3 (omega arith) c.requires.2 (omega arith) _ c.from.ensures b.if-p-ne0.false _ _ g,
          )
    ]
