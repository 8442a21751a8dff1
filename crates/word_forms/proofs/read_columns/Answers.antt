use Rattle.std.proofs.Common.{◌∙◌, refl, replicate, arith, ◌+◌, eq-eqb, ne_eqb, get_or}
use Rattle.std.specs.Int.Bits.{xor_zero_l}
use Rattle.gf2.specs.Fill.{fill_none, fill_more}
use Rattle.words.specs.Model.{free_before}
use Rattle.word_forms.specs.Turns.{column_of, column_value, total_part, unit_next, unit_small}
use Rattle.word_forms.proofs.read_columns.Goals as goal
use Rattle.word_forms.proofs.read_columns.Goals.{then-p-eq0, else-p-eq0}

pub loop-f-init : goal.loop-f-init
unfolding free_before
loop-f-init c = (refl, fill_none (column_of c.args.piv c.args.n) (replicate 16 0))

pub overflow_cast-a : goal.overflow_cast-a
overflow_cast-a c =
    omega (arith, unit_small c.args.n c.args.piv c.loop-f.f c.loop-f.unit (omega arith) c.requires.1 c.loop-f.invariant.0)

pub overflow_add-unit : goal.overflow_add-unit
overflow_add-unit c =
    omega (arith, unit_small c.args.n c.args.piv c.loop-f.f c.loop-f.unit (omega arith) c.requires.1 c.loop-f.invariant.0)

pub loop-f-preserved : goal.loop-f-preserved
loop-f-preserved c =
    let n = c.args.n in
    let piv = c.args.piv in
    let f = c.loop-f.f in
    let a = c.loop-f.a in
    let unit = c.loop-f.unit in
    let inv = c.loop-f.invariant in
    elim c.if-p-eq0.branch [
      | then-p-eq0 b ↦
          rw (b.unit-is, b.a-is) (
            unit_next piv f unit (unit + unit) inv.0 (rw (eq-eqb (get_or piv f 0) 0 b.if-p-eq0.true) refl),
            fill_more (column_of piv n) (replicate 16 0) f a inv.1 unit (omega arith)
                (column_value n piv a f unit unit (omega arith) inv.0 inv.1 (rw (eq-eqb (get_or piv f 0) 0 b.if-p-eq0.true) refl)),
          )
      | else-p-eq0 b ↦
          rw (b.unit-is, b.a-is) (
            unit_next piv f unit unit inv.0 (rw (ne_eqb (get_or piv f 0) 0 b.if-p-eq0.false) refl),
            fill_more (column_of piv n) (replicate 16 0) f a inv.1 b.total_from.result (omega arith)
                (column_value n piv a f unit b.total_from.result (omega arith) inv.0 inv.1
                (rw (ne_eqb (get_or piv f 0) 0 b.if-p-eq0.false)
                (b.total_from.ensures ∙ xor_zero_l _ ∙ total_part a f (get_or piv f 0) (omega (arith, inv.1.size))))),
          )
    ]
