use Rattle.std.proofs.Common.{◌<◌, arith, rules, get_or}
use Rattle.std.specs.Int.Bits.{xor_lt}
use Rattle.column_forms.specs.TableLaws.{grown_more}
use Rattle.column_forms.proofs.double.Goals as goal

pub bounds-places-z : goal.bounds-places-z
bounds-places-z c =
    let k = c.loop-k.k in
    let l : k < c.args.half = omega arith in
    let p = c.requires.4 k l in
    omega (
      arith,
      xor_lt 7 (get_or c.loop-k.sums k 0) c.args.c (omega (arith, c.loop-k.invariant.2.doubling.low k l)) (omega arith),
      c.from-z.ensures,
    )

pub loop-k-preserved : goal.loop-k-preserved
loop-k-preserved c =
    let i = c.loop-k.invariant in
    let b : c.from-z.result < 128 = bounds-places-z c in
    (search rules, search rules, grown_more _ _ _ _ _ _ _ _ (omega arith) (omega arith) c.from-z.ensures (omega arith) i.2)
