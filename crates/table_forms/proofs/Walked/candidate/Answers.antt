use Rattle.std.proofs.Common.{◌≡◌, ◌∙◌, ℕ, ◌*◌, ◌%◌, ◌^◌, ◌<◌, arith, shl_exact, get_or}
use Rattle.gf2.specs.DigitLaws.{pow_half, pow_twice}
use Rattle.table_forms.specs.Turns.{read_below, read_more}
use Rattle.table_forms.proofs.Walked.candidate.Goals as goal

half_is : (i : ℕ) → i < 16 → 1 * 2 ^ i % 65536 ≡ 2 ^ i
half_is i h = shl_exact 1 i 16 (omega arith) (omega arith) ∙ omega arith

pub bounds-self-from : goal.bounds-self-from
bounds-self-from c =
    let i = c.loop-i.i in
    omega (arith, c.from.ensures, half_is i (omega arith), pow_half i 7 (omega arith) (omega arith))

pub loop-i-preserved : goal.loop-i-preserved
loop-i-preserved c =
    let i = c.loop-i.i in
    let k = c.loop-i.k in
    let d = c.level.result in
    let half = 1 * 2 ^ i % 65536 in
    let e : half ≡ 2 ^ i = half_is i (omega arith) in
    let small : k < half = omega arith in
    let x = get_or c.args.self.now.place c.from.result 0 in (
      omega (arith, c.with_level-k.ensures, read_below half d k c.level.ensures.1 small, pow_twice i half e),
      rw c.with_level-k.ensures
          (read_more c.args.t.now c.args.self.now.coords c.args.f i half d k x e small (c.requires.3 c.from.result) c.if-self-x.false
          c.level.ensures.0 c.loop-i.invariant.1),
    )
