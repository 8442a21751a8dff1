use Rattle.std.proofs.Common.{◌≡◌, ◌<◌, ◌+◌, ◌-◌, ℕ, ap, arith}
use Rattle.regular.specs.Book.{each}
use Rattle.regular.specs.Pattern.{of_length}
use Rattle.printed_lines.specs.Text.{next}
use Rattle.printed_lines.specs.Adding.{counts_none, adds_is, next_short, count_turn}
use Rattle.printed_lines.proofs.add_counts.Goals as goal

pub loop-l-init : goal.loop-l-init
loop-l-init c = (omega arith, omega arith, counts_none _ _ c.args.counts)

pub loop-l-preserved : goal.loop-l-preserved
loop-l-preserved c =
    let l = c.loop-l in
    let w = c.from-count in
    let h = c.add_next-end.ensures in
    let few : w.result < 100000 = omega (arith, w.ensures, c.loop-l-test.element_fits.fits) in (
      omega (arith, c.loop-l-test.true, l.auto.l),
      omega (arith, h.0.place, next_short 4 w.result few, l.invariant.1, l.auto.l),
      count_turn c.args.counts l.l l.auto.l l.invariant.2 (adds_is (ap (λ (x : ℕ). next x) w.ensures) h.0),
    )

pub returns : goal.returns
returns c =
    let l = c.loop-l in
    let all : l.l - 2 ≡ c.args.n - 2 = omega (arith, c.loop-l-test.false, l.invariant.0) in
    (adds_is (ap (each (λ (i : ℕ). next (of_length c.args.counts (3 + i)))) all) l.invariant.2, omega (arith, all, l.invariant.1))
