-- `admission::check_size` meets its contract: the sizes are met in the order of the numbers. Assumes nothing.
use Rattle.std.proofs.Common.{arith, inl, inr, ⊎_elim}
use Rattle.regular.specs.Refusals.{SizeFault, Lowest}
use Rattle.admission.specs.Faults.{size_1, size_2}
use Rattle.admission.proofs.check_size.Goals as goal
use Rattle.admission.proofs.check_size.Goals.{then-n-g-via-then-n-g, then-n-g-via-else-n-g+then-n-g-gt-BASICS}

pub returns-then-n-lt1 : goal.returns-then-n-lt1
returns-then-n-lt1 c = (size_1 c.args.n c.args.g (⊎_elim inl (λ h. inr h.1) c.then-n-lt1.either), (λ e. absurd (omega arith)))

pub returns-then-n-g : goal.returns-then-n-g
returns-then-n-g c =
    let a = c.args in
    let size = size_2 a.n a.g (omega arith) (omega arith) in
    let lowest : Lowest (SizeFault a.n a.g) 2 = elim c.then-n-g.branch [
      | then-n-g-via-then-n-g w ↦ size (inl w.if-n-g.true)
      | then-n-g-via-else-n-g+then-n-g-gt-BASICS w ↦ size (inr w.if-n-g-gt-BASICS.true)
    ] in
    (lowest, (λ e. absurd (omega arith)))
