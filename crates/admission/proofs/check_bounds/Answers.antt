-- `admission::check_bounds` meets its contract: the sizes are met first, then the resolution. Assumes nothing.
use Rattle.std.proofs.Common.{refl, inl, inr, ⊎_elim}
use Rattle.admission.specs.Faults.{bounds_3}
use Rattle.admission.proofs.check_bounds.Goals as goal

pub returns-then-r-lt3 : goal.returns-then-r-lt3
returns-then-r-lt3 c =
    let a = c.args in
    bounds_3 a.n a.g a.r 0 refl c.in_ok-check_size.ensures.0 (⊎_elim inl (λ h. inr h.1) c.then-r-lt3.either)
