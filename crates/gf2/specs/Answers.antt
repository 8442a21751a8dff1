-- A Boolean answer: what it says if it is yes, and what if it is no.
use Rattle.std.specs.Prelude.{◌≡◌, Bool, true, false}
use Rattle.std.proofs.Common.{true≢false}
use Rattle.std.proofs.lemmas.Bool.{false≢true}

-- yes says P, no says Q
abbrev pub Tells : Bool → Type 0 → Type 0 → Type 0
Tells r P Q = (r ≡ true → P) × (r ≡ false → Q)

pub tells_yes : (P Q : Type 0) → P → Tells true P Q
tells_yes P Q p = ((λ _. p), (λ e. absurd (true≢false e)))

pub tells_no : (P Q : Type 0) → Q → Tells false P Q
tells_no P Q q = ((λ e. absurd (false≢true e)), (λ _. q))
