-- An accepted call's list meets demand 3 whole; so the entries are those of the catalogue, and of no other list.
use Rattle.std.specs.Prelude.{◌≡◌, List, ℕ, ◌-◌, ◌≤◌}
use Rattle.std.proofs.Common.{subst, inl}
use Rattle.regular.specs.Accepted.{accepted_sizes}
use Rattle.regular.specs.Refusals.{Lowest}
use Rattle.regular.specs.RefusalLaws.{none_lowest}
use Rattle.regular.specs.Catalogues.{catalogue_faults, Catalogues}
use Rattle.catalogue_laws.specs.Demand.{Whole, whole}

pub accepted_whole : (n g r : ℕ) (room : ℕ → Type 0) (entry : ℕ → List ℕ) (number count : ℕ) → Catalogues n g r room entry number count → number ≡ 0
    → Whole n (n - g) r count entry
accepted_whole n g r room entry number count c e = whole n (n - g) r count entry low (c.whole e)
  where
    low : 3 ≤ r
    low =
        (accepted_sizes n g r (λ k f.
        none_lowest (catalogue_faults n g r room) (subst (λ (k : ℕ). Lowest (catalogue_faults n g r room) k) e c.lowest) k (inl f))).low
