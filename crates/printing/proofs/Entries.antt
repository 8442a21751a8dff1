-- An accepted catalogue lists entries.
use mathlib.Core.Path.{◌≡◌, refl, subst}
use mathlib.Core.Logic.{inl}
use mathlib.Core.List.{List, [], ◌∷◌}
use Prim.Native.Nat.{ℕ, zero, suc, ◌≤◌, ◌<◌}
use native.Mathlib.Nat.{not-suc-le-zero, le_of_suc-le-suc}
use native.Mathlib.Omega.{arith}
use lib.ListN.{length, get_or, replicate, length-replicate}
use Rattle.regular.specs.Refusals.{Lowest}
use Rattle.regular.specs.RefusalLaws.{none_lowest}
use Rattle.regular.specs.Accepted.{accepted_sizes}
use Rattle.regular.specs.Sizes.{Sized}
use Rattle.regular.specs.Designs.{blank}
use Rattle.regular.specs.declared.Design.{Design}
use Rattle.regular.specs.Catalogues.{catalogue_faults, ListsDesigns}
use Rattle.printed_lines.specs.Listed.{Listable}
use Rattle.printing.specs.Output.{AllListable}

-- the records that an accepted catalogue lists
module _ {n g r : ℕ} {room : ℕ → Type 0} (low : Lowest (catalogue_faults n g r room) 0) where
  bounds : Sized n g r
  bounds = accepted_sizes n g r (λ k f. none_lowest (catalogue_faults n g r room) low k (inl f))

pub all_listable : (n g r : ℕ) (d : Design) (zs : List Design) (number count : ℕ) → ListsDesigns n g r (replicate 1024 d) zs number count → number ≡ 0
    → (count ≤ 1024) × AllListable n g count zs
all_listable n g r d zs number count l e =
    let low : Lowest (catalogue_faults n g r (λ k. k ≤ length (replicate 1024 d))) 0 =
    subst (λ (k : ℕ). Lowest (catalogue_faults n g r (λ j. j ≤ length (replicate 1024 d))) k) e l.catalogues.lowest in (
      omega (arith, l.catalogues.fits e, length-replicate 1024 d),
      λ i lt. record { size = (bounds low).size; r = r; low = (bounds low).low; holds = l.records i lt },
    )

-- within a list, what stands past it plays no part
pub get_d_within : (xs : List Design) (i : ℕ) (d e : Design) → i < length xs → get_or xs i d ≡ get_or xs i e
get_d_within [] i d e h = absurd (not-suc-le-zero h)
get_d_within (x ∷ xs) zero d e h = refl
get_d_within (x ∷ xs) (suc i) d e h = get_d_within xs i d e (le_of_suc-le-suc h)

pub listed_at : (n g count i : ℕ) (list : List Design) (d : Design) → AllListable n g count list → i < count → i < length list → Listable n g (get_or list i d)
listed_at n g count i list d l h k = subst (Listable n g) (get_d_within list i blank d k) (l i h)
