-- Masks by kind, on the columns 1 and 2: column 1 is of the first kind and column 2 of the second, and the unit 1 may have column 1 only as its image.
-- The masks are fair. Exchanging the columns is an automorphism, and not one within the masks.
use Rattle.std.specs.Prelude.{◌≡◌, refl, List, ◌∷◌, ℕ, zero, suc, ◌≤◌, ◌<◌, get_or, replicate}
use Rattle.std.proofs.Common.{ap, arith}
use Rattle.isomorphism_laws.specs.Link.{Units}
use Rattle.regular.specs.Columns.{Below}
use Rattle.column_tables.specs.FactorSets.{On}
use Rattle.search.specs.Search.{Pick, Picks}
use Rattle.smallest_test_laws.specs.FairMasks.{Automorphism, FairMasks, all_factors_lem}
use Rattle.smallest_test_laws.specs.KindMasks.{Kinds, KindMasks, kinds_fair}
use Rattle.instances.specs.Searching.{one_on}
use Rattle.instances.specs.Walking.{first}
use Rattle.instances.specs.Finding.{pair}

-- the set of factor 0 for the unit 1, all factors for the others
abbrev pub kind_masks : List ℕ
kind_masks = 1 ∷ replicate 7 65535

pub kinds_2 : Kinds 1 1 2 pair
kinds_2 = record { first = λ f l. first (λ i. get_or pair i 0 < 2) (omega arith) f; second = second }
  where
    second : (f : ℕ) → f < 2 → 1 ≤ f → 2 ≤ get_or pair f 0
    second zero l h = absurd (omega arith)
    second (suc zero) l h = omega arith
    second (suc (suc f)) l h = absurd (omega arith)

pub kind_masks_2 : KindMasks 1 1 2 2 kind_masks
kind_masks_2 = record { first = one; only = only; others = others }
  where
    one : (d i : ℕ) → d < 1 → i < 1 → On i (get_or kind_masks d 0)
    one zero zero l h = refl
    one zero (suc i) l h = absurd (omega arith)
    one (suc d) i l h = absurd (omega arith)

    only : (d i : ℕ) → d < 1 → i < 2 → On i (get_or kind_masks d 0) → i < 1
    only zero i l h o = omega (arith, one_on i o)
    only (suc d) i l h o = absurd (omega arith)

    others : (d i : ℕ) → 1 ≤ d → d < 2 → i < 2 → On i (get_or kind_masks d 0)
    others zero i h l k = absurd (omega arith)
    others (suc zero) i h l k = all_factors_lem 2 2 (omega arith) (omega arith) 1 i (omega arith) k
    others (suc (suc d)) i h l k = absurd (omega arith)

below_2 : Below 2 2 pair
below_2 zero l = omega arith
below_2 (suc zero) l = omega arith
below_2 (suc (suc f)) l = absurd (omega arith)

units_2 : Units 2 2 pair
units_2 zero l = (0, (omega arith, refl))
units_2 (suc zero) l = (1, (omega arith, refl))
units_2 (suc (suc d)) l = absurd (omega arith)

pub fair_2 : FairMasks kind_masks 2 2 pair
fair_2 = kinds_fair 1 1 2 2 pair kind_masks (omega arith) kinds_2 kind_masks_2 below_2 units_2

pub not_within : Automorphism kind_masks 2 2 pair pair → ⊥
unfolding Picks Pick
not_within w =
    let o = w.picks.1.0 in
    let z : o.0 ≡ 0 = one_on o.0 o.3 in
    omega (arith, ap (λ (f : ℕ). get_or pair f 0) z, o.2)
