-- What the calls on loads answer: the number of the sizes, the load that was drawn, and the answers from these.
use Rattle.std.specs.Prelude.{◌≡◌, ℕ, ◌-◌, ◌^◌, ◌<◌, ◌≤◌, List, ◌≢◌, slice_index, refl}
use Rattle.std.proofs.Common.{sym, ap, subst, ◌∙◌, inl, inr, arith, pow_pos}
use Rattle.regular.specs.Designs.{Holds, blank, design_of, design_holds}
use Rattle.regular.specs.Loads.{state_after, Load, CrowdedFault, load_faults, LoadsDesign, LoadsInto}
use Rattle.regular.specs.PlanBytes.{plan_bytes, mask_in}
use Rattle.regular.specs.RefusalLaws.{lowest_none, lowest_then, lowest_at, lowest_first}
use Rattle.regular.specs.Refusals.{SizeFault, Lowest}
use Rattle.regular.specs.Sizes.{Size}
use Rattle.regular.specs.Smallest.{Equal}
use Rattle.regular.specs.declared.Design.{Design}
use Rattle.lent.specs.Lends.{Lends, lends_refused, lends_means, lends_fills}
use Rattle.load_laws.specs.Swaps.{swapped_past}
use Rattle.loads.specs.Drawing.{Roomy, ColumnsDrawn, PlacesSwapped, Loaded}

-- refusals: 1 and 2, then 7
pub load_sized : (n g k : ℕ) → (k ≢ 0) → Lowest (SizeFault n g) k → Lowest (load_faults n g) k
load_sized n g k some low =
    lowest_first (SizeFault n g) (CrowdedFault n (n - g)) k (omega arith) low (λ j f. omega (arith, crowded_is j f, size_most k (low.applies (omega arith))))
  where
    crowded_is : (j : ℕ) → CrowdedFault n (n - g) j → j ≡ 7
    crowded_is j (CrowdedFault.more h) = refl

    size_most : (j : ℕ) → SizeFault n g j → j ≤ 2
    size_most j (SizeFault.factors h) = omega arith
    size_most j (SizeFault.generators h) = omega arith

-- the sizes have the number k, which is 0
module _ (n g k : ℕ) (none : k ≡ 0) (low : Lowest (SizeFault n g) k) where
  sizes : Lowest (SizeFault n g) 0
  sizes = subst (Lowest (SizeFault n g)) none low

  pub load_crowded : 2 ^ (n - g) ≤ n → Lowest (load_faults n g) 7
  load_crowded h =
      lowest_then (SizeFault n g) (CrowdedFault n (n - g)) 7 sizes
      (lowest_at (CrowdedFault n (n - g)) 7 (omega arith) (CrowdedFault.more (omega (arith, pow_pos (n - g)))) least)
    where
      least : (j : ℕ) → CrowdedFault n (n - g) j → 7 ≤ j
      least j (CrowdedFault.more l) = omega arith

  pub load_taken : n < 2 ^ (n - g) → Lowest (load_faults n g) 0
  load_taken h = lowest_then (SizeFault n g) (CrowdedFault n (n - g)) 0 sizes (lowest_none (CrowdedFault n (n - g)) never)
    where
      never : (j : ℕ) → CrowdedFault n (n - g) j → ⊥
      never j (CrowdedFault.more l) = omega arith

pub sized_roomy : (n g : ℕ) → Size n g → n < 2 ^ (n - g) → Roomy n (n - g)
sized_roomy n g z h = record { some = omega (arith, z.less); few = z.few; within = omega arith; most = z.most; room = h }

-- the load, from the columns drawn and the places swapped
pub load_drawn : (n g seed : ℕ) (b c : List ℕ) (between state : ℕ) → Roomy n (n - g) → ColumnsDrawn n (n - g) seed b between
    → PlacesSwapped n between b state c → Loaded n g seed c state
load_drawn n g seed b c between state z d s =
    let swaps = s seed g (d.after ∙ ap (state_after seed) (generators n g z.some)) in
    record {
      load = record { before = b; unswapped = d.unswapped; swaps = λ f h. ap (λ (x : List ℕ). slice_index x f) swaps.0 };
      unused = λ f h. ap (λ (x : List ℕ). slice_index x f) swaps.0 ∙ swapped_past n seed (n - 1) g b (omega (arith, z.some)) f h ∙ d.unused f h;
      after = swaps.1;
    }
  where
    generators : (n g : ℕ) → 1 ≤ n - g → n - (n - g) ≡ g
    generators n g h = omega arith

load_most : (n g k : ℕ) → load_faults n g k → k ≤ 7
load_most n g k (inl (SizeFault.factors h)) = omega arith
load_most n g k (inl (SizeFault.generators h)) = omega arith
load_most n g k (inr (CrowdedFault.more h)) = omega arith

-- the load's bytes, without switches
abbrev Bytes : ℕ → ℕ → ℕ → List ℕ → Type 0
Bytes n g seed zs = Load n g seed zs × (mask_in n zs ≡ 0)

module _ (n g seed number : ℕ) (low : Lowest (load_faults n g) number) where
  -- refused by the sizes
  module _ (some : number ≡ 0 → ⊥) where
    pub design_refused : (d : Design) → d ≡ blank → LoadsDesign n g seed (record { number = number; state = seed; design = d })
    design_refused d e = record { lowest = low; refused = λ _. (e, refl); design = λ z. absurd (some z); state = λ z. absurd (some z) }

    pub into_refused : (out : List ℕ) → LoadsInto n g seed out out (record { number = number; state = seed })
    into_refused out = record {
      plan = lends_fills (load_faults n g) number (plan_bytes n) (Bytes n g seed) out out number (load_most n g) low
          (lends_refused number (plan_bytes n) (Bytes n g seed) out some);
      refused = λ _. refl;
      state = λ z. absurd (some z);
    }

  -- taken by the sizes
  module _ (none : number ≡ 0) (c : List ℕ) (after : ℕ) (l : Loaded n g seed c after) where
    pub design_loaded : (d : Design) → d ≡ design_of n (n - g) c → LoadsDesign n g seed (record { number = number; state = after; design = d })
    design_loaded d e = record {
      lowest = low;
      refused = λ h. absurd (omega arith);
      design = λ _. subst (Holds n (n - g) (Load n g seed)) (sym e) (design_holds n (n - g) (Load n g seed) c l.load l.unused);
      state = λ _. l.after;
    }

    module _ (out exit : List ℕ) (r : ℕ) (lent : Lends 0 (plan_bytes n) (λ zs. Equal n zs c × (mask_in n zs ≡ 0)) out exit r) where
      filled : Lends 0 (plan_bytes n) (Bytes n g seed) out exit r
      filled =
          lends_means 0 (plan_bytes n) (λ zs. Equal n zs c × (mask_in n zs ≡ 0)) (Bytes n g seed) out exit r
          (λ _ k. (record { before = l.load.before; unswapped = l.load.unswapped; swaps = λ f h. k.0 f h ∙ l.load.swaps f h }, k.1)) lent

      pub into_lent : (state : ℕ) → (0 < r → state ≡ seed) → (r ≡ 0 → state ≡ after) → LoadsInto n g seed out exit (record { number = r; state = state })
      into_lent state refused taken = record {
        plan = lends_fills (load_faults n g) 0 (plan_bytes n) (Bytes n g seed) out exit r (load_most n g) (subst (Lowest (load_faults n g)) none low) filled;
        refused = refused;
        state = λ z. taken z ∙ l.after;
      }
