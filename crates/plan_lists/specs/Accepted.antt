-- A list of plans bare of switches that nothing is wrong with: its sizes are in bounds, no plan of it has a fault, and no mask switches a factor.
use Rattle.std.specs.Prelude.{ℕ, ◌≤◌, ◌<◌, Bool, true, ◌≡◌, refl, List, length, get_or}
use Rattle.std.proofs.Common.{inl, inr, arith}
use Rattle.std.proofs.Math.Logic.{by_cases}
use Rattle.std.proofs.Math.Decide.{ℕ_discrete}
use Rattle.regular.specs.Sizes.{Sized}
use Rattle.regular.specs.Designs.{blank}
use Rattle.regular.specs.Refusals.{SwitchFault, Lowest, design_faults, columns_faults, size_faults}
use Rattle.regular.specs.Accepted.{accepted_sizes}
use Rattle.regular.specs.RefusalLaws.{lowest_none, none_lowest, size_most, resolution_is, design_faults_most, columns_faults_most}
use Rattle.regular.specs.PlanBytes.{plan_start, plan_at, HasPlan, plan_count, mask_in}
use Rattle.regular.specs.PlanLists.{BytesFault, wanted_records_faults, wanted_plans_faults}
use Rattle.regular.specs.declared.Design.{Design}
use Rattle.plan_layout.specs.Places.{start_whole}
use Rattle.plan_lists.specs.Judging.{wanted_is, switch_is}

-- a mask that is not at fault
unswitched : (mask : ℕ) → (SwitchFault true mask 5 → ⊥) → mask ≡ 0
unswitched mask h = by_cases (ℕ_discrete mask 0) (λ e. e) (λ some. absurd (h (SwitchFault.some refl some)))

-- design records
pub record AcceptedRecords (n g r : ℕ) (list : List Design) : Type 0 where
  pub bounds : Sized n g r
  pub plan : (i : ℕ) → i < length list → Lowest (design_faults n g (get_or list i blank)) 0
  pub bare : (i : ℕ) → i < length list → (get_or list i blank).mask ≡ 0

pub records_accepted : (n g r : ℕ) (list : List Design) → Lowest (wanted_records_faults n g r true list) 0 → AcceptedRecords n g r list
records_accepted n g r list l = record {
  bounds = accepted_sizes n g r sizes;
  plan = λ i h. lowest_none (design_faults n g (get_or list i blank)) (λ k f. never k (inl (inr (i, (h, f)))));
  bare = λ i h. unswitched (get_or list i blank).mask (λ f. never 5 (inr (inr (i, (h, inr f)))));
}
  where
    never : (k : ℕ) → wanted_records_faults n g r true list k → ⊥
    never = none_lowest (wanted_records_faults n g r true list) l

    sizes : (k : ℕ) → size_faults n g r k → ⊥
    sizes k (inl s) = never k (inl (inl s))
    sizes k (inr f) = never k (inr (inl f))

-- plans as bytes
pub record AcceptedPlans (n g r : ℕ) (bytes : List ℕ) : Type 0 where
  pub bounds : Sized n g r
  pub whole : length bytes ≡ plan_start n (plan_count n (length bytes))
  pub plan : (i : ℕ) → HasPlan n bytes i → Lowest (columns_faults n g (plan_at n bytes i)) 0
  pub bare : (i : ℕ) → HasPlan n bytes i → mask_in n (plan_at n bytes i) ≡ 0

pub plans_accepted : (n g r : ℕ) (bytes : List ℕ) → Lowest (wanted_plans_faults n g r true bytes) 0 → AcceptedPlans n g r bytes
plans_accepted n g r bytes l = record {
  bounds = bounds;
  whole = by_cases (ℕ_discrete (length bytes) (plan_start n (plan_count n (length bytes)))) (λ e. e)
      (λ ne. absurd (never 4 (inl (inr (inl (BytesFault.count (λ count e. ne (start_whole n (length bytes) count e))))))));
  plan = λ i h. lowest_none (columns_faults n g (plan_at n bytes i)) (λ k f. never k (inl (inr (inr (i, (h, f))))));
  bare = λ i h. unswitched (mask_in n (plan_at n bytes i)) (λ f. never 5 (inr (inr (i, (h, inr f)))));
}
  where
    never : (k : ℕ) → wanted_plans_faults n g r true bytes k → ⊥
    never = none_lowest (wanted_plans_faults n g r true bytes) l

    sizes : (k : ℕ) → size_faults n g r k → ⊥
    sizes k (inl s) = never k (inl (inl s))
    sizes k (inr f) = never k (inr (inl f))

    bounds : Sized n g r
    bounds = accepted_sizes n g r sizes

-- the faults of a list of plans are below 8, the number of a lent result
pub records_most : (n g r : ℕ) (bare : Bool) (list : List Design) (k : ℕ) → wanted_records_faults n g r bare list k → k ≤ 7
records_most n g r bare list k (inl (inl s)) = omega (arith, size_most n g k s)
records_most n g r bare list k (inl (inr (i, (h, f)))) = design_faults_most n g (get_or list i blank) k f
records_most n g r bare list k (inr (inl f)) = omega (arith, resolution_is r k f)
records_most n g r bare list k (inr (inr (i, (h, inl f)))) = omega (arith, wanted_is _ _ _ k f)
records_most n g r bare list k (inr (inr (i, (h, inr f)))) = omega (arith, switch_is _ _ k f)

pub plans_most : (n g r : ℕ) (bare : Bool) (bytes : List ℕ) (k : ℕ) → wanted_plans_faults n g r bare bytes k → k ≤ 7
plans_most n g r bare bytes k (inl (inl s)) = omega (arith, size_most n g k s)
plans_most n g r bare bytes k (inl (inr (inl (BytesFault.count h)))) = omega arith
plans_most n g r bare bytes k (inl (inr (inr (i, (h, f))))) = columns_faults_most n g (plan_at n bytes i) k f
plans_most n g r bare bytes k (inr (inl f)) = omega (arith, resolution_is r k f)
plans_most n g r bare bytes k (inr (inr (i, (h, inl f)))) = omega (arith, wanted_is _ _ _ k f)
plans_most n g r bare bytes k (inr (inr (i, (h, inr f)))) = omega (arith, switch_is _ _ k f)
