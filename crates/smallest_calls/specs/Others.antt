-- The arguments beside the plan: a list of records, or a list of plans one after another and a lent list.
use Rattle.std.specs.Prelude.{ℕ, ◌≤◌, Bool, false, ◌≡◌, List, length}
use Rattle.std.proofs.Common.{subst, inl, ⊎_elim, arith}
use Rattle.std.proofs.Math.Logic.{by_cases}
use Rattle.std.proofs.Math.Decide.{dec_lt}
use Rattle.regular.specs.Sizes.{Size}
use Rattle.regular.specs.Accepted.{accepted_size}
use Rattle.regular.specs.PlanLists.{plans_faults, wanted_records_faults, wanted_plans_faults}
use Rattle.regular.specs.Refusals.{LentFault, either, Lowest}
use Rattle.regular.specs.RefusalLaws.{none_lowest, lent_is}
use Rattle.regular.specs.declared.Design.{Design}
use Rattle.plan_lists.specs.Accepted.{records_most as wanted-records-most, plans_most as wanted-plans-most}
use Rattle.plan_lists.specs.Judging.{three_plans}
use Rattle.lent.specs.Lending.{Lending, lending_lowest}

plans_most : (n g : ℕ) (bytes : List ℕ) (k : ℕ) → plans_faults n g bytes k → k ≤ 8
plans_most n g bytes k f = omega (arith, wanted-plans-most n g 3 false bytes k (inl f))

-- the number of the other arguments is 8 at most, whatever resolution is wanted of the list
lowest_most : (F : ℕ → Type 0) (most : ℕ) → ((k : ℕ) → F k → k ≤ most) → (k : ℕ) → Lowest F k → k ≤ most
lowest_most F most h k low = by_cases (dec_lt 0 k) (λ l. h k (low.applies l)) (λ l. omega arith)

pub records_number : (n g r : ℕ) (bare : Bool) (list : List Design) (k : ℕ) → Lowest (wanted_records_faults n g r bare list) k → k ≤ 8
records_number n g r bare list k low = omega (arith, lowest_most (wanted_records_faults n g r bare list) 7 (wanted-records-most n g r bare list) k low)

pub others_number : {n g r : ℕ} {bare : Bool} {list : List ℕ} {places room listed other : ℕ}
    → Lowest (wanted_plans_faults n g r bare list) listed → Lending listed places room other → other ≤ 8
others_number {n} {g} {r} {bare} {list} {listed = listed} low (Lending.passed h) =
    omega (arith, lowest_most (wanted_plans_faults n g r bare list) 7 (wanted-plans-most n g r bare list) listed low)
others_number low (Lending.short e h) = omega arith
others_number low (Lending.none e h) = omega arith

-- a list that is not refused has sizes in bounds
pub others_size : (n g r : ℕ) (bare : Bool) (list : List ℕ) (listed : ℕ) → Lowest (wanted_plans_faults n g r bare list) listed → listed ≡ 0 → Size n g
others_size n g r bare list listed low e =
    let faults = wanted_plans_faults n g r bare list in
    accepted_size n g (λ k f. none_lowest faults (subst (Lowest faults) e low) k (inl (inl f)))

-- the list judged for a resolution of 3, plans with switches being taken, then the lent list
module _ (n g : ℕ) (list : List ℕ) (places : ℕ) (out : List ℕ) where
  abbrev pub others : ℕ → Type 0
  others = either (plans_faults n g list) (LentFault places out)

  pub others_most : (k : ℕ) → others k → k ≤ 8
  others_most k e = ⊎_elim (plans_most n g list k) (λ f. omega (arith, lent_is places out k f)) e

  pub others_lowest : (listed other : ℕ) → Lowest (wanted_plans_faults n g 3 false list) listed → Lending listed places (length out) other
      → Lowest others other
  others_lowest listed other low l = lending_lowest (plans_faults n g list) listed places out other (three_plans n g list listed low) (plans_most n g list) l
