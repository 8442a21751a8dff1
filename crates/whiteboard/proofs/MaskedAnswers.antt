-- Answers for switched plans, which rest on the signed samples.
use Rattle.std.specs.Prelude.{ℕ, ◌≤◌, ◌≡◌, refl, true, false, replicate}
use Rattle.std.proofs.Common.{subst, ⊎_elim, inr, arith}
use Rattle.std.proofs.Math.Logic.{by_cases}
use Rattle.std.proofs.Math.Decide.{ℕ_discrete}
use Rattle.regular.specs.Book.{CountFault, WritesPlans}
use Rattle.regular.specs.Columns.{plan_of, Allowed}
use Rattle.regular.specs.Comparisons.{Compares}
use Rattle.regular.specs.Given.{of_columns}
use Rattle.regular.specs.PlanBytes.{plan_at, HasPlan, mask_in}
use Rattle.regular.specs.PlanLists.{BytesFault, plans_faults, wanted_plans_faults}
use Rattle.regular.specs.Refusals.{LentFault, WantedFault, SwitchFault, either, columns_faults, Lowest}
use Rattle.regular.specs.RefusalLaws.{lowest_none, lowest_at, none_lowest, lowest_then, lowest_first, lent_fits, lent_is}
use Rattle.regular.specs.SmallestAnswers.{FirstPlace, ReducesInto}
use Rattle.regular.specs.Answers.{Compared}
use Rattle.words.specs.Switches.{agree_refl}
use Rattle.isomorphism_laws.specs.SamePlan.{carries_agree}
use Rattle.whiteboard.specs.AnswerInstances.{five}
use Rattle.whiteboard.specs.FormInstances.{standard_like, columns_allowed}
use Rattle.whiteboard.specs.ListInstances.{wanted_none}
use Rattle.whiteboard.specs.MaskInstances.{fault_switch, no_switch_fault}
use Rattle.whiteboard.specs.PlanInstances.{size_4, bytes_plan}
use Rattle.whiteboard.specs.RefusalInstances.{size_none, accepted_columns, bytes_accepted}
use Rattle.whiteboard.specs.ResultInstances.{own_formed, seven, filled, equal_filled}
use Rattle.whiteboard.specs.Samples.{abc, plan_abc}
use Rattle.whiteboard.proofs.Samples.{signed_samples}
use Rattle.whiteboard.specs.Tests.{below}
use Rattle.whiteboard.specs.MaskedAnswers.{switched_abc, equal_switched, entry_switched, switched_names, named}
use Rattle.whiteboard.specs.MaskedAnswers.{equal_plan, both_abc, equal_filled_switched, only_plan, long_switched}

pub allowed_switched : Allowed 4 (plan_of 4 3 switched_abc) 4
allowed_switched =
    let s = signed_samples.1.0.columns in columns_allowed 4 3 _ switched_abc 4 (standard_like 4 3 _ abc switched_abc 4 equal_switched s)

pub accepted_switched : Lowest (columns_faults 4 1 switched_abc) 0
accepted_switched =
    bytes_accepted 4 1 switched_abc size_4 refl entry_switched.smallest.columns.below entry_switched.smallest.columns.rank entry_switched.long
    allowed_switched

pub compares_switched : Compares 4 (of_columns 4 1 switched_abc) (of_columns 4 1 plan_abc) five switched_names (Compared.Same 4)
compares_switched =
    let s = (of_columns 4 1 switched_abc).plan in
    Compares.same 4
    (lowest_then (either (columns_faults 4 1 switched_abc) (columns_faults 4 1 plan_abc)) (LentFault 4 five) 0
    (lowest_then (columns_faults 4 1 switched_abc) (columns_faults 4 1 plan_abc) 0 accepted_switched accepted_columns) (lent_fits 4 five (omega arith)))
    (carries_agree 4 s s (plan_of 4 3 plan_abc) (of_columns 4 1 plan_abc).plan switched_names 4 (agree_refl s)
    (bytes_plan 4 3 plan_abc plan_abc (λ f h. refl) refl)
    (own_formed switched_abc plan_abc switched_names entry_switched equal_plan named (omega arith)).witness)
    (λ from to. absurd (omega (arith, from))) refl refl

both_none : (k : ℕ) → plans_faults 4 1 both_abc k → ⊥
both_none k f =
    ⊎_elim (size_none 4 1 size_4 k) (⊎_elim (bytes k) (λ q. at q.0 q.1.0 q.1.1)) f
  where
    bytes : (k : ℕ) → BytesFault 4 both_abc k → ⊥
    bytes k (BytesFault.count h) = h 2 refl

    at : (i : ℕ) → HasPlan 4 both_abc i → columns_faults 4 1 (plan_at 4 both_abc i) k → ⊥
    at i h f =
        by_cases (ℕ_discrete i 0)
        (λ e. none_lowest (columns_faults 4 1 switched_abc) accepted_switched k (subst (λ (j : ℕ). columns_faults 4 1 (plan_at 4 both_abc j) k) e f))
        (λ ne. let e : i ≡ 1 = omega arith in
        none_lowest (columns_faults 4 1 plan_abc) accepted_columns k (subst (λ (j : ℕ). columns_faults 4 1 (plan_at 4 both_abc j) k) e f))

pub reduces_switched : ReducesInto 4 1 (of_columns 4 1 switched_abc) both_abc seven filled five switched_names (record { number = 0; mask = 4; place = 2 })
reduces_switched = record {
  lowest = lowest_then (either (columns_faults 4 1 switched_abc) (either (plans_faults 4 1 both_abc) (LentFault 6 seven))) (LentFault 4 five) 0
      (lowest_then (columns_faults 4 1 switched_abc) (either (plans_faults 4 1 both_abc) (LentFault 6 seven)) 0 accepted_switched
      (lowest_then (plans_faults 4 1 both_abc) (LentFault 6 seven) 0 (lowest_none (plans_faults 4 1 both_abc) both_none) (lent_fits 6 seven (omega arith))))
      (lent_fits 4 five (omega arith));
  no_mask = λ h. absurd (omega arith);
  no_place = λ h. absurd (omega arith);
  untouched = λ h. absurd (omega arith);
  form = λ e. own_formed switched_abc filled switched_names entry_switched equal_filled_switched named (omega arith);
  unswitched = λ e. refl;
  found = λ e. FirstPlace.found 1 (omega arith) (equal_filled, refl) (λ j l q. let z : j ≡ 0 = omega arith in
      omega (arith, subst (λ (i : ℕ). mask_in 4 (plan_at 4 both_abc i) ≡ 0) z q.1));
  past = λ e. (refl, refl);
  size = (refl, refl);
}

one_none : (k : ℕ) → plans_faults 4 1 switched_abc k → ⊥
one_none k f =
    ⊎_elim (size_none 4 1 size_4 k)
    (⊎_elim (bytes k)
    (λ q. only_plan (λ c. columns_faults 4 1 c k → ⊥) (none_lowest (columns_faults 4 1 switched_abc) accepted_switched k) q.0 q.1.0 q.1.1)) f
  where
    bytes : (k : ℕ) → BytesFault 4 switched_abc k → ⊥
    bytes k (BytesFault.count h) = h 1 refl

pub wanted_switched : Lowest (wanted_plans_faults 4 1 3 false switched_abc) 0
wanted_switched =
    lowest_none (wanted_plans_faults 4 1 3 false switched_abc) (λ k f. ⊎_elim (one_none k) (⊎_elim (wanted_none k)
    (λ q. only_plan (λ c. either (WantedFault 4 3 (of_columns 4 1 c).plan) (SwitchFault false (mask_in 4 c)) k → ⊥)
    (⊎_elim (long_switched k) (no_switch_fault k)) q.0 q.1.0 q.1.1)) f)

pub refusal_switched : Lowest (wanted_plans_faults 4 1 3 true switched_abc) 5
refusal_switched =
    lowest_at (wanted_plans_faults 4 1 3 true switched_abc) 5 (omega arith) (inr (inr (0, (omega arith, inr fault_switch))))
    (λ k f. ⊎_elim (λ p. absurd (one_none k p)) (⊎_elim (λ p. absurd (wanted_none k p))
    (λ q. only_plan (λ c. either (WantedFault 4 3 (of_columns 4 1 c).plan) (SwitchFault true (mask_in 4 c)) k → 5 ≤ k)
    (⊎_elim (λ p. absurd (long_switched k p)) (five_at k)) q.0 q.1.0 q.1.1)) f)
  where
    five_at : (k : ℕ) → SwitchFault true 4 k → 5 ≤ k
    five_at k (SwitchFault.some e h) = omega arith

pub writes_switched : WritesPlans 4 1 3 switched_abc (replicate 16 9) (replicate 16 9) 5 0
writes_switched = record {
  lowest = lowest_first (either (wanted_plans_faults 4 1 3 true switched_abc) (CountFault 1)) (LentFault 16 (replicate 16 9)) 5 (omega arith)
      (lowest_first (wanted_plans_faults 4 1 3 true switched_abc) (CountFault 1) 5 (omega arith) refusal_switched counted)
      (λ k f. omega (arith, lent_is 16 (replicate 16 9) k f));
  refused = λ h. (refl, refl);
  whole = λ e. absurd (omega arith);
  book = λ e. absurd (omega arith);
  rest = refl;
  size = refl;
}
  where
    counted : (k : ℕ) → CountFault 1 k → 5 ≤ k
    counted k (CountFault.many h) = absurd (omega arith)
