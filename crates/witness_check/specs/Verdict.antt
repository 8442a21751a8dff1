-- The verdict on a claimed witness between two admitted run tables: yes if the names, the mask and the partners are right, no if one is not.
use Rattle.std.specs.Prelude.{◌≡◌, refl, Bool, true, false, Result, Ok, Err, List, ℕ, ◌^◌, ◌≤◌, ◌<◌}
use Rattle.std.proofs.Common.{subst, inl, arith}
use Rattle.std.proofs.Math.Logic.{by_cases}
use Rattle.std.proofs.Math.Decide.{ℕ_discrete}
use Rattle.regular.specs.Refusals.{runs_faults, Lowest, either}
use Rattle.regular.specs.RefusalLaws.{none_lowest, Lower, lowest_lower, lower_none}
use Rattle.regular.specs.Accepted.{accepted_size, accepted_table}
use Rattle.regular.specs.Runs.{runs_of}
use Rattle.regular.specs.Given.{Given, of_runs}
use Rattle.regular.specs.Comparisons.{Witness, Checks, ChecksWitness}
use Rattle.regular.specs.Answers.{Checked, checked_of, admitted_of, refusal_of}
use Rattle.regular.specs.declared.AcceptedPlan.{AcceptedPlan}
use Rattle.regular.specs.declared.Refusal.{Refusal}
use Rattle.gf2.specs.Answers.{Tells}
use Rattle.admission.specs.Admission.{Admission}
use Rattle.witness_check.specs.Names.{AllNamed}
use Rattle.witness_check.specs.Partners.{Partnered, NoPartner, partners_carry}

-- a witness has n names, no mask bit past factor n, and leaves no run without a partner
module _ (n : ℕ) (t u p : List ℕ) (mask : ℕ) where
  pub not_named : (AllNamed n p → ⊥) → Witness n (runs_of t) (runs_of u) p mask → ⊥
  not_named h w = h (record { count = w.count; renaming = w.carries.renaming })

  pub not_within : 2 ^ n ≤ mask → Witness n (runs_of t) (runs_of u) p mask → ⊥
  not_within h w = omega (arith, w.carries.within)

  pub not_partnered : NoPartner n t u p mask → Witness n (runs_of t) (runs_of u) p mask → ⊥
  not_partnered o w = o.none (w.carries.into o.run o.is)

-- x and y are the numbers of the two tables, r the lower of them
module _ (n g : ℕ) (t u p : List ℕ) (mask x y r : ℕ) (a : Lowest (runs_faults n g t) x) (b : Lowest (runs_faults n g u) y) (l : Lower x y r) where
  low : Lowest (either (runs_faults n g t) (runs_faults n g u)) r
  low = lowest_lower (runs_faults n g t) (runs_faults n g u) x y r a b l

  first : r ≡ 0 → Lowest (runs_faults n g t) 0
  first e = subst (λ (k : ℕ). Lowest (runs_faults n g t) k) (lower_none x y r l e).0 a

  second : r ≡ 0 → Lowest (runs_faults n g u) 0
  second e = subst (λ (k : ℕ). Lowest (runs_faults n g u) k) (lower_none x y r l e).1 b

  none : r ≡ 0 → Lowest (either (runs_faults n g t) (runs_faults n g u)) 0
  none e = subst (λ (k : ℕ). Lowest (either (runs_faults n g t) (runs_faults n g u)) k) e low

  -- sizes in bounds
  pub check_size : r ≡ 0 → n ≤ 16
  check_size e = (accepted_size n g (λ k f. none_lowest (runs_faults n g t) (first e) k (inl f))).most

  pub check_refused : (r ≡ 0 → ⊥) → ChecksWitness n (of_runs n g t) (of_runs n g u) p mask (Checked.Refused r)
  check_refused h = Checks.refused r (by_cases (ℕ_discrete r 0) (λ e. absurd (h e)) (λ ne. omega arith)) low

  pub check_no : r ≡ 0 → (Witness n (runs_of t) (runs_of u) p mask → ⊥) → ChecksWitness n (of_runs n g t) (of_runs n g u) p mask Checked.No
  check_no e h = Checks.no (none e) h

  pub check_yes : r ≡ 0 → AllNamed n p → mask < 2 ^ n → Partnered n t u p mask → ChecksWitness n (of_runs n g t) (of_runs n g u) p mask Checked.Yes
  check_yes e w h into =
      Checks.yes (none e)
      (record {
        count = w.count;
        carries = partners_carry n t u p mask w.renaming (accepted_table n g t (first e)).different (accepted_table n g t (first e)).within h
            (omega (arith, (accepted_table n g t (first e)).count, (accepted_table n g u (second e)).count)) into;
      })

  -- by the partners, the names and the mask being right
  pub check_told : (answer : Bool) → r ≡ 0 → AllNamed n p → mask < 2 ^ n → Tells answer (Partnered n t u p mask) (NoPartner n t u p mask)
      → ChecksWitness n (of_runs n g t) (of_runs n g u) p mask (checked_of (Ok answer))
  check_told true e w h tells = check_yes e w h (tells.0 refl)
  check_told false e w h tells = check_no e (not_partnered n t u p mask (tells.1 refl))

-- the number of an admitted plan
pub admission_lowest : {n g : ℕ} {p : Given} (r : Result AcceptedPlan Refusal) → Admission n g p (admitted_of r) → Lowest p.faults (refusal_of r)
admission_lowest (Ok x) ad = ad.lowest
admission_lowest (Err e) ad = ad.lowest
