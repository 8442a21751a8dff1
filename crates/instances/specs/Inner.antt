-- What inner functions require of plans and lists of plans is met: by ABC and ABCD, N 4, G 1. Requirements that are bounds of numbers and lengths alone
-- are left out.
use Rattle.std.specs.Prelude.{refl, true, [], ◌∷◌, get_or}
use Rattle.std.proofs.Common.{arith}
use Rattle.words.specs.Standards.{form_cols}
use Rattle.smallest_laws.specs.UnitForms.{rising_distinct}
use Rattle.admission.specs.Admission.{Ready, Prepared}
use Rattle.plan_lists.specs.Accepted.{AcceptedPlans, AcceptedRecords, plans_accepted, records_accepted}
use Rattle.witness_check.specs.Names.{AllNamed}
use Rattle.regular.specs.Accepted.{sizes_accepted}
use Rattle.regular.specs.Refusals.{Lowest, size_faults}
use Rattle.regular.specs.RefusalLaws.{lowest_none}
use Rattle.regular.specs.PlanLists.{plans_faults, wanted_plans_faults, wanted_records_faults}
use Rattle.whiteboard.specs.ListInstances.{plans_wanted, records_wanted, two_records}
use Rattle.whiteboard.specs.PlanInstances.{record_abc, witness_disguised, size_4, sized_4, holds_abc, standard_form_abc}
use Rattle.whiteboard.specs.ResultInstances.{plans, plans_none}
use Rattle.whiteboard.specs.Samples.{abc}
use Rattle.whiteboard.specs.Tests.{below, agree_at}

-- an admitted plan: measures, aberration, comparison, book
pub ready_abc : Ready 4 1 record_abc.columns
unfolding below
ready_abc = record {
  size = size_4;
  form = form_cols 4 3 abc record_abc.columns standard_form_abc.form (agree_at (λ f. get_or abc f 0) (λ f. get_or record_abc.columns f 0) 4 refl);
  distinct = rising_distinct 4 3 record_abc.columns holds_abc.columns.smallest.columns;
}

-- .. with its start, C switched: comparison, smallest form
pub prepared_abc : Prepared 4 1 (record { number = 0; run = 4; columns = record_abc.columns })
prepared_abc = record { most = omega arith; columns = λ _. ready_abc; within = λ _. omega arith }

-- plans that nothing is wrong with: the book's loops
pub accepted_plans : AcceptedPlans 4 1 3 plans
accepted_plans = plans_accepted 4 1 3 plans (lowest_none (wanted_plans_faults 4 1 3 true plans) (plans_wanted true))

pub accepted_records : AcceptedRecords 4 1 3 two_records
accepted_records = records_accepted 4 1 3 two_records (lowest_none (wanted_records_faults 4 1 3 true two_records) (records_wanted true))

-- sizes, and plans one after another, that nothing is wrong with: the tests of several plans, and their smallest forms
pub accepted_size : Lowest (size_faults 4 1 3) 0
accepted_size = sizes_accepted 4 1 3 sized_4

pub accepted_list : Lowest (plans_faults 4 1 plans) 0
accepted_list = lowest_none (plans_faults 4 1 plans) plans_none

-- names of a claimed witness
pub named_bcda : AllNamed 4 (1 ∷ 2 ∷ 3 ∷ 0 ∷ [])
named_bcda = record { count = refl; renaming = witness_disguised.carries.renaming }
