-- Instances of what calls write: the smallest form with its witness and place, and several plans in one list; accepted and refused.
use Rattle.std.specs.Prelude.{◌≡◌, refl, List, [], ◌∷◌, ◌++◌, ℕ, ◌<◌, length, get_or, replicate}
use Rattle.std.proofs.Common.{sym, ap, subst, ◌∙◌, ⊎_elim, arith}
use Rattle.std.proofs.Math.Logic.{by_cases}
use Rattle.std.proofs.Math.Decide.{ℕ_discrete}
use Rattle.std.specs.Int.Bits.{bit_xor}
use Rattle.std.proofs.lemmas.Nat.{xor_lt}
use Rattle.std.specs.Int.Count.{ones, ones_in}
use Rattle.standard.specs.Runs.{plan_cols}
use Rattle.gf2.specs.DigitLaws.{xor_back}
use Rattle.gf2.specs.Digits.{odd}
use Rattle.gf2.specs.Lists.{list_to}
use Rattle.regular.specs.Columns.{plan_of, plan_with, run_of}
use Rattle.regular.specs.Designs.{blank, holds_also}
use Rattle.regular.specs.PlanBytes.{plan_bytes, plan_start, plan_at, HasPlan, plan_count, mask_in}
use Rattle.regular.specs.PlanLists.{BytesFault, records_faults, plans_faults}
use Rattle.regular.specs.RefusalLaws.{lowest_none, none_lowest, lowest_then, lowest_first, lent_is, lent_fits, lent_short}
use Rattle.regular.specs.Refusals.{LentFault, either, runs_faults, columns_faults, Lowest}
use Rattle.regular.specs.Runs.{runs_of}
use Rattle.regular.specs.Same.{moved, Carries, Within}
use Rattle.regular.specs.Smallest.{Equal, Smallest, Entry}
use Rattle.regular.specs.SmallestAnswers.{FirstPlace, DesignPlace, ColumnsPlace, Formed, ReducesAmong, ReducesInto, ReducesEach}
use Rattle.regular.specs.Given.{of_columns, of_runs}
use Rattle.regular.specs.declared.Design.{Design}
use Rattle.isomorphism_laws.specs.Moving.{carries_names, moved_names}
use Rattle.isomorphism_laws.specs.SamePlan.{carries_agree}
use Rattle.isomorphism_laws.specs.Masks.{plan_within}
use Rattle.isomorphism_laws.specs.Renamings.{kept, moved_kept}
use Rattle.smallest_laws.specs.Beating.{smallest_moved}
use Rattle.smallest_laws.specs.Growth.{smallest_equal}
use Rattle.catalogue_laws.specs.Demand.{plan_runs}
use Rattle.words.specs.Switches.{agree_sym, agree_refl, switched_twice}
use Rattle.whiteboard.specs.AnswerInstances.{five}
use Rattle.whiteboard.specs.ListTests.{among, all, distinct, carried_witness}
use Rattle.whiteboard.specs.PlanInstances.{runs_abc, disguised, record_abc, record_abcd, holds_abc, holds_abcd, size_4, table_disguised}
use Rattle.whiteboard.specs.PlanInstances.{plan_abc_lem, plan_abcd_lem}
use Rattle.whiteboard.specs.RefusalInstances.{size_none, design_none, accepted_columns, accepted_abcd, accepted_disguised}
use Rattle.whiteboard.specs.Samples.{plan_abc, plan_abcd}
use Rattle.whiteboard.specs.Switching.{kept_carries}
use Rattle.whiteboard.specs.Tests.{below, agree_at}

-- places in a list of records: the second of three, and none
abbrev pub records : List Design
records = record_abcd ∷ record_abc ∷ record_abc ∷ []

not_abc : record_abcd ≡ record_abc → ⊥
not_abc e = omega (arith, ap (λ (d : Design). get_or d.columns 2 0) e)

pub place_found : DesignPlace records record_abc 2
place_found = FirstPlace.found 1 (omega arith) refl (λ j l e. not_abc (subst (λ (i : ℕ). get_or records i blank ≡ record_abc) (zero_at j l) e))
  where
    zero_at : (j : ℕ) → j < 1 → j ≡ 0
    zero_at j l = omega arith

pub place_absent : DesignPlace (record_abcd ∷ []) record_abc 0
place_absent = FirstPlace.absent (λ i l e. not_abc (subst (λ (j : ℕ). get_or (record_abcd ∷ []) j blank ≡ record_abc) (zero_at i l) e))
  where
    zero_at : (j : ℕ) → j < 1 → j ≡ 0
    zero_at j l = omega arith

-- a witness from the disguise to ABC's columns in sixteen places
abbrev pub names : List ℕ
names = 3 ∷ 0 ∷ 1 ∷ 2 ∷ []

pub witness_back : Carries 4 (runs_of disguised) (plan_of 4 3 record_abc.columns) names 9
unfolding below among all distinct moved list_to run_of odd ones ones_in
witness_back =
    carries_agree 4 (runs_of disguised) (runs_of disguised) (runs_of runs_abc) (plan_of 4 3 record_abc.columns) names 9
    (agree_refl (runs_of disguised))
    (agree_sym (plan_of 4 3 record_abc.columns) (runs_of runs_abc) (plan_runs 4 3 record_abc.columns))
    (carried_witness 4 disguised runs_abc names 9 refl).carries

pub smallest_disguised : Smallest 4 3 (runs_of disguised) record_abc.columns
smallest_disguised =
    smallest_moved 4 3 (runs_of disguised) (plan_of 4 3 record_abc.columns) record_abc.columns table_disguised.within
    (record { names = names; mask = 9; carries = witness_back }) holds_abc.columns.smallest

-- the smallest form of the disguise, found at place 2 of a list of records; and refused by 8 for a witness of two places
pub records_none : (k : ℕ) → records_faults 4 1 records k → ⊥
records_none k f =
    ⊎_elim (size_none 4 1 size_4 k)
    (λ p. let i = p.0 in
    design_none (get_or records i blank)
    (by_cases (ℕ_discrete i 0) (λ e. rw e holds_abcd)
    (λ ne. by_cases (ℕ_discrete i 1) (λ e. rw e holds_abc)
    (λ no_one. let e : i ≡ 2 = omega (arith, p.1.0) in rw e holds_abc)))
    k p.1.1) f

accepted_reduction : Lowest (either (runs_faults 4 1 disguised) (records_faults 4 1 records)) 0
accepted_reduction =
    lowest_then (runs_faults 4 1 disguised) (records_faults 4 1 records) 0 accepted_disguised (lowest_none (records_faults 4 1 records) records_none)

pub formed_disguised : Formed 4 3 (of_runs 4 1 disguised) record_abc.columns (3 ∷ 0 ∷ 1 ∷ 2 ∷ 9 ∷ []) 9
unfolding below moved
formed_disguised = record {
  smallest = smallest_disguised;
  witness = carries_names 4 (runs_of disguised) (plan_of 4 3 record_abc.columns) names (3 ∷ 0 ∷ 1 ∷ 2 ∷ 9 ∷ []) 9
      (agree_at (λ f. get_or (3 ∷ 0 ∷ 1 ∷ 2 ∷ 9 ∷ []) f 0) (λ f. get_or names f 0) 4 refl) witness_back;
  start = λ x e. ap (moved (3 ∷ 0 ∷ 1 ∷ 2 ∷ 9 ∷ []) 4) (sym e);
}

pub reduces : ReducesAmong 4 1 (of_runs 4 1 disguised) records five (3 ∷ 0 ∷ 1 ∷ 2 ∷ 9 ∷ []) (record { number = 0; mask = 9; place = 2; design = record_abc })
unfolding below moved
reduces = record {
  number = lowest_then (either (runs_faults 4 1 disguised) (records_faults 4 1 records)) (LentFault 4 five) 0 accepted_reduction
      (lent_fits 4 five (omega arith));
  blank_design = λ h. absurd (omega arith);
  no_mask = λ h. absurd (omega arith);
  no_place = λ h. absurd (omega arith);
  untouched = λ h. absurd (omega arith);
  design = λ e. holds_also (λ c. Formed 4 3 (of_runs 4 1 disguised) c (3 ∷ 0 ∷ 1 ∷ 2 ∷ 9 ∷ []) 9) record_abc holds_abc formed_disguised;
  place = λ e. place_found;
  past = λ e. refl;
  size = refl;
}

pub reduces_refused : ReducesAmong 4 1 (of_runs 4 1 disguised) records (9 ∷ 9 ∷ []) (9 ∷ 9 ∷ []) (record { number = 8; mask = 0; place = 0; design = blank })
reduces_refused = record {
  number = lowest_then (either (runs_faults 4 1 disguised) (records_faults 4 1 records)) (LentFault 4 (9 ∷ 9 ∷ [])) 8 accepted_reduction
      (lent_short 4 (9 ∷ 9 ∷ []) (omega arith));
  blank_design = λ h. refl;
  no_mask = λ h. refl;
  no_place = λ h. refl;
  untouched = λ h. refl;
  design = λ e. absurd (omega arith);
  place = λ e. absurd (omega arith);
  past = λ e. refl;
  size = refl;
}

-- several plans in one list: ABCD, then ABC
abbrev pub plans : List ℕ
plans = plan_abcd ++ plan_abc

pub plan_bytes_lem : plan_bytes 4 ≡ 6
plan_bytes_lem = refl

pub plan_start_lem : plan_start 4 1 ≡ 6
plan_start_lem = refl

pub plan_count_lem : plan_count 4 (length plans) ≡ 2
plan_count_lem = refl

-- of eleven bytes the last five are no plan
pub plan_part : plan_count 4 11 ≡ 1
plan_part = refl

pub has_plan : HasPlan 4 plans 1
has_plan = omega arith

pub no_plan : HasPlan 4 plans 2 → ⊥
no_plan h = omega arith

pub plan_at_lem : plan_at 4 plans 1 ≡ plan_abc
plan_at_lem = refl

-- what holds of both places holds of each plan's
pub each_plan : (P : ℕ → Type 0) → P 0 → P 1 → (i : ℕ) → HasPlan 4 plans i → P i
each_plan P a b i h =
    by_cases (ℕ_discrete i 0) (λ e. subst P (sym e) a) (λ ne. let e : i ≡ 1 = omega arith in subst P (sym e) b)

pub plans_none : (k : ℕ) → plans_faults 4 1 plans k → ⊥
plans_none k f =
    ⊎_elim (size_none 4 1 size_4 k)
    (λ p. ⊎_elim (bytes k)
    (λ q. each_plan (λ i. columns_faults 4 1 (plan_at 4 plans i) k → ⊥) (none_lowest (columns_faults 4 1 plan_abcd) accepted_abcd k)
    (none_lowest (columns_faults 4 1 plan_abc) accepted_columns k)
    q.0 q.1.0 q.1.1) p) f
  where
    bytes : (k : ℕ) → BytesFault 4 plans k → ⊥
    bytes k (BytesFault.count h) = h 2 refl

-- the smallest form of a plan of an entry's columns and a mask: these columns, every factor keeping its name, and switched if it is in the mask
abbrev pub own : List ℕ
own = 0 ∷ 1 ∷ 2 ∷ 3 ∷ []

pub own_formed : (c d names : List ℕ) → Entry 4 3 3 c → Equal 4 c d → Equal 4 own names → mask_in 4 c < 16 → Formed 4 3 (of_columns 4 1 c) d names
    (mask_in 4 c)
unfolding list_to below
own_formed c d names entry e named l =
    let mask = mask_in 4 c in
    let s = plan_with 4 3 c mask in
    let t = plan_of 4 3 c in
    let within : Within 4 s = λ x h. subst (λ (y : ℕ). y < 16) (xor_back x mask) (xor_lt 4 (bit_xor x mask) mask (plan_within 4 3 c (bit_xor x mask) h) l) in
    let w : Carries 4 s t names mask =
    carries_names 4 s t (kept 4) names mask
    (λ f h. sym (named f h) ∙ agree_at (λ i. get_or own i 0) (λ i. get_or (kept 4) i 0) 4 refl f h)
    (kept_carries 4 s t mask l within (switched_twice mask t)) in
    record {
      smallest = smallest_equal 4 3 c d e s (smallest_moved 4 3 s t c within (record { names = names; mask = mask; carries = w }) entry.smallest);
      witness = carries_agree 4 s s t (plan_of 4 3 d) names mask (agree_refl s) (plan_cols 4 3 c d e) w;
      start = λ x q. sym (moved_kept 4 mask l)
          ∙ moved_names (kept 4) names 4 mask (λ f h. sym (agree_at (λ i. get_or own i 0) (λ i. get_or (kept 4) i 0) 4 refl f h) ∙ named f h)
          ∙ ap (moved names 4) (sym q);
    }

-- the smallest form of ABC's plan into a lent list, found at place 2 of the plans; refused for a list of five places
abbrev pub seven : List ℕ
seven = 9 ∷ 9 ∷ 9 ∷ 9 ∷ 9 ∷ 9 ∷ 9 ∷ []

abbrev pub filled : List ℕ
filled = 1 ∷ 2 ∷ 3 ∷ 4 ∷ 0 ∷ 0 ∷ 9 ∷ []

pub equal_filled : Equal 4 plan_abc filled
unfolding below
equal_filled = agree_at (λ f. get_or plan_abc f 0) (λ f. get_or filled f 0) 4 refl

-- its first place in the plans
pub columns_place : ColumnsPlace 4 plans filled 2
columns_place = FirstPlace.found 1 (omega arith) (equal_filled, refl) (λ j l e. let z : j ≡ 0 = omega arith in
    omega (arith, subst (λ (i : ℕ). Equal 4 (plan_at 4 plans i) filled) z e.0 2 (omega arith)))

pub reduces_into : ReducesInto 4 1 (of_columns 4 1 plan_abc) plans seven filled five (0 ∷ 1 ∷ 2 ∷ 3 ∷ 9 ∷ []) (record { number = 0; mask = 0; place = 2 })
unfolding below
reduces_into = record {
  lowest = lowest_then (either (columns_faults 4 1 plan_abc) (either (plans_faults 4 1 plans) (LentFault 6 seven))) (LentFault 4 five) 0
      (lowest_then (columns_faults 4 1 plan_abc) (either (plans_faults 4 1 plans) (LentFault 6 seven)) 0 accepted_columns
      (lowest_then (plans_faults 4 1 plans) (LentFault 6 seven) 0 (lowest_none (plans_faults 4 1 plans) plans_none) (lent_fits 6 seven (omega arith))))
      (lent_fits 4 five (omega arith));
  no_mask = λ h. absurd (omega arith);
  no_place = λ h. absurd (omega arith);
  untouched = λ h. absurd (omega arith);
  form = λ e. own_formed plan_abc filled (0 ∷ 1 ∷ 2 ∷ 3 ∷ 9 ∷ []) plan_abc_lem equal_filled
      (agree_at (λ f. get_or own f 0) (λ f. get_or (0 ∷ 1 ∷ 2 ∷ 3 ∷ 9 ∷ []) f 0) 4 refl) (omega arith);
  unswitched = λ e. refl;
  found = λ e. columns_place;
  past = λ e. (refl, refl);
  size = (refl, refl);
}

pub reduces_into_refused : ReducesInto 4 1 (of_columns 4 1 plan_abc) plans five five five five (record { number = 8; mask = 0; place = 0 })
reduces_into_refused = record {
  lowest = lowest_first (either (columns_faults 4 1 plan_abc) (either (plans_faults 4 1 plans) (LentFault 6 five))) (LentFault 4 five) 8 (omega arith)
      (lowest_then (columns_faults 4 1 plan_abc) (either (plans_faults 4 1 plans) (LentFault 6 five)) 8 accepted_columns
      (lowest_then (plans_faults 4 1 plans) (LentFault 6 five) 8 (lowest_none (plans_faults 4 1 plans) plans_none) (lent_short 6 five (omega arith))))
      (λ k f. omega (arith, lent_is 4 five k f));
  no_mask = λ h. refl;
  no_place = λ h. refl;
  untouched = λ h. (refl, refl);
  form = λ e. absurd (omega arith);
  unswitched = λ e. absurd (omega arith);
  found = λ e. absurd (omega arith);
  past = λ e. (refl, refl);
  size = (refl, refl);
}

-- the smallest forms of the two plans one after another, and after the names of each witness its mask
abbrev zeros12 : List ℕ
zeros12 = replicate 12 0

abbrev owns : List ℕ
owns = 0 ∷ 1 ∷ 2 ∷ 3 ∷ 0 ∷ 0 ∷ 0 ∷ 1 ∷ 2 ∷ 3 ∷ 0 ∷ 0 ∷ []

pub reduces_each : ReducesEach 4 1 plans zeros12 plans zeros12 owns 0
unfolding below
reduces_each = record {
  lowest = lowest_then (either (plans_faults 4 1 plans) (LentFault 12 zeros12)) (LentFault 12 zeros12) 0
      (lowest_then (plans_faults 4 1 plans) (LentFault 12 zeros12) 0 (lowest_none (plans_faults 4 1 plans) plans_none) (lent_fits 12 zeros12 (omega arith)))
      (lent_fits 12 zeros12 (omega arith));
  untouched = λ h. absurd (omega arith);
  form = λ e. each_plan (λ i. Formed 4 3 (of_columns 4 1 (plan_at 4 plans i)) (plan_at 4 plans i) (plan_at 4 owns i) (mask_in 4 (plan_at 4 owns i)))
      (own_formed plan_abcd plan_abcd (plan_at 4 owns 0) plan_abcd_lem (λ f h. refl)
      (agree_at (λ f. get_or own f 0) (λ f. get_or (plan_at 4 owns 0) f 0) 4 refl) (omega arith))
      (own_formed plan_abc plan_abc (plan_at 4 owns 1) plan_abc_lem (λ f h. refl)
      (agree_at (λ f. get_or own f 0) (λ f. get_or (plan_at 4 owns 1) f 0) 4 refl) (omega arith));
  unswitched = λ e. each_plan (λ i. mask_in 4 (plan_at 4 plans i) ≡ 0) refl refl;
  past = λ e. (refl, refl);
  size = (refl, refl);
}
