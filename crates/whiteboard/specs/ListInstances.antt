-- Instances of the lists that calls fill and take: catalogues as bytes and as records, whole, too long for the list, and refused; and lists of plans
-- in which nothing is wrong.
use Rattle.std.specs.Prelude.{◌≡◌, refl, Bool, List, [], ◌∷◌, ℕ, ◌≤◌, ◌<◌, get_or, replicate}
use Rattle.std.proofs.Common.{sym, subst, ⊎_elim, inl, inr, arith}
use Rattle.std.proofs.Math.Logic.{by_cases}
use Rattle.std.proofs.Math.Decide.{ℕ_discrete}
use Rattle.regular.specs.Catalogues.{ListsBytes, ListsDesigns, catalogue_faults}
use Rattle.regular.specs.Columns.{plan_of}
use Rattle.regular.specs.Designs.{Holds, blank}
use Rattle.regular.specs.declared.Design.{Design}
use Rattle.regular.specs.Given.{of_columns, of_design}
use Rattle.regular.specs.GivenLaws.{holds_plan}
use Rattle.regular.specs.PlanBytes.{plan_start, plan_at, mask_in}
use Rattle.regular.specs.PlanLists.{wanted_records_faults, wanted_plans_faults}
use Rattle.regular.specs.RefusalLaws.{lowest_none, lowest_at}
use Rattle.regular.specs.Refusals.{ResolutionFault, RoomFault, WantedFault, SwitchFault, either, size_faults, Lowest}
use Rattle.regular.specs.Runs.{Runs, Agree}
use Rattle.regular.specs.Smallest.{Equal, Entry, Catalogue}
use Rattle.words.specs.Switches.{agree_sym, no_short_agree}
use Rattle.smallest_laws.specs.Dictionary.{equal_sym, equal_trans, equal_before, before_equal}
use Rattle.smallest_laws.specs.Growth.{entry_equal}
use Rattle.catalogue_laws.specs.Demand.{catalogue_unique}
use Rattle.whiteboard.specs.PlanInstances.{record_abc, record_abcd, holds_abc, holds_abcd, size_4, bytes_plan, plan_abc_lem, plan_abcd_lem}
use Rattle.whiteboard.specs.RefusalInstances.{size_none, design_none}
use Rattle.whiteboard.specs.ResultInstances.{plans, plans_none, each_plan}
use Rattle.whiteboard.specs.Samples.{abc, abcd, plan_abc, plan_abcd, catalogue_4}
use Rattle.whiteboard.specs.Tests.{below, agree_at}

abbrev pub both : ℕ → List ℕ
both i = get_or (abc ∷ abcd ∷ []) i []

-- the catalogue in other lists with the same columns
like : (entry : ℕ → List ℕ) → Equal 4 abc (entry 0) → Equal 4 abcd (entry 1) → (i : ℕ) → i < 2 → Equal 4 (both i) (entry i)
like entry a b i h =
    by_cases (ℕ_discrete i 0) (λ e. subst (λ (j : ℕ). Equal 4 (both j) (entry j)) (sym e) a)
    (λ ne. let e : i ≡ 1 = omega arith in subst (λ (j : ℕ). Equal 4 (both j) (entry j)) (sym e) b)

catalogue_like : (entry : ℕ → List ℕ) → Equal 4 abc (entry 0) → Equal 4 abcd (entry 1) → Catalogue 4 3 3 2 entry
catalogue_like entry a b =
    let e = like entry a b in
    record {
      sound = λ i h. entry_equal 4 3 (both i) (entry i) (e i h) 3 (catalogue_4.sound i h);
      order = λ i j h l. equal_before 4 (entry i) (both i) (entry j) (equal_sym 4 (both i) (entry i) (e i (omega arith)))
          (before_equal 4 (both i) (both j) (entry j) (catalogue_4.order i j h l) (e j l));
      complete = λ c k. let r = catalogue_4.complete c k in
          (r.0, (r.1.0, equal_trans 4 (entry r.0) (both r.0) c (equal_sym 4 (both r.0) (entry r.0) (e r.0 r.1.0)) r.1.1));
    }

-- R 3 is no fault; R 2 is one
pub wanted_none : (k : ℕ) → ResolutionFault 3 k → ⊥
wanted_none k (ResolutionFault.outside h) = ⊎_elim (λ l. omega arith) (λ l. omega arith) h

sizes_none : (k : ℕ) → size_faults 4 1 3 k → ⊥
sizes_none k f = ⊎_elim (size_none 4 1 size_4 k) (wanted_none k) f

-- room for both entries: no fault. Any catalogue of this size has two
room_none : (room : ℕ → Type 0) → room 2 → (k : ℕ) → RoomFault 4 3 3 room k → ⊥
room_none room h k (RoomFault.more total all c n) = n (subst room (catalogue_unique 4 3 3 2 total both all catalogue_4 c).0 h)

accepted_room : (room : ℕ → Type 0) → room 2 → Lowest (catalogue_faults 4 1 3 room) 0
accepted_room room h = lowest_none (catalogue_faults 4 1 3 room) (λ k f. ⊎_elim (sizes_none k) (room_none room h k) f)

refused_room : (room : ℕ → Type 0) → (room 2 → ⊥) → Lowest (catalogue_faults 4 1 3 room) 9
refused_room room h =
    lowest_at (catalogue_faults 4 1 3 room) 9 (omega arith) (inr (RoomFault.more 2 both catalogue_4 h))
    (λ k f. ⊎_elim (λ s. absurd (sizes_none k s)) (nine k) f)
  where
    nine : (k : ℕ) → RoomFault 4 3 3 room k → 9 ≤ k
    nine k (RoomFault.more total all c n) = omega arith

-- thirteen bytes for two entries of four columns and no switches: the catalogue, the last byte untouched
abbrev listed : List ℕ
listed = 1 ∷ 2 ∷ 3 ∷ 4 ∷ 0 ∷ 0 ∷ 1 ∷ 2 ∷ 4 ∷ 7 ∷ 0 ∷ 0 ∷ 9 ∷ []

pub lists_bytes : ListsBytes 4 1 3 (replicate 13 9) listed 0 2
unfolding below
lists_bytes = record {
  catalogues = record {
    lowest = accepted_room (λ k. plan_start 4 k ≤ 13) (omega arith);
    whole = λ e. catalogue_like (plan_at 4 listed)
        (agree_at (λ f. get_or abc f 0) (λ f. get_or (plan_at 4 listed 0) f 0) 4 refl)
        (agree_at (λ f. get_or abcd f 0) (λ f. get_or (plan_at 4 listed 1) f 0) 4 refl);
    fits = λ e. omega arith;
    begins = λ e. absurd (omega arith);
    none = λ h l. absurd (omega arith);
  };
  unswitched = λ i h. by_cases (ℕ_discrete i 0) (λ e. rw e refl) (λ ne. let e : i ≡ 1 = omega arith in rw e refl);
  rest = refl;
  size = refl;
}

-- seven bytes: refused by 9, the first entry is there
abbrev begun : List ℕ
begun = 1 ∷ 2 ∷ 3 ∷ 4 ∷ 0 ∷ 0 ∷ 9 ∷ []

begin_first : (total : ℕ) (all : ℕ → List ℕ) → Catalogue 4 3 3 total all → (entry : ℕ → List ℕ) → Equal 4 (entry 0) abc → (i : ℕ) → i < 1
    → Equal 4 (entry i) (all i)
begin_first total all c entry a i h =
    let e : i ≡ 0 = omega arith in
    subst (λ (j : ℕ). Equal 4 (entry j) (all j)) (sym e)
    (equal_trans 4 (entry 0) abc (all 0) a ((catalogue_unique 4 3 3 2 total both all catalogue_4 c).1 0 (omega arith)))

pub lists_nine : ListsBytes 4 1 3 (replicate 7 9) begun 9 1
unfolding below
lists_nine = record {
  catalogues = record {
    lowest = refused_room (λ k. plan_start 4 k ≤ 7) (λ l. omega arith);
    whole = λ e. absurd (omega arith);
    fits = λ e. absurd (omega arith);
    begins = λ e. record {
      fits = omega arith;
      full = λ l. omega arith;
      first = λ total all c. begin_first total all c (plan_at 4 begun) (agree_at (λ f. get_or (plan_at 4 begun 0) f 0) (λ f. get_or abc f 0) 4 refl);
    };
    none = λ h l. absurd (omega arith);
  };
  unswitched = λ i h. let e : i ≡ 0 = omega arith in rw e refl;
  rest = refl;
  size = refl;
}

-- R 2: refused by 3, nothing is there
pub lists_three : ListsBytes 4 1 2 (9 ∷ []) (9 ∷ []) 3 0
lists_three = record {
  catalogues = record {
    lowest = lowest_at (catalogue_faults 4 1 2 (λ k. plan_start 4 k ≤ 1)) 3 (omega arith) (inl (inr (ResolutionFault.outside (inl (omega arith)))))
        (λ k f. ⊎_elim (λ s. ⊎_elim (λ q. absurd (size_none 4 1 size_4 k q)) (three k) s) (nine k) f);
    whole = λ e. absurd (omega arith);
    fits = λ e. absurd (omega arith);
    begins = λ e. absurd (omega arith);
    none = λ h l. refl;
  };
  unswitched = λ i h. absurd (omega arith);
  rest = refl;
  size = refl;
}
  where
    three : (k : ℕ) → ResolutionFault 2 k → 3 ≤ k
    three k (ResolutionFault.outside h) = omega arith

    nine : (k : ℕ) → RoomFault 4 3 2 (λ k. plan_start 4 k ≤ 1) k → 3 ≤ k
    nine k (RoomFault.more total all c n) = omega arith

-- records: three places for two entries, the last untouched
pub lists_designs : ListsDesigns 4 1 3 (blank ∷ blank ∷ blank ∷ []) (record_abc ∷ record_abcd ∷ blank ∷ []) 0 2
unfolding below
lists_designs = record {
  catalogues = record {
    lowest = accepted_room (λ k. k ≤ 3) (omega arith);
    whole = λ e. catalogue_like (λ i. (get_or (record_abc ∷ record_abcd ∷ blank ∷ []) i blank).columns)
        (agree_at (λ f. get_or abc f 0) (λ f. get_or record_abc.columns f 0) 4 refl)
        (agree_at (λ f. get_or abcd f 0) (λ f. get_or record_abcd.columns f 0) 4 refl);
    fits = λ e. omega arith;
    begins = λ e. absurd (omega arith);
    none = λ h l. absurd (omega arith);
  };
  records = λ i h. by_cases (ℕ_discrete i 0) (λ e. rw e holds_abc) (λ ne. let e : i ≡ 1 = omega arith in rw e holds_abcd);
  rest = refl;
  size = refl;
}

-- no mask is at fault where none switches a factor
switch_none : (bare : Bool) (mask : ℕ) → mask ≡ 0 → (k : ℕ) → SwitchFault bare mask k → ⊥
switch_none bare mask e k (SwitchFault.some b h) = h e

-- a plan with the runs of an entry has no word below 3
long : (c : List ℕ) (s : Runs) → Entry 4 3 3 c → Agree (plan_of 4 3 c) s → (k : ℕ) → WantedFault 4 3 s k → ⊥
long c s e a k (WantedFault.short h) = omega (arith, h.few, no_short_agree 4 (plan_of 4 3 c) s a 3 e.long h.word h.is)

-- nor has any of these plans, whether they must be bare of switches or not
pub plans_wanted : (bare : Bool) (k : ℕ) → wanted_plans_faults 4 1 3 bare plans k → ⊥
plans_wanted bare k f =
    ⊎_elim (plans_none k)
    (⊎_elim (wanted_none k)
    (λ q. each_plan (λ i. either (WantedFault 4 3 (of_columns 4 1 (plan_at 4 plans i)).plan) (SwitchFault bare (mask_in 4 (plan_at 4 plans i))) k → ⊥)
    (at plan_abcd plan_abcd_lem refl) (at plan_abc plan_abc_lem refl) q.0 q.1.0 q.1.1)) f
  where
    at : (c : List ℕ) → Entry 4 3 3 c → mask_in 4 c ≡ 0 → either (WantedFault 4 3 (of_columns 4 1 c).plan) (SwitchFault bare (mask_in 4 c)) k → ⊥
    at c e z = ⊎_elim (long c (of_columns 4 1 c).plan e (bytes_plan 4 3 c c (λ i h. refl) z) k) (switch_none bare (mask_in 4 c) z k)

-- the same plans as records
abbrev pub two_records : List Design
two_records = record_abcd ∷ record_abc ∷ []

pub records_wanted : (bare : Bool) (k : ℕ) → wanted_records_faults 4 1 3 bare two_records k → ⊥
records_wanted bare k f =
    ⊎_elim
    (λ p. ⊎_elim (size_none 4 1 size_4 k) (λ q. design_none (get_or two_records q.0 blank) (holds q.0 q.1.0) k q.1.1) p)
    (⊎_elim (wanted_none k) (λ q. at (get_or two_records q.0 blank) (holds q.0 q.1.0) q.1.1)) f
  where
    holds : (i : ℕ) → i < 2 → Holds 4 3 (Entry 4 3 3) (get_or two_records i blank)
    holds i h = by_cases (ℕ_discrete i 0) (λ e. rw e holds_abcd) (λ ne. let e : i ≡ 1 = omega arith in rw e holds_abc)

    at : (d : Design) → Holds 4 3 (Entry 4 3 3) d → either (WantedFault 4 3 (of_design 4 1 d).plan) (SwitchFault bare d.mask) k → ⊥
    at d h =
        ⊎_elim
        (long d.columns (of_design 4 1 d).plan h.columns (agree_sym (of_design 4 1 d).plan (plan_of 4 3 d.columns) (holds_plan 4 1 d h)) k)
        (switch_none bare d.mask h.unswitched k)
