-- Laws of the entries: one plan of the bytes more, one record more, and the room that each has.
use Rattle.std.specs.Prelude.{ℕ, ◌+◌, ◌-◌, ◌≤◌, ◌<◌, true, ◌≡◌, refl, List, length, Result, Ok, Err, IsOk}
use Rattle.std.proofs.Common.{subst, mul-le-mul_right, arith}
use Rattle.regular.specs.Runs.{Runs}
use Rattle.regular.specs.Columns.{plan_of}
use Rattle.regular.specs.Pattern.{Pattern}
use Rattle.regular.specs.Refusals.{Lowest, columns_faults}
use Rattle.regular.specs.RefusalLaws.{lowest_unique, number_positive}
use Rattle.regular.specs.PlanBytes.{plan_at, plan_count, mask_in}
use Rattle.regular.specs.PlanLists.{wanted_plans_faults}
use Rattle.regular.specs.Smallest.{Equal}
use Rattle.regular.specs.Given.{Given, of_columns}
use Rattle.regular.specs.Answers.{Admitted, admitted_of}
use Rattle.regular.specs.declared.AcceptedPlan.{AcceptedPlan}
use Rattle.regular.specs.declared.Refusal.{Refusal}
use Rattle.words.specs.Switches.{pattern_switched}
use Rattle.admission.specs.Admission.{Admission, Ready, ready}
use Rattle.measures.specs.Measured.{pattern_given}
use Rattle.plan_layout.specs.Places.{count_held}
use Rattle.plan_lists.specs.Accepted.{AcceptedPlans, plans_accepted}
use Rattle.regular.specs.Book.{columns_record, entry_length, book_length}
use Rattle.book.specs.Writing.{standard_entry, PutEntry, Written, plan_entry}
use Rattle.book.specs.EntryLaws.{columns_same, entry_like}
use Rattle.book.specs.WritingLaws.{written_more, written_size, entry_room_lem}

-- an answer with the number 0 is an accepted plan
pub admitted_ok : (r : Result AcceptedPlan Refusal) → (admitted_of r).number ≡ 0 → IsOk r
admitted_ok (Ok p) e = refl
admitted_ok (Err f) e = absurd (omega (arith, number_positive f))

-- a plan without faults is admitted
module _ {n g : ℕ} {p : Given} {x : Admitted} (l : Lowest p.faults 0) (ad : Admission n g p x) where
  admitted_none : x.number ≡ 0
  admitted_none = lowest_unique p.faults x.number 0 ad.lowest l

  pub admitted_ready : Ready n g x.columns
  admitted_ready = ready ad admitted_none

  -- the entry of a plan by its standard columns is that of the plan s of which it is a switching: the pattern is its own
  pub entry_of : {c d v w : List ℕ} {at to : ℕ} (s : Runs) → ((q : List ℕ) → Pattern n p.plan q → Pattern n s q)
      → columns_record n c ≡ columns_record n d → PutEntry n (standard_entry n g c x.columns) at v w to
      → PutEntry n (record { columns = d; plan = s }) at v w to
  entry_of s own same put = record {
    bytes = put.bytes;
    are = entry_like same (λ q h. own q (pattern_given ad admitted_none q h)) put.are;
    stand = put.stand;
    next = put.next;
  }

-- the sizes of a list that is accepted
pub plans_bounds : (n g r number : ℕ) (plans : List ℕ) → Lowest (wanted_plans_faults n g r true plans) number → number ≡ 0 → (n ≤ 16) × (g ≤ 16) × (r ≤ 16)
plans_bounds n g r number plans l e =
    let b = (plans_accepted n g r plans (subst (Lowest (wanted_plans_faults n g r true plans)) e l)).bounds in
    (b.size.most, omega (arith, b.size.less, b.size.most), b.high)

-- plans as bytes, the book of which has room in v
module _ (n g r : ℕ) (plans : List ℕ) (ok : AcceptedPlans n g r plans) (v : List ℕ) (room : book_length n (plan_count n (length plans)) ≤ length v) where
  -- one plan more, which has no fault
  module _ {i at : ℕ} {w : List ℕ} (x : Written n (plan_entry n g plans) i v w at) (h : i < plan_count n (length plans)) where
    plans_lowest : Lowest (columns_faults n g (plan_at n plans i)) 0
    plans_lowest = ok.plan i (count_held n (length plans) i h)

    module _ {plan : List ℕ} {a : Admitted} (e : plan ≡ plan_at n plans i) (ad : Admission n g (of_columns n g plan) a) where
      plans_admitted : Admission n g (of_columns n g (plan_at n plans i)) a
      plans_admitted = subst (λ (l : List ℕ). Admission n g (of_columns n g l) a) e ad

      pub plans_admitted_none : a.number ≡ 0
      plans_admitted_none = admitted_none plans_lowest plans_admitted

      pub plans_ready : Ready n g a.columns
      plans_ready = admitted_ready plans_lowest plans_admitted

      pub plans_more : {c w' : List ℕ} {to : ℕ} → Equal n c (plan_at n plans i) → PutEntry n (standard_entry n g c a.columns) at w w' to
          → Written n (plan_entry n g plans) (i + 1) v w' to
      plans_more {c} {w'} {to} same put =
          let own = plan_at n plans i in
          let plan = plan_of n (n - g) own in
          written_more x (entry_of plans_lowest plans_admitted plan (pattern_switched n (mask_in n own) plan) (columns_same n c own same) put)

    pub plans_room : at + entry_length n ≤ length w
    plans_room =
        let fits = entry_room_lem n i (plan_count n (length plans)) h in
        omega (arith, x.place, fits, room, written_size x (omega (arith, fits, room)))

  -- the length stays
  pub plans_size : {i at : ℕ} {w : List ℕ} → Written n (plan_entry n g plans) i v w at → i ≤ plan_count n (length plans) → length w ≡ length v
  plans_size {i} {at} {w} x h = written_size x (omega (arith, room, mul-le-mul_right {m = i} {n = plan_count n (length plans)} (entry_length n) h))
