-- The smallest form's place in a list of records or of plans one after another, and that this is what the calls promise.
use Rattle.std.specs.Prelude.{ℕ, ◌-◌, ◌≤◌, ◌<◌, false, ◌≡◌, refl, List, length, drop, Result, Ok, Err, IsOk}
use Rattle.std.proofs.Common.{sym, subst, ◌∙◌, arith}
use Rattle.regular.specs.Columns.{plan_of}
use Rattle.regular.specs.Refusals.{LentFault, either, numbered, Lowest}
use Rattle.regular.specs.RefusalLaws.{lowest_unique, lowest_numbered, lowest_then, lent_fits, number_positive}
use Rattle.regular.specs.Given.{Given}
use Rattle.regular.specs.GivenLaws.{same_lowest_refl, same_lowest_either, lowest_same_lowest, lowest_moved, lowest_left, lowest_right}
use Rattle.regular.specs.PlanBytes.{plan_bytes, mask_in}
use Rattle.regular.specs.PlanLists.{records_faults, wanted_plans_faults}
use Rattle.regular.specs.Smallest.{Equal}
use Rattle.regular.specs.SmallestAnswers.{FirstPlace, DesignPlace, ColumnsPlace, Formed, ReducesAmong, ReducesInto, into_faults}
use Rattle.regular.specs.declared.Design.{Design}
use Rattle.regular.specs.Answers.{SmallestAnswer, unplaced_answer, smallest_answer, form_answer}
use Rattle.regular.specs.declared.Refusal.{Refusal}
use Rattle.regular.specs.declared.FormAnswer.{FormAnswer}
use Rattle.regular.specs.declared.UnplacedForm.{UnplacedForm}
use Rattle.isomorphism_laws.specs.Moving.{moved_names, carries_names}
use Rattle.isomorphism_laws.specs.SamePlan.{carries_agree}
use Rattle.smallest_laws.specs.Growth.{smallest_equal, plan_equal}
use Rattle.lent.specs.Lends.{Lends}
use Rattle.plan_layout.specs.Put.{PlanPut}
use Rattle.plan_layout.proofs.Pasted.{first_put}
use Rattle.lent.specs.Lending.{Lending}
use Rattle.smallest_of_plan.specs.Reducing.{ReducesBeside, besides}
use Rattle.smallest_calls.specs.Others.{others, others_lowest}

-- a place shown only if the form is accepted
pub record Shown (number place at : ℕ) : Type 0 where
  pub found : number ≡ 0 → at ≡ place
  pub refused : 0 < number → at ≡ 0

-- a form with its place
pub record WithPlace (form : SmallestAnswer) (place : ℕ) (r : SmallestAnswer) : Type 0 where
  pub at : ℕ
  pub shown : Shown form.number place at
  pub is : r ≡ record { number = form.number; mask = form.mask; place = at; design = form.design }

-- columns lent as a plan without switches, to a list that has the places
pub record LentPlan (n : ℕ) (c out filled : List ℕ) : Type 0 where
  pub columns : Equal n filled c
  pub unswitched : mask_in n filled ≡ 0
  pub past : drop (plan_bytes n) filled ≡ drop (plan_bytes n) out
  pub size : length filled ≡ length out

pub lent_plan : {n : ℕ} {c out filled : List ℕ} {r : ℕ} → plan_bytes n ≤ length out
    → Lends 0 (plan_bytes n) (λ zs. Equal n zs c × (mask_in n zs ≡ 0)) out filled r → LentPlan n c out filled
lent_plan h l = let f = l.filled refl h in record { columns = f.1.0.0; unswitched = f.1.0.1; past = f.1.1; size = l.size }

pub put_lent : {n : ℕ} {c out filled : List ℕ} → plan_bytes n ≤ length out → PlanPut n c 0 0 out filled → LentPlan n c out filled
put_lent {n} {c} {out} {filled} h p =
    let f = first_put n c 0 out filled h p in
    record { columns = f.0.0; unswitched = f.0.1; past = f.1; size = p.size }

-- the form's columns go into a lent list
pub record PlacedInto (n : ℕ) (list : List ℕ) (form : SmallestAnswer) (out filled : List ℕ) (r : FormAnswer) : Type 0 where
  pub number : r.number ≡ form.number
  pub mask : r.mask ≡ form.mask
  pub no_place : 0 < form.number → r.place ≡ 0
  pub untouched : 0 < form.number → filled ≡ out
  pub lent : form.number ≡ 0 → LentPlan n form.design.columns out filled
  pub place : form.number ≡ 0 → ColumnsPlace n list form.design.columns r.place
  pub size : length filled ≡ length out

same_place : (n : ℕ) (list c d : List ℕ) (place : ℕ) → Equal n c d → ColumnsPlace n list c place → ColumnsPlace n list d place
same_place n list c d place e (FirstPlace.absent none) = FirstPlace.absent (λ i h q. none i h ((λ f l. q.0 f l ∙ sym (e f l)), q.1))
same_place n list c d place e (FirstPlace.found i h q none) =
    FirstPlace.found i h ((λ f l. q.0 f l ∙ e f l), q.1) (λ j l q. none j l ((λ f l. q.0 f l ∙ sym (e f l)), q.1))

-- the form of the plan p, the other arguments having the number `other`
module _ {n g : ℕ} {p : Given} {other : ℕ} {ys zs : List ℕ} {form : SmallestAnswer} (f : ReducesBeside n g p other ys zs form) where
  -- an accepted form: the others are not refused
  pub formed_other : form.number ≡ 0 → other ≡ 0
  formed_other e =
      let l = subst (Lowest (besides n p other ys)) e f.made.number in
      lowest_unique (numbered other) other 0 (lowest_numbered other)
      (lowest_right p.faults (numbered other) (lowest_left (either p.faults (numbered other)) (LentFault n ys) l))

  -- the number of all arguments, the others having the faults H
  pub all_lowest : (H : ℕ → Type 0) → Lowest H other → Lowest (either (either p.faults H) (LentFault n ys)) form.number
  all_lowest H low =
      let lent = LentFault n ys in
      lowest_moved (besides n p other ys) (either (either p.faults H) lent) form.number
      (same_lowest_either (either p.faults (numbered other)) lent (either p.faults H) lent
      (same_lowest_either p.faults (numbered other) p.faults H (same_lowest_refl p.faults)
      (lowest_same_lowest (numbered other) H other (lowest_numbered other) low))
      (same_lowest_refl lent)) f.made.number

-- nothing is at fault: the form is accepted
pub formed_accepted : {n g : ℕ} {p : Given} {ys zs : List ℕ} {form : SmallestAnswer} → ReducesBeside n g p 0 ys zs form → Lowest p.faults 0
    → n ≤ length ys → form.number ≡ 0
formed_accepted {n} {g} {p} {ys} {zs} {form} f low h =
    lowest_unique (besides n p 0 ys) form.number 0 f.made.number
    (lowest_then (either p.faults (numbered 0)) (LentFault n ys) 0 (lowest_then p.faults (numbered 0) 0 low (lowest_numbered 0)) (lent_fits n ys h))

pub formed_ok : (r : Result UnplacedForm Refusal) → (unplaced_answer r).number ≡ 0 → IsOk r
formed_ok (Ok f) e = refl
formed_ok (Err x) e = absurd (omega (arith, e, number_positive x))

-- in a list of records
pub formed_among : {n g : ℕ} {p : Given} {other : ℕ} {ys zs : List ℕ} {form : SmallestAnswer} (list : List Design)
    → Lowest (records_faults n g list) other → ReducesBeside n g p other ys zs form → (place : ℕ) (r : SmallestAnswer) → DesignPlace list form.design place
    → WithPlace form place r
    → ReducesAmong n g p list ys zs r
formed_among {n} {g} {p} {other} {ys} {zs} {form} list low f place r at q =
    let b = f.made in
    subst (ReducesAmong n g p list ys zs) (sym q.is) (record {
      number = all_lowest f (records_faults n g list) low;
      blank_design = b.blank_design;
      no_mask = b.no_mask;
      no_place = q.shown.refused;
      untouched = b.untouched;
      design = b.design;
      place = λ e. subst (DesignPlace list form.design) (sym (q.shown.found e)) at;
      past = b.past;
      size = b.size;
    })

pub refused_among : {n g : ℕ} {p : Given} {other : ℕ} {ys zs : List ℕ} (e : Refusal) (list : List Design)
    → Lowest (records_faults n g list) other → ReducesBeside n g p other ys zs (unplaced_answer (Err e))
    → ReducesAmong n g p list ys zs (smallest_answer (Err e))
refused_among {n} {g} {p} {other} {ys} {zs} e list low f =
    let b = f.made in
    record {
      number = all_lowest f (records_faults n g list) low;
      blank_design = b.blank_design;
      no_mask = b.no_mask;
      no_place = λ _. refl;
      untouched = b.untouched;
      design = b.design;
      place = λ q. absurd (omega (arith, number_positive e));
      past = b.past;
      size = b.size;
    }

pub placed_among : {n g : ℕ} {p : Given} {other : ℕ} {ys zs : List ℕ} (mask : ℕ) (design : Design) (list : List Design)
    → Lowest (records_faults n g list) other → ReducesBeside n g p other ys zs (unplaced_answer (Ok (record { mask = mask; design = design })))
    → (place : ℕ) → DesignPlace list design place
    → ReducesAmong n g p list ys zs (smallest_answer (Ok (record { mask = mask; place = place; design = design })))
placed_among mask design list low f place at =
    formed_among list low f place _ at (record { at = place; shown = record { found = λ _. refl; refused = λ h. absurd (omega arith) }; is = refl })

-- an accepted form's columns in a lent list
pub lent_form : {n m : ℕ} {p : Given} {c names filled : List ℕ} {mask : ℕ} → Formed n m p c names mask → Equal n filled c → Formed n m p filled names mask
lent_form {n} {m} {p} {c} {names} {filled} {mask} f e =
    let same : Equal n c filled = λ k h. sym (e k h) in
    record {
      smallest = smallest_equal n m c filled same p.plan f.smallest;
      witness = carries_agree n p.plan p.plan (plan_of n m c) (plan_of n m filled) names mask (record { into = λ x h. h; onto = λ x h. h })
          (plan_equal n m c filled same) f.witness;
      start = f.start;
    }

-- its names with other bytes after them
pub named_form : {n m : ℕ} {p : Given} {c names exit : List ℕ} {mask : ℕ} → Formed n m p c names mask → Equal n exit names → Formed n m p c exit mask
named_form {n} {m} {p} {c} {names} {exit} {mask} f e = record {
  smallest = f.smallest;
  witness = carries_names n p.plan (plan_of n m c) names exit mask e f.witness;
  start = λ x h. f.start x h ∙ moved_names names exit n x (λ k l. sym (e k l));
}

-- the list and then the lent list judged, the plan's form beside them, and its columns lent
pub formed_into : {n g : ℕ} {p : Given} {list out : List ℕ} (listed other : ℕ) {ys zs : List ℕ} {form : SmallestAnswer}
    → Lowest (wanted_plans_faults n g 3 false list) listed → Lending listed (plan_bytes n) (length out) other → ReducesBeside n g p other ys zs form
    → (filled : List ℕ) (r : FormAnswer) → PlacedInto n list form out filled r → ReducesInto n g p list out filled ys zs r
formed_into {n} {g} {p} {list} {out} listed other {ys} {zs} {form} low lent f filled r q =
    let b = f.made in
    let accepted : r.number ≡ 0 → form.number ≡ 0 = λ e. sym q.number ∙ e in
    let refused : 0 < r.number → 0 < form.number = λ h. subst (λ (k : ℕ). 0 < k) q.number h in
    record {
      lowest = subst (Lowest (into_faults n g p list out ys)) (sym q.number)
          (all_lowest f (others n g list (plan_bytes n) out) (others_lowest n g list (plan_bytes n) out listed other low lent));
      no_mask = λ h. q.mask ∙ b.no_mask (refused h);
      no_place = λ h. q.no_place (refused h);
      untouched = λ h. (q.untouched (refused h), b.untouched (refused h));
      form = λ e. subst (Formed n (n - g) p filled zs) (sym q.mask) (lent_form (b.design (accepted e)).columns (q.lent (accepted e)).columns);
      unswitched = λ e. (q.lent (accepted e)).unswitched;
      found = λ e. same_place n list form.design.columns filled r.place (λ k h. sym ((q.lent (accepted e)).columns k h)) (q.place (accepted e));
      past = λ e. ((q.lent (accepted e)).past, b.past (accepted e));
      size = (q.size, b.size);
    }

-- a refused form, and an accepted one
pub refused_into : {n g : ℕ} {p : Given} {list out : List ℕ} (listed other : ℕ) {ys zs : List ℕ} (e : Refusal)
    → Lowest (wanted_plans_faults n g 3 false list) listed → Lending listed (plan_bytes n) (length out) other
    → ReducesBeside n g p other ys zs (unplaced_answer (Err e)) → ReducesInto n g p list out out ys zs (form_answer (Err e))
refused_into listed other e low lent f =
    formed_into listed other low lent f _ _ (record {
      number = refl;
      mask = refl;
      no_place = λ _. refl;
      untouched = λ _. refl;
      lent = λ q. absurd (omega (arith, number_positive e));
      place = λ q. absurd (omega (arith, number_positive e));
      size = refl;
    })

pub placed_into : {n g : ℕ} {p : Given} {list out : List ℕ} (listed other : ℕ) {ys zs : List ℕ} (mask : ℕ) (design : Design)
    → Lowest (wanted_plans_faults n g 3 false list) listed → Lending listed (plan_bytes n) (length out) other
    → ReducesBeside n g p other ys zs (unplaced_answer (Ok (record { mask = mask; design = design })))
    → (filled : List ℕ) (place : ℕ) → LentPlan n design.columns out filled → ColumnsPlace n list design.columns place
    → ReducesInto n g p list out filled ys zs (form_answer (Ok (record { mask = mask; place = place })))
placed_into listed other mask design low lent f filled place l at =
    formed_into listed other low lent f filled _ (record {
      number = refl;
      mask = refl;
      no_place = λ h. absurd (omega arith);
      untouched = λ h. absurd (omega arith);
      lent = λ _. l;
      place = λ _. at;
      size = l.size;
    })
