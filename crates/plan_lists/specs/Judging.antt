-- One plan's number from its resolution and its mask, the number of a list of plans from those of its plans, and what r = 3 adds: nothing.
use Rattle.std.specs.Prelude.{ℕ, suc, ◌+◌, ◌-◌, ◌≤◌, ◌<◌, Bool, true, false, ◌≡◌, refl, ◌⊎◌, List, length, get_or, Result, Err}
use Rattle.std.proofs.lemmas.Bool.{false≢true}
use Rattle.std.proofs.Common.{sym, subst, inl, inr, ⊎_elim, add-one, arith}
use Rattle.std.proofs.Math.Logic.{by_cases}
use Rattle.std.proofs.Math.Decide.{ℕ_discrete, dec_lt}
use Rattle.regular.specs.Runs.{Runs, switched}
use Rattle.regular.specs.Given.{Given}
use Rattle.regular.specs.Words.{NoShort}
use Rattle.regular.specs.Columns.{plan_of}
use Rattle.regular.specs.Designs.{blank}
use Rattle.regular.specs.Refusals.{Short, ResolutionFault, WantedFault, SwitchFault, either, Lowest, size_faults}
use Rattle.regular.specs.RefusalLaws.{lowest_none, lowest_at, lowest_same, lowest_first, lowest_then, lowest_lower, none_lowest, Lower}
use Rattle.regular.specs.RefusalLaws.{list_is, columns_least, mask_is, number_positive}
use Rattle.regular.specs.PlanBytes.{plan_bytes, plan_start, plan_at, plan_count, mask_in}
use Rattle.regular.specs.PlanLists.{BytesFault, of_some, records_faults, plans_faults, wanted_records_faults, wanted_plans_faults}
use Rattle.regular.specs.declared.Design.{Design}
use Rattle.regular.specs.Answers.{Admitted, number, refusal_of}
use Rattle.regular.specs.declared.Refusal.{Refusal}
use Rattle.words.specs.Short.{distinct_long}
use Rattle.words.specs.Switches.{agree_sym, short_agree, short_switched, switched_twice}
use Rattle.admission.specs.Admission.{Admission, Ready}
use Rattle.admission.specs.Faults.{columns_three, design_three}
use Rattle.plan_layout.specs.Places.{count_held, held_count}
use Rattle.plan_lists.specs.Judged.{wanted, design_wanted, columns_wanted, WantedNumber, JudgedMore, AllJudged}

-- the wanted resolution
pub wanted_is : (n r : ℕ) (s : Runs) (k : ℕ) → WantedFault n r s k → k ≡ 7
wanted_is n r s k (WantedFault.short h) = refl

-- a mask where plans must be bare
pub switch_is : (bare : Bool) (mask k : ℕ) → SwitchFault bare mask k → k ≡ 5
switch_is bare mask k (SwitchFault.some b h) = refl

switch_never : (mask k : ℕ) → SwitchFault false mask k → ⊥
switch_never mask k (SwitchFault.some b h) = false≢true b

pub switch_allowed : (bare : Bool) (mask : ℕ) → bare ≡ false → Lowest (SwitchFault bare mask) 0
switch_allowed bare mask e = subst (λ (b : Bool). Lowest (SwitchFault b mask) 0) (sym e) (lowest_none (SwitchFault false mask) (switch_never mask))

pub switch_none : (bare : Bool) (mask : ℕ) → mask ≡ 0 → Lowest (SwitchFault bare mask) 0
switch_none bare mask e = lowest_none (SwitchFault bare mask) never
  where
    never : (k : ℕ) → SwitchFault bare mask k → ⊥
    never k (SwitchFault.some b h) = h e

pub switch_some : (bare : Bool) (mask : ℕ) → bare ≡ true → (mask ≡ 0 → ⊥) → Lowest (SwitchFault bare mask) 5
switch_some bare mask b h =
    lowest_at (SwitchFault bare mask) 5 (omega arith) (SwitchFault.some b h) (λ k f. omega (arith, switch_is bare mask k f))

-- 3 is within bounds
resolution_3 : (k : ℕ) → ResolutionFault 3 k → ⊥
resolution_3 k (ResolutionFault.outside (inl h)) = omega arith
resolution_3 k (ResolutionFault.outside (inr h)) = omega arith

-- no word is shorter
pub wanted_none : (n r : ℕ) (s : Runs) → NoShort n r s → Lowest (WantedFault n r s) 0
wanted_none n r s long = lowest_none (WantedFault n r s) never
  where
    never : (k : ℕ) → WantedFault n r s k → ⊥
    never k (WantedFault.short w) = omega (arith, long w.word w.is, w.few)

-- a word is
pub wanted_short : (n r : ℕ) (s : Runs) → Short n r s → Lowest (WantedFault n r s) 7
wanted_short n r s short = lowest_at (WantedFault n r s) 7 (omega arith) (WantedFault.short short) (λ k f. omega (arith, wanted_is n r s k f))

-- nor than 3, so than less
pub wanted_low : (n r : ℕ) (s : Runs) → r ≤ 3 → NoShort n 3 s → Lowest (WantedFault n r s) 0
wanted_low n r s low long = wanted_none n r s (λ w is. omega (arith, long w is))

pub ready_long : {n g : ℕ} {a : List ℕ} → Ready n g a → NoShort n 3 (plan_of n (n - g) a)
ready_long {n} {g} {a} r =
    distinct_long n (n - g) (plan_of n (n - g) a) a (record { form = r.form; plan = record { into = λ x p. p; onto = λ x p. p } }) r.distinct

-- a refusal is passed on; an admitted plan is judged
pub passed_on : (n r : ℕ) (s : Runs) (number : ℕ) → (number ≡ 0 → ⊥) → WantedNumber n r s number number
passed_on n r s number some = record { refused = λ _. refl; admitted = λ e. absurd (some e) }

pub judges : (n r : ℕ) (s : Runs) (number k : ℕ) → number ≡ 0 → Lowest (WantedFault n r s) k → WantedNumber n r s number k
judges n r s number k e l = record { refused = λ h. absurd (omega arith); admitted = λ _. l }

-- an admitted plan
module _ {n g : ℕ} {p : Given} {x : Admitted} (ad : Admission n g p x) where
  abbrev columns : Runs
  columns = plan_of n (n - g) x.columns

  abbrev away : Runs
  away = switched x.run p.plan

  into : x.number ≡ 0 → (r j : ℕ) → WantedFault n r (plan_of n (n - g) x.columns) j → WantedFault n r p.plan j
  into e r j (WantedFault.short w) =
      WantedFault.short (short_switched n x.run p.plan r (short_agree n columns away (agree_sym away columns (ad.standard e).plan) r w))

  onto : x.number ≡ 0 → (r j : ℕ) → WantedFault n r p.plan j → WantedFault n r (plan_of n (n - g) x.columns) j
  onto e r j (WantedFault.short w) =
      let back = switched_twice x.run p.plan in
      WantedFault.short (short_agree n away columns (ad.standard e).plan r
      (short_switched n x.run away r (short_agree n p.plan (switched x.run away) (agree_sym (switched x.run away) p.plan back) r w)))

  pub judged : {r k : ℕ} → WantedNumber n r (plan_of n (n - g) x.columns) x.number k → Lowest (wanted n r p) k
  judged {r} {k} v =
      by_cases (ℕ_discrete x.number 0)
      (λ e. lowest_then p.faults (WantedFault n r p.plan) k (subst (Lowest p.faults) e ad.lowest)
      (lowest_same (WantedFault n r columns) (WantedFault n r p.plan) k (into e r) (onto e r) (v.admitted e)))
      (λ some. subst (Lowest (wanted n r p)) (sym (v.refused (omega arith)))
      (lowest_first p.faults (WantedFault n r p.plan) x.number (omega arith) ad.lowest
      (λ j f. omega (arith, wanted_is n r p.plan j f, ad.most x.number (ad.lowest.applies (omega arith))))))

-- one plan more
module _ (S : ℕ → Type 0) (fault : ℕ → ℕ → Type 0) (count lowest k : ℕ) (low : Lowest (either S (of_some (λ i. i < count) fault)) lowest)
    (j : JudgedMore (fault count) lowest k) where
  abbrev FaultsBefore : ℕ → Type 0
  FaultsBefore = either S (of_some (λ i. i < count) fault)

  abbrev FaultsAfter : ℕ → Type 0
  FaultsAfter = either S (of_some (λ i. i < suc count) fault)

  joined_into : (k : ℕ) → either FaultsBefore (fault count) k → FaultsAfter k
  joined_into k (inl (inl s)) = inl s
  joined_into k (inl (inr (i, (l, f)))) = inr (i, (omega arith, f))
  joined_into k (inr f) = inr (count, (omega arith, f))

  joined_onto : (k : ℕ) → FaultsAfter k → either FaultsBefore (fault count) k
  joined_onto k (inl s) = inl (inl s)
  joined_onto k (inr (i, (l, f))) =
      by_cases (dec_lt i count) (λ h. inl (inr (i, (h, f)))) (λ h. let e : i ≡ count = omega arith in inr (subst (λ (m : ℕ). fault m k) e f))

  pub joined : Lowest FaultsAfter k
  joined =
      lowest_same (either FaultsBefore (fault count)) FaultsAfter k joined_into joined_onto
      (lowest_lower FaultsBefore (fault count) lowest j.number k low j.own j.lower)

  pub joined_next : Lowest (either S (of_some (λ i. i < count + 1) fault)) k
  joined_next = subst (λ (c : ℕ). Lowest (either S (of_some (λ i. i < c) fault)) k) (sym (add-one count)) joined

-- the start: no plan yet
pub joined_none : (S : ℕ → Type 0) (fault : ℕ → ℕ → Type 0) (k : ℕ) → Lowest S k → Lowest (either S (of_some (λ i. i < 0) fault)) k
joined_none S fault k l = lowest_same S (either S (of_some (λ i. i < 0) fault)) k (λ j s. inl s) onto l
  where
    onto : (j : ℕ) → either S (of_some (λ i. i < 0) fault) j → S j
    onto j (inl s) = s
    onto j (inr (i, (l, f))) = absurd (omega arith)

-- all records of a list
module _ (n g r : ℕ) (bare : Bool) (list : List Design) where
  abbrev EachRecord : ℕ → ℕ → Type 0
  EachRecord count = of_some (λ i. i < count) (λ i. design_wanted n g r bare (get_or list i blank))

  records_into : (k : ℕ) → either (size_faults n g r) (EachRecord (length list)) k → wanted_records_faults n g r bare list k
  records_into k (inl (inl s)) = inl (inl s)
  records_into k (inl (inr f)) = inr (inl f)
  records_into k (inr (i, (l, inl (inl f)))) = inl (inr (i, (l, f)))
  records_into k (inr (i, (l, inl (inr f)))) = inr (inr (i, (l, inl f)))
  records_into k (inr (i, (l, inr f))) = inr (inr (i, (l, inr f)))

  records_onto : (k : ℕ) → wanted_records_faults n g r bare list k → either (size_faults n g r) (EachRecord (length list)) k
  records_onto k (inl (inl s)) = inl (inl s)
  records_onto k (inl (inr (i, (l, f)))) = inr (i, (l, inl (inl f)))
  records_onto k (inr (inl f)) = inl (inr f)
  records_onto k (inr (inr (i, (l, inl f)))) = inr (i, (l, inl (inr f)))
  records_onto k (inr (inr (i, (l, inr f)))) = inr (i, (l, inr f))

  pub records_all : (count k : ℕ) → count ≡ length list → Lowest (either (size_faults n g r) (EachRecord count)) k
      → Lowest (wanted_records_faults n g r bare list) k
  records_all count k e l =
      lowest_same (either (size_faults n g r) (EachRecord (length list))) (wanted_records_faults n g r bare list) k records_into records_onto
      (subst (λ (c : ℕ). Lowest (either (size_faults n g r) (EachRecord c)) k) e l)

-- where no resolution is taken and masks are: 3 adds nothing
pub three_records : (n g : ℕ) (list : List Design) (k : ℕ) → Lowest (wanted_records_faults n g 3 false list) k → Lowest (records_faults n g list) k
three_records n g list k = lowest_same (wanted_records_faults n g 3 false list) (records_faults n g list) k into (λ j f. inl f)
  where
    into : (j : ℕ) → wanted_records_faults n g 3 false list j → records_faults n g list j
    into j (inl f) = f
    into j (inr (inl f)) = absurd (resolution_3 j f)
    into j (inr (inr (i, (l, inl f)))) = inr (i, (l, design_three n g (get_or list i blank) j f))
    into j (inr (inr (i, (l, inr f)))) = absurd (switch_never (get_or list i blank).mask j f)

pub three_plans : (n g : ℕ) (bytes : List ℕ) (k : ℕ) → Lowest (wanted_plans_faults n g 3 false bytes) k → Lowest (plans_faults n g bytes) k
three_plans n g bytes k = lowest_same (wanted_plans_faults n g 3 false bytes) (plans_faults n g bytes) k into (λ j f. inl f)
  where
    into : (j : ℕ) → wanted_plans_faults n g 3 false bytes j → plans_faults n g bytes j
    into j (inl f) = f
    into j (inr (inl f)) = absurd (resolution_3 j f)
    into j (inr (inr (i, (l, inl f)))) = inr (inr (i, (l, columns_three n g (plan_at n bytes i) j f)))
    into j (inr (inr (i, (l, inr f)))) = absurd (switch_never (mask_in n (plan_at n bytes i)) j f)

-- plans as bytes
module _ (n g r : ℕ) (bare : Bool) (bytes : List ℕ) where
  abbrev EachPlan : ℕ → ℕ → Type 0
  EachPlan count = of_some (λ i. i < count) (λ i. columns_wanted n g r bare (plan_at n bytes i))

  -- what is not the sizes' fault has a number from 4 up
  later : (k : ℕ) → wanted_plans_faults n g r bare bytes k → size_faults n g r k ⊎ (4 ≤ k)
  later k (inl (inl s)) = inl (inl s)
  later k (inl (inr (inl (BytesFault.count h)))) = inr (omega arith)
  later k (inl (inr (inr (i, (l, inl s))))) = inl (inl s)
  later k (inl (inr (inr (i, (l, inr (inl f)))))) = inr (omega (arith, list_is (plan_bytes n) (plan_at n bytes i) k f))
  later k (inl (inr (inr (i, (l, inr (inr (inl f))))))) = inr (omega (arith, columns_least n (n - g) (plan_at n bytes i) k f))
  later k (inl (inr (inr (i, (l, inr (inr (inr f))))))) = inr (omega (arith, mask_is _ _ _ k f))
  later k (inr (inl f)) = inl (inr f)
  later k (inr (inr (i, (l, inl f)))) = inr (omega (arith, wanted_is _ _ _ k f))
  later k (inr (inr (i, (l, inr f)))) = inr (omega (arith, switch_is _ _ k f))

  pub plans_sizes : (k : ℕ) → (k ≡ 0 → ⊥) → k ≤ 3 → Lowest (size_faults n g r) k → Lowest (wanted_plans_faults n g r bare bytes) k
  plans_sizes k some low l =
      lowest_at (wanted_plans_faults n g r bare bytes) k (omega arith) (⊎_elim (λ s. inl (inl s)) (λ f. inr (inl f)) (l.applies (omega arith)))
      (λ j f. ⊎_elim (λ s. (l.least j s).1) (λ h. omega arith) (later j f))

  -- a refusal of the sizes is passed on
  pub sizes_passed_on : {A : Type 0} (e : Refusal) (a : Result A Refusal) → a ≡ Err e → number e ≤ 3 → Lowest (size_faults n g r) (number e)
      → Lowest (wanted_plans_faults n g r bare bytes) (refusal_of a)
  sizes_passed_on e a q low l = rw q (plans_sizes (number e) (λ z. omega (arith, number_positive e)) low l)

  pub plans_four : Lowest (size_faults n g r) 0 → ((count : ℕ) → length bytes ≡ plan_start n count → ⊥) → Lowest (wanted_plans_faults n g r bare bytes) 4
  plans_four l h = lowest_at (wanted_plans_faults n g r bare bytes) 4 (omega arith) (inl (inr (inl (BytesFault.count h))))
      (λ j f. ⊎_elim (λ s. absurd (none_lowest (size_faults n g r) l j s)) (λ h. h) (later j f))

  -- the turns
  pub judged_none : Lowest (size_faults n g r) 0 → AllJudged n g r bare bytes 0 0
  judged_none l = joined_none (size_faults n g r) (λ i. columns_wanted n g r bare (plan_at n bytes i)) 0 l

  pub judged_more : {i k number lowest : ℕ} {plan : List ℕ} → AllJudged n g r bare bytes i lowest → plan ≡ plan_at n bytes i
      → Lowest (columns_wanted n g r bare plan) number → Lower lowest number k → AllJudged n g r bare bytes (i + 1) k
  judged_more {i} {k} {number} {lowest} {plan} a e own low =
      joined_next (size_faults n g r) (λ j. columns_wanted n g r bare (plan_at n bytes j)) i lowest k a
      (record { number = number; own = subst (λ (c : List ℕ). Lowest (columns_wanted n g r bare c) number) e own; lower = low })

  -- all plans of bytes that are whole plans
  module _ (whole : length bytes ≡ plan_start n (plan_count n (length bytes))) (some : 1 ≤ n) where
    abbrev count : ℕ
    count = plan_count n (length bytes)

    all_into : (j : ℕ) → either (size_faults n g r) (EachPlan count) j → wanted_plans_faults n g r bare bytes j
    all_into j (inl (inl s)) = inl (inl s)
    all_into j (inl (inr f)) = inr (inl f)
    all_into j (inr (i, (l, inl (inl f)))) = inl (inr (inr (i, (count_held n (length bytes) i l, f))))
    all_into j (inr (i, (l, inl (inr f)))) = inr (inr (i, (count_held n (length bytes) i l, inl f)))
    all_into j (inr (i, (l, inr f))) = inr (inr (i, (count_held n (length bytes) i l, inr f)))

    all_onto : (j : ℕ) → wanted_plans_faults n g r bare bytes j → either (size_faults n g r) (EachPlan count) j
    all_onto j (inl (inl s)) = inl (inl s)
    all_onto j (inl (inr (inl (BytesFault.count h)))) = absurd (h count whole)
    all_onto j (inl (inr (inr (i, (l, f))))) = inr (i, (held_count n (length bytes) i some l, inl (inl f)))
    all_onto j (inr (inl f)) = inl (inr f)
    all_onto j (inr (inr (i, (l, inl f)))) = inr (i, (held_count n (length bytes) i some l, inl (inr f)))
    all_onto j (inr (inr (i, (l, inr f)))) = inr (i, (held_count n (length bytes) i some l, inr f))

    pub judged_all : (k : ℕ) → AllJudged n g r bare bytes count k → Lowest (wanted_plans_faults n g r bare bytes) k
    judged_all k a = lowest_same (either (size_faults n g r) (EachPlan count)) (wanted_plans_faults n g r bare bytes) k all_into all_onto a
