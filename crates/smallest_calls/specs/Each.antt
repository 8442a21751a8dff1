-- Several plans one after another, brought to their smallest forms one after another.
use Rattle.std.specs.Prelude.{ℕ, suc, ◌+◌, ◌-◌, ◌≤◌, ◌<◌, ◌≡◌, refl, List, ◌++◌, length, get_or, take, drop}
use Rattle.std.proofs.Common.{sym, ap, subst, ◌∙◌, inl, inr, add-one, arith, length-append}
use Rattle.std.proofs.Common.{length-drop, length-take-le, take_at, drop_at, drop-drop, get_or-take, get_or-drop, ext_get_or}
use Rattle.std.proofs.Math.Logic.{by_cases}
use Rattle.std.proofs.Math.Decide.{ℕ_discrete}
use Rattle.std.proofs.Math.ListN.{get_or-append}
use Rattle.regular.specs.Given.{of_columns}
use Rattle.regular.specs.PlanBytes.{plan_bytes, plan_start, plan_at, HasPlan, plan_count, mask_in}
use Rattle.regular.specs.PlanLists.{plans_faults}
use Rattle.regular.specs.Refusals.{Lowest, columns_faults}
use Rattle.regular.specs.Accepted.{accepted_size}
use Rattle.regular.specs.RefusalLaws.{lowest_none, none_lowest}
use Rattle.regular.specs.SmallestAnswers.{Formed, ReducesEach, each_faults}
use Rattle.plan_layout.specs.Places.{start_first, start_next, start_order, count_held, held_count, plan_size}

-- the smallest form of the plan, without switches, and a witness to it, its names and its mask, in lists of a plan's places
pub record ReducedForm (n g : ℕ) (plan filled exit : List ℕ) : Type 0 where
  pub form : Formed n (n - g) (of_columns n g plan) filled exit (mask_in n exit)
  pub unswitched : mask_in n filled ≡ 0
  pub size : (length filled ≡ plan_bytes n) × (length exit ≡ plan_bytes n)

-- .. of each of the first `count` plans, the lists being untouched past them
pub record ReducedTo (n g : ℕ) (plans : List ℕ) (count : ℕ) (out filled entry exit : List ℕ) : Type 0 where
  pub within : plan_start n count ≤ length plans
  pub each : (i : ℕ) → i < count → ReducedForm n g (plan_at n plans i) (plan_at n filled i) (plan_at n exit i)
  pub rest : (drop (plan_start n count) filled ≡ drop (plan_start n count) out) × (drop (plan_start n count) exit ≡ drop (plan_start n count) entry)
  pub size : (length filled ≡ length out) × (length exit ≡ length entry)

-- lists that agree from a place on agree from a later place on
farther : (a b : ℕ) (xs ys : List ℕ) → a ≤ b → drop a xs ≡ drop a ys → drop b xs ≡ drop b ys
farther a b xs ys h e =
    let k : a + (b - a) ≡ b = omega arith in
    subst (λ (j : ℕ). drop j xs ≡ drop j ys) k (sym (drop-drop (b - a) a xs) ∙ ap (drop (b - a)) e ∙ drop-drop (b - a) a ys)

-- zs is xs with the list ys at the k places from base on
abbrev splice : ℕ → ℕ → List ℕ → List ℕ → List ℕ
splice base k xs ys = take base xs ++ (ys ++ drop k (drop base xs))

module _ (base k : ℕ) (xs ys : List ℕ) (fits : base + k ≤ length xs) (whole : length ys ≡ k) where
  before : length (take base xs) ≡ base
  before = length-take-le base xs (omega arith)

  splice_size : length (splice base k xs ys) ≡ length xs
  splice_size =
      length-append (take base xs) (ys ++ drop k (drop base xs))
      ∙ omega (arith, before, whole, length-append ys (drop k (drop base xs)), length-drop k (drop base xs), length-drop base xs)

  splice_low : (j : ℕ) → j < base → get_or (splice base k xs ys) j 0 ≡ get_or xs j 0
  splice_low j h = get_or-append (take base xs) (ys ++ drop k (drop base xs)) 0 j (omega (arith, before)) ∙ get_or-take base xs j 0 h

  splice_tail : drop base (splice base k xs ys) ≡ ys ++ drop k (drop base xs)
  splice_tail = drop_at (take base xs) (ys ++ drop k (drop base xs)) base before

  splice_part : take k (drop base (splice base k xs ys)) ≡ ys
  splice_part = ap (take k) splice_tail ∙ take_at ys (drop k (drop base xs)) k whole

  splice_rest : drop (base + k) (splice base k xs ys) ≡ drop (base + k) xs
  splice_rest = sym (drop-drop k base (splice base k xs ys)) ∙ ap (drop k) splice_tail ∙ drop_at ys (drop k (drop base xs)) k whole ∙ drop-drop k base xs

-- a list of a plan's places, put at those of plan i: plan i is that list, and the plans before it and the places after it are as they were
module _ (n i : ℕ) (xs ys : List ℕ) (there : HasPlan n xs i) (whole : length ys ≡ plan_bytes n) where
  abbrev put : List ℕ
  put = splice (plan_start n i) (plan_bytes n) xs ys

  fits : plan_start n i + plan_bytes n ≤ length xs
  fits = omega (arith, there, start_next n i)

  put_size : length put ≡ length xs
  put_size = splice_size (plan_start n i) (plan_bytes n) xs ys fits whole

  put_plan_lem : plan_at n put i ≡ ys
  put_plan_lem = splice_part (plan_start n i) (plan_bytes n) xs ys fits whole

  put_earlier : (j : ℕ) → j < i → plan_at n put j ≡ plan_at n xs j
  put_earlier j h =
      let under : plan_start n (suc j) ≤ plan_start n i = start_order n (suc j) i h in
      let p = plan_size n put j (omega (arith, under, fits, put_size)) in
      ext_get_or 0 (plan_at n put j) (plan_at n xs j) (p ∙ sym (plan_size n xs j (omega (arith, under, fits))))
      (λ f l. let inside : f < plan_bytes n = omega (arith, l, p) in
      get_or-take (plan_bytes n) (drop (plan_start n j) put) f 0 inside ∙ get_or-drop (plan_start n j) put f 0
      ∙ splice_low (plan_start n i) (plan_bytes n) xs ys fits whole (plan_start n j + f) (omega (arith, inside, under, start_next n j))
      ∙ sym (get_or-take (plan_bytes n) (drop (plan_start n j) xs) f 0 inside ∙ get_or-drop (plan_start n j) xs f 0))

  put_rest : drop (plan_start n (suc i)) put ≡ drop (plan_start n (suc i)) xs
  put_rest = subst (λ (k : ℕ). drop k put ≡ drop k xs) (sym (start_next n i)) (splice_rest (plan_start n i) (plan_bytes n) xs ys fits whole)

-- accepted plans
module _ (n g : ℕ) (plans : List ℕ) (low : Lowest (plans_faults n g plans) 0) where
  pub plans_some : 1 ≤ n
  plans_some = (accepted_size n g (λ k f. none_lowest (plans_faults n g plans) low k (inl f))).some

  plan_accepted : (i : ℕ) → HasPlan n plans i → Lowest (columns_faults n g (plan_at n plans i)) 0
  plan_accepted i h = lowest_none (columns_faults n g (plan_at n plans i)) (λ k f. none_lowest (plans_faults n g plans) low k (inr (inr (i, (h, f)))))

  module _ (out entry : List ℕ) (room : length plans ≤ length out) (place : length plans ≤ length entry) where
    pub reduced_none : ReducedTo n g plans 0 out out entry entry
    reduced_none = record { within = omega (arith, start_first n); each = λ i h. absurd (omega arith); rest = (refl, refl); size = (refl, refl) }

    module _ (i : ℕ) (filled exit : List ℕ) (t : ReducedTo n g plans i out filled entry exit) (h : i < plan_count n (length plans)) where
      -- the next plan and its places in both lists
      pub reduced_there : HasPlan n plans i
      reduced_there = count_held n (length plans) i h

      pub reduced_fits : HasPlan n filled i × HasPlan n exit i
      reduced_fits = (omega (arith, reduced_there, room, t.size.0), omega (arith, reduced_there, place, t.size.1))

      -- its form and a witness, put there
      module _ (form names : List ℕ) (r : ReducedForm n g (plan_at n plans i) form names) where
        abbrev forms_after : List ℕ
        forms_after = splice (plan_start n i) (plan_bytes n) filled form

        abbrev names_after : List ℕ
        names_after = splice (plan_start n i) (plan_bytes n) exit names

        next : plan_start n i ≤ plan_start n (suc i)
        next = start_order n i (suc i) (omega arith)

        last : (j : ℕ) → j ≡ i → ReducedForm n g (plan_at n plans j) (plan_at n forms_after j) (plan_at n names_after j)
        last j q =
            subst (λ (k : ℕ). ReducedForm n g (plan_at n plans k) (plan_at n forms_after k) (plan_at n names_after k)) (sym q)
            (subst (λ (c : List ℕ). ReducedForm n g (plan_at n plans i) c (plan_at n names_after i))
            (sym (put_plan_lem n i filled form reduced_fits.0 r.size.0))
            (subst (ReducedForm n g (plan_at n plans i) form) (sym (put_plan_lem n i exit names reduced_fits.1 r.size.1)) r))

        earlier : (j : ℕ) → j < i → ReducedForm n g (plan_at n plans j) (plan_at n forms_after j) (plan_at n names_after j)
        earlier j l =
            let e = put_earlier n i filled form reduced_fits.0 r.size.0 j l in
            let f = put_earlier n i exit names reduced_fits.1 r.size.1 j l in
            subst (λ (c : List ℕ). ReducedForm n g (plan_at n plans j) c (plan_at n names_after j)) (sym e)
            (subst (ReducedForm n g (plan_at n plans j) (plan_at n filled j)) (sym f) (t.each j l))

        reduced_more : ReducedTo n g plans (suc i) out forms_after entry names_after
        reduced_more = record {
          within = reduced_there;
          each = λ j l. by_cases (ℕ_discrete j i) (last j) (λ ne. earlier j (omega arith));
          rest = (
            put_rest n i filled form reduced_fits.0 r.size.0 ∙ farther (plan_start n i) (plan_start n (suc i)) filled out next t.rest.0,
            put_rest n i exit names reduced_fits.1 r.size.1 ∙ farther (plan_start n i) (plan_start n (suc i)) exit entry next t.rest.1,
          );
          size = (put_size n i filled form reduced_fits.0 r.size.0 ∙ t.size.0, put_size n i exit names reduced_fits.1 r.size.1 ∙ t.size.1);
        }

      -- a turn, on the places from the plan's start to its end
      module _ (start end : ℕ) (s : start ≡ plan_start n i) (e : end ≡ plan_start n (i + 1)) where
        turn_size : end - start ≡ plan_bytes n
        turn_size = omega (arith, s, e, start_next n i, ap (plan_start n) (add-one i))

        turn_part : (xs : List ℕ) → take (end - start) (drop start xs) ≡ plan_at n xs i
        turn_part xs = ap (λ (k : ℕ). take k (drop start xs)) turn_size ∙ ap (λ (k : ℕ). take (plan_bytes n) (drop k xs)) s

        pub turn_columns : Lowest (columns_faults n g (take (end - start) (drop start plans))) 0
        turn_columns = subst (λ (c : List ℕ). Lowest (columns_faults n g c) 0) (sym (turn_part plans)) (plan_accepted i reduced_there)

        pub turn_place : (xs : List ℕ) → HasPlan n xs i → length (take (end - start) (drop start xs)) ≡ plan_bytes n
        turn_place xs there = ap length (turn_part xs) ∙ plan_size n xs i there

        pub turn_more : (form names : List ℕ) → ReducedForm n g (take (end - start) (drop start plans)) form names
            → ReducedTo n g plans (i + 1) out (splice start (end - start) filled form) entry (splice start (end - start) exit names)
        turn_more form names r =
            subst (λ (j : ℕ). ReducedTo n g plans j out (splice start (end - start) filled form) entry (splice start (end - start) exit names))
            (sym (add-one i))
            (subst (λ (k : ℕ). ReducedTo n g plans (suc i) out (splice start k filled form) entry (splice start k exit names)) (sym turn_size)
            (subst (λ (b : ℕ). ReducedTo n g plans (suc i) out (splice b (plan_bytes n) filled form) entry (splice b (plan_bytes n) exit names))
            (sym s)
            (reduced_more form names (subst (λ (c : List ℕ). ReducedForm n g c form names) (turn_part plans) r))))

-- the call's answer
pub each_refused : (n g : ℕ) (plans out entry : List ℕ) (k : ℕ) → (k ≡ 0 → ⊥) → Lowest (each_faults n g plans out entry) k
    → ReducesEach n g plans out out entry entry k
each_refused n g plans out entry k some low = record {
  lowest = low;
  untouched = λ _. (refl, refl);
  form = λ e. absurd (some e);
  unswitched = λ e. absurd (some e);
  past = λ e. absurd (some e);
  size = (refl, refl);
}

pub each_reduced : (n g : ℕ) (plans out filled entry exit : List ℕ) → 1 ≤ n → Lowest (each_faults n g plans out entry) 0
    → ReducedTo n g plans (plan_count n (length plans)) out filled entry exit → ReducesEach n g plans out filled entry exit 0
each_reduced n g plans out filled entry exit some low t = record {
  lowest = low;
  untouched = λ h. absurd (omega arith);
  form = λ _ i h. (t.each i (held_count n (length plans) i some h)).form;
  unswitched = λ _ i h. (t.each i (held_count n (length plans) i some h)).unswitched;
  past = λ _.
      let k = plan_start n (plan_count n (length plans)) in
      (farther k (length plans) filled out t.within t.rest.0, farther k (length plans) exit entry t.within t.rest.1);
  size = t.size;
}
