-- The filling of a lent list with the entries of a book that is taken.
use Rattle.std.specs.Prelude.{ℕ, suc, ◌+◌, ◌-◌, ◌^◌, ◌≤◌, ◌<◌, ◌≡◌, refl, List, length, get_or, drop, set}
use Rattle.std.proofs.Common.{sym, ap, ap₂, subst, ◌∙◌, add-one, arith, length-set, length-take, get_or-set_same, get_or-set_other, drop-set-lt, drop-drop}
use Rattle.std.proofs.Math.Logic.{by_cases}
use Rattle.std.proofs.Math.Decide.{ℕ_discrete}
use Rattle.std.proofs.Math.ListN.{get_or-eq_default}
use Rattle.regular.specs.Book.{book_length, most_plans, entry_of_columns}
use Rattle.regular.specs.Designs.{Holds, design_of, blank}
use Rattle.regular.specs.PlanBytes.{plan_bytes, plan_start, plan_at, HasPlan, mask_in}
use Rattle.regular.specs.Reading.{Reading, columns_in}
use Rattle.regular.specs.ReadingAnswers.{Taken, Reads, places_of, ReadsPlans, ReadsDesigns}
use Rattle.regular.specs.Smallest.{Equal, Entry}
use Rattle.regular.specs.declared.Design.{Design}
use Rattle.regular.specs.declared.ReadAnswer.{ReadAnswer}
use Rattle.plan_layout.specs.Places.{start_first, start_next, start_order}
use Rattle.plan_layout.specs.Put.{PlanPut}
use Rattle.reading_laws.specs.Taken.{entries_of, read_room, read_taken, taken_like}
use Rattle.reading.specs.Answers.{Answered, DesignIn}
use Rattle.reading.specs.AnswerLaws.{said, not_refused, taken_reading}

-- the place after all bytes fits
pub plans_fit : (n count : ℕ) → n < 256 → count ≤ most_plans → plan_start n count < 2 ^ 64
plans_fit n count h l = omega (arith, start_order n count most_plans l)

-- the first i entries stand in the list, from `before`; `columns n now j` are those of entry j in it
pub record FilledEntries {A : Type 0} (takes : ℕ → ℕ → ℕ) (columns : ℕ → List A → ℕ → List ℕ) (a : ReadAnswer) (book : List ℕ) (before now : List A)
    (i : ℕ) : Type 0 where
  pub within : i ≤ a.count
  pub entries : (j : ℕ) → j < i → Equal a.factors (columns_in a.factors book j) (columns a.factors now j)
  pub rest : drop (takes a.factors i) now ≡ drop (takes a.factors i) before
  pub size : length now ≡ length before

-- all of them: the book is read
filled_reads : {A : Type 0} (takes : ℕ → ℕ → ℕ) (columns : ℕ → List A → ℕ → List ℕ) → ((n : ℕ) → takes n 0 ≡ 0) → (a : ReadAnswer) (book : List ℕ)
    (before now : List A) → Answered (Reading takes (length before) book) book a → (i : ℕ) → a.count ≤ i → FilledEntries takes columns a book before now i
    → Reads takes (λ n g list i. entry_of_columns n g (columns n list i)) book before now a
filled_reads takes columns first a book before now x i all f = record {
  number = x.number;
  refused = λ h. (x.refused h, untouched (ap (λ (b : ReadAnswer). b.count) (x.refused h)));
  taken = λ e. taken_like a.factors a.generators a.resolution a.count (columns_in a.factors book) (columns a.factors now) book
      (λ j h. f.entries j (omega (arith, same)))
      (said x e (λ n g r count. Taken n g r count (entries_of n g (columns_in n book)) book)
      (read_taken takes (length before) book (taken_reading takes (length before) book a x e) (x.low e)));
  room = λ e. said x e (λ n _ _ count. takes n count ≤ length before) (read_room takes (length before) book (taken_reading takes (length before) book a x e));
  rest = subst (λ (k : ℕ). drop (takes a.factors k) now ≡ drop (takes a.factors k) before) same f.rest;
  size = f.size;
}
  where
    same : i ≡ a.count
    same = omega (arith, f.within)

    untouched : a.count ≡ 0 → now ≡ before
    untouched e = subst (λ (k : ℕ). drop k now ≡ drop k before) (ap (takes a.factors) (same ∙ e) ∙ first a.factors) f.rest

-- past its columns an entry has none
past_columns : (n : ℕ) (book : List ℕ) (i f : ℕ) → n ≤ f → get_or (columns_in n book i) f 0 ≡ 0
past_columns n book i f h = get_or-eq_default (columns_in n book i) 0 (omega (arith, length-take n (drop (suc (book_length n i)) book)))

-- in a list of bytes, without switches
pub record FilledPlans (a : ReadAnswer) (book before now : List ℕ) (i : ℕ) : Type 0 where
  pub filled : FilledEntries plan_start plan_at a book before now i
  pub unswitched : (j : ℕ) → j < i → mask_in a.factors (plan_at a.factors now j) ≡ 0

module _ (a : ReadAnswer) (book before now : List ℕ) (i : ℕ) (x : Answered (Reading plan_start (length before) book) book a)
    (f : FilledPlans a book before now i) (h : i < a.count) where
  -- there are bytes for entry i
  pub plan_room : HasPlan a.factors now i
  plan_room =
      let e = not_refused plan_start (length before) book a x i h in
      let all = said x e (λ n _ _ count. plan_start n count ≤ length before)
      (read_room plan_start (length before) book (taken_reading plan_start (length before) book a x e)) in
      omega (arith, all, f.filled.size, start_order a.factors (suc i) a.count h)

  later : drop (plan_start a.factors (suc i)) now ≡ drop (plan_start a.factors (suc i)) before
  later =
      let n = a.factors in
      let k = plan_start n i in
      ap (λ (j : ℕ). drop j now) (start_next n i) ∙ sym (drop-drop (plan_bytes n) k now) ∙ ap (drop (plan_bytes n)) f.filled.rest
      ∙ drop-drop (plan_bytes n) k before ∙ ap (λ (j : ℕ). drop j before) (sym (start_next n i))

  pub plan_more : {n : ℕ} {columns after : List ℕ} → n ≡ a.factors → Equal n columns (columns_in n book i) → PlanPut n columns 0 i now after
      → FilledPlans a book before after (i + 1)
  plan_more {n} {columns} {after} is same put = more (subst (λ (n : ℕ). Equal n columns (columns_in n book i)) is same)
      (subst (λ (n : ℕ). PlanPut n columns 0 i now after) is put)
    where
      more : Equal a.factors columns (columns_in a.factors book i) → PlanPut a.factors columns 0 i now after → FilledPlans a book before after (i + 1)
      more e p = record {
        filled = record {
          within = omega arith;
          entries = λ j l. by_cases (ℕ_discrete j i)
              (λ q. subst (λ (k : ℕ). Equal a.factors (columns_in a.factors book k) (plan_at a.factors after k)) (sym q)
              (λ g b. sym (p.plan g b ∙ e g b)))
              (λ ne. subst (Equal a.factors (columns_in a.factors book j)) (sym (p.earlier j (omega arith))) (f.filled.entries j (omega arith)));
          rest = subst (λ (k : ℕ). drop (plan_start a.factors k) after ≡ drop (plan_start a.factors k) before) (sym (add-one i)) (p.rest ∙ later);
          size = p.size ∙ f.filled.size;
        };
        unswitched = λ j l. by_cases (ℕ_discrete j i) (λ q. ap (λ (k : ℕ). mask_in a.factors (plan_at a.factors after k)) q ∙ p.mask)
            (λ ne. ap (mask_in a.factors) (p.earlier j (omega arith)) ∙ f.unswitched j (omega arith));
      }

pub filled_no_plans : (a : ReadAnswer) (book before : List ℕ) → FilledPlans a book before before 0
filled_no_plans a book before = record {
  filled = record { within = omega arith; entries = λ j h. absurd (omega arith); rest = refl; size = refl };
  unswitched = λ j h. absurd (omega arith);
}

pub plans_read_lem : (a : ReadAnswer) (book before now : List ℕ) → Answered (Reading plan_start (length before) book) book a → (i : ℕ) → a.count ≤ i
    → FilledPlans a book before now i → ReadsPlans book before now a
plans_read_lem a book before now x i all f = record {
  reads = filled_reads plan_start plan_at start_first a book before now x i all f.filled;
  unswitched = λ j h. f.unswitched j (omega arith);
}

-- in a list of design records
pub record FilledDesigns (a : ReadAnswer) (book : List ℕ) (before now : List Design) (i : ℕ) : Type 0 where
  pub within : i ≤ a.count
  pub entries : (j : ℕ) → j < i → DesignIn a book j (get_or now j blank)
  pub rest : drop i now ≡ drop i before
  pub size : length now ≡ length before

module _ (book : List ℕ) (ys : List Design) (a : ReadAnswer) (x : Answered (Reading places_of (length ys) book) book a) where
  -- none
  pub filled_none : FilledDesigns a book ys ys 0
  filled_none = record { within = omega arith; entries = λ j h. absurd (omega arith); rest = refl; size = refl }

  -- there is a place for entry i
  pub filled_place : (i : ℕ) → i < a.count → i < length ys
  filled_place i h =
      let e = not_refused places_of (length ys) book a x i h in
      omega (arith, said x e (λ _ _ _ count. count ≤ length ys) (read_room places_of (length ys) book (taken_reading places_of (length ys) book a x e)))

  -- one more
  pub filled_more : (i : ℕ) (zs : List Design) (d : Design) → FilledDesigns a book ys zs i → i < a.count → DesignIn a book i d
      → FilledDesigns a book ys (set zs i d) (i + 1)
  filled_more i zs d f h e = record {
    within = omega arith;
    entries = λ j l. by_cases (ℕ_discrete j i)
        (λ q. subst (λ (k : ℕ). DesignIn a book k (get_or (set zs i d) k blank)) (sym q)
        (subst (DesignIn a book i) (sym (get_or-set_same zs i d blank (omega (arith, f.size, filled_place i h)))) e))
        (λ ne. subst (DesignIn a book j) (sym (get_or-set_other zs i j d blank ne)) (f.entries j (omega arith)));
    rest = drop-set-lt (i + 1) zs i d (omega arith) ∙ sym (drop-drop 1 i zs) ∙ ap (drop 1) f.rest ∙ drop-drop 1 i ys;
    size = length-set zs i d ∙ f.size;
  }

  -- all
  pub filled_all : (i : ℕ) (zs : List Design) → a.count ≤ i → FilledDesigns a book ys zs i → ReadsDesigns book ys zs a
  filled_all i zs h f = record { reads = reads; records = λ j l. holds j l }
    where
      reads : Reads places_of (λ n g list j. entry_of_columns n g (get_or list j blank).columns) book ys zs a
      reads = filled_reads places_of (λ _ list j. (get_or list j blank).columns) (λ n. refl) a book ys zs x i h (record {
        within = f.within;
        entries = λ j l g _. sym ((f.entries j l).columns g);
        rest = f.rest;
        size = f.size;
      })

      holds : (j : ℕ) → j < a.count → Holds a.factors (a.factors - a.generators)
          (Entry a.factors (a.factors - a.generators) a.resolution) (get_or zs j blank)
      holds j l =
          let d = f.entries j (omega arith) in
          record {
            factors = d.factors;
            basics = d.basics;
            columns = (reads.taken (not_refused places_of (length ys) book a x j l)).entries j l;
            unused = λ g past _. d.columns g ∙ past_columns a.factors book j g past;
            unswitched = d.unswitched;
          }

-- the record of entry i, as it is made
pub design_made : (a : ReadAnswer) (book : List ℕ) (i n g : ℕ) (c columns : List ℕ) (d : Design) → (n ≡ a.factors) × (g ≡ a.generators)
    → c ≡ columns_in n book i → ((f : ℕ) → get_or columns f 0 ≡ get_or c f 0) → d ≡ design_of n (n - g) columns → DesignIn a book i d
design_made a book i n g c columns d sizes e same is = record {
  factors = ap (λ (x : Design). x.factors) is ∙ sizes.0;
  basics = ap (λ (x : Design). x.basics) is ∙ ap₂ ◌-◌ sizes.0 sizes.1;
  columns = λ f. ap (λ (x : Design). get_or x.columns f 0) is ∙ same f ∙ ap (λ (l : List ℕ). get_or l f 0) e
      ∙ ap (λ (k : ℕ). get_or (columns_in k book i) f 0) sizes.0;
  unswitched = ap (λ (x : Design). x.mask) is;
}
