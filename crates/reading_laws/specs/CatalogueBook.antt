-- The book of a catalogue: listed as bytes, it can be handed to the writer as it is; and listed, written and read, a catalogue comes back as it was.
use Rattle.std.specs.Prelude.{ℕ, ◌-◌, ◌≤◌, ◌<◌, true, ◌≡◌, refl, List, length, get_or, take}
use Rattle.std.proofs.Common.{sym, ap, subst, ◌∙◌, inl, arith, length-take-le, get_or-take}
use Rattle.regular.specs.Accepted.{accepted_sizes}
use Rattle.regular.specs.Designs.{blank}
use Rattle.regular.specs.Refusals.{Lowest}
use Rattle.regular.specs.RefusalLaws.{none_lowest}
use Rattle.regular.specs.PlanBytes.{plan_start, plan_at, plan_count}
use Rattle.regular.specs.PlanLists.{wanted_plans_faults}
use Rattle.regular.specs.Smallest.{Equal, Catalogue}
use Rattle.regular.specs.Book.{book_faults, book_length, most_plans, WritesPlans, WritesDesigns}
use Rattle.regular.specs.Catalogues.{catalogue_faults, ListsBytes, ListsDesigns}
use Rattle.regular.specs.ReadingAnswers.{ReadsPlans, ReadsDesigns}
use Rattle.regular.specs.declared.Design.{Design}
use Rattle.regular.specs.declared.ReadAnswer.{ReadAnswer}
use Rattle.plan_lists.specs.Accepted.{plans_accepted}
use Rattle.smallest_laws.specs.Dictionary.{equal_sym}
use Rattle.smallest_laws.specs.Growth.{entry_equal}
use Rattle.reading_laws.specs.Taken.{before_like}
use Rattle.reading_laws.specs.Lists.{front_plan, front_mask, front_count}
use Rattle.reading_laws.specs.Accepted.{plans_faultless, writer_takes}
use Rattle.reading_laws.specs.WriteRead.{EntriesRise, writer_accepts, AsWritten, write_read_plans, FullColumns, write_read_designs}

-- a catalogue's entries rise, in whichever list they stand
module _ {n m r count : ℕ} {columns : ℕ → List ℕ} (c : Catalogue n m r count columns) where
  catalogue_rises : (others : ℕ → List ℕ) → ((i : ℕ) → i < count → Equal n (others i) (columns i)) → EntriesRise n m r count others
  catalogue_rises others same = record {
    entries = λ i h. entry_equal n m (columns i) (others i) (back i h) r (c.sound i h);
    rising = λ i j h l. before_like n (columns i) (columns j) (others i) (others j) (back i (omega arith)) (back j l) (c.order i j h l);
  }
    where
      back : (i : ℕ) → i < count → Equal n (columns i) (others i)
      back i h = equal_sym n (others i) (columns i) (same i h)

-- the writer takes a catalogue's bytes, where the header can count its entries and the bytes of the book have room
pub catalogue_taken_plans : (n g r count : ℕ) (lent list : List ℕ) → ListsBytes n g r lent list 0 count
    → (out : List ℕ) → count ≤ most_plans → book_length n count ≤ length out
    → Lowest (book_faults (wanted_plans_faults n g r true (take (plan_start n count) list)) n (plan_count n (length (take (plan_start n count) list))) out) 0
catalogue_taken_plans n g r count lent list c out few room =
    let fits : plan_start n count ≤ length list = omega (arith, c.catalogues.fits refl, c.size) in
    let sized = accepted_sizes n g r (λ k f. none_lowest (catalogue_faults n g r (λ k. plan_start n k ≤ length lent)) c.catalogues.lowest k (inl f)) in
    let plans : List ℕ = take (plan_start n count) list in
    let counted : plan_count n (length plans) ≡ count = front_count n count list sized.size.some fits in
    let inside : (i : ℕ) → i < plan_count n (length plans) → i < count = λ i h. omega (arith, counted) in
    writer_takes (wanted_plans_faults n g r true plans) n (plan_count n (length plans)) out
    (plans_faultless n g r count plans sized (length-take-le (plan_start n count) list fits)
    (λ i h. entry_equal n (n - g) (plan_at n list i) (plan_at n plans i)
    (equal_sym n (plan_at n plans i) (plan_at n list i) (front_plan n count list i (inside i h))) r ((c.catalogues.whole refl).sound i (inside i h)))
    (λ i h. front_mask n count list i (inside i h) ∙ c.unswitched i (inside i h)))
    (omega (arith, counted)) (subst (λ (k : ℕ). book_length n k ≤ length out) (sym counted) room)

-- as bytes
pub catalogue_read_plans : (n g r count : ℕ) (lent list : List ℕ) → ListsBytes n g r lent list 0 count
    → (out exit : List ℕ) (used : ℕ) → WritesPlans n g r (take (plan_start n count) list) out exit 0 used
    → (before after : List ℕ) (a : ReadAnswer) → ReadsPlans (take used exit) before after a → plan_start n count ≤ length before
    → AsWritten n g r count a × (take (plan_start n count) after ≡ take (plan_start n count) list)
catalogue_read_plans n g r count lent list c out exit used w before after a rd room =
    let fits : plan_start n count ≤ length list = omega (arith, c.catalogues.fits refl, c.size) in
    let plans : List ℕ = take (plan_start n count) list in
    let long : length plans ≡ plan_start n count = length-take-le (plan_start n count) list fits in
    let ok = plans_accepted n g r plans (writer_accepts (wanted_plans_faults n g r true plans) n (plan_count n (length plans)) out w.lowest) in
    let counted : plan_count n (length plans) ≡ count = front_count n count list ok.bounds.size.some fits in
    let x : EntriesRise n (n - g) r (plan_count n (length plans)) (plan_at n plans) =
    subst (λ (k : ℕ). EntriesRise n (n - g) r k (plan_at n plans)) (sym counted)
    (catalogue_rises (c.catalogues.whole refl) (plan_at n plans) (front_plan n count list)) in
    let back = write_read_plans n g r plans out exit used w x before after a rd (omega (arith, long)) in
    (subst (λ (k : ℕ). AsWritten n g r k a) counted back.0, ap (λ (k : ℕ). take k after) (sym long) ∙ back.1)

-- as design records
pub catalogue_read_designs : (n g r count : ℕ) (lent list : List Design) → ListsDesigns n g r lent list 0 count
    → (out exit : List ℕ) (used : ℕ) → WritesDesigns n g r (take count list) out exit 0 used
    → (before after : List Design) (a : ReadAnswer) → ReadsDesigns (take used exit) before after a → count ≤ length before
    → FullColumns count list → FullColumns count after → AsWritten n g r count a × (take count after ≡ take count list)
catalogue_read_designs n g r count lent list c out exit used w before after a rd room full also =
    let own : List Design = take count list in
    let long : length own ≡ count = length-take-le count list (omega (arith, c.catalogues.fits refl, c.size)) in
    let here : (i : ℕ) → i < count → get_or own i blank ≡ get_or list i blank = λ i h. get_or-take count list i blank h in
    let x : EntriesRise n (n - g) r (length own) (λ i. (get_or own i blank).columns) =
    subst (λ (k : ℕ). EntriesRise n (n - g) r k (λ i. (get_or own i blank).columns)) (sym long)
    (catalogue_rises (c.catalogues.whole refl) (λ i. (get_or own i blank).columns)
    (λ i h f l. ap (λ (d : Design). get_or d.columns f 0) (here i h))) in
    let back = write_read_designs n g r own out exit used w x before after a rd (omega (arith, long))
    (λ i h. let l : i < count = omega (arith, long) in ap (λ (d : Design). length d.columns) (here i l) ∙ full i l)
    (λ i h. also i (omega (arith, long))) in
    (subst (λ (k : ℕ). AsWritten n g r k a) long back.0, ap (λ (k : ℕ). take k after) (sym long) ∙ back.1)
