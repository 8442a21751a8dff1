-- Write, then read: entries that rise and were written are read back as they were.
use Rattle.std.specs.Prelude.{ℕ, ◌-◌, ◌≤◌, ◌<◌, true, ◌≡◌, refl, List, length, get_or, take}
use Rattle.std.proofs.Common.{sym, ap, subst, subst₂, ◌∙◌, arith}
use Rattle.std.proofs.Math.Seq.{take-length}
use Rattle.regular.specs.Sizes.{Sized}
use Rattle.regular.specs.Designs.{Holds, blank}
use Rattle.regular.specs.Refusals.{LentFault, either, Lowest}
use Rattle.regular.specs.GivenLaws.{lowest_left}
use Rattle.regular.specs.PlanBytes.{plan_start, plan_at, plan_count, mask_in}
use Rattle.regular.specs.PlanLists.{wanted_records_faults, wanted_plans_faults}
use Rattle.regular.specs.Smallest.{Before, Equal, Entry}
use Rattle.regular.specs.Book.{book_length, book_faults, CountFault, entry_of_columns, Writes, WritesPlans, WritesDesigns}
use Rattle.regular.specs.Reading.{columns_in}
use Rattle.regular.specs.ReadingAnswers.{Taken, Reads, ReadsPlans, places_of, ReadsDesigns}
use Rattle.regular.specs.declared.Design.{Design}
use Rattle.regular.specs.declared.ReadAnswer.{ReadAnswer}
use Rattle.plan_layout.specs.Places.{count_held}
use Rattle.plan_lists.specs.Accepted.{records_accepted, plans_accepted}
use Rattle.smallest_laws.specs.Dictionary.{equal_sym, equal_trans}
use Rattle.reading_laws.specs.Number.{reading_one}
use Rattle.reading_laws.specs.Places.{book_header, book_columns}
use Rattle.reading_laws.specs.Taken.{entries_of, taken_read}
use Rattle.reading_laws.specs.Lists.{plans_same, accepted_holds, designs_equal, designs_same}

-- entries that rise strictly
pub record EntriesRise (n m r count : ℕ) (columns : ℕ → List ℕ) : Type 0 where
  pub entries : (i : ℕ) → i < count → Entry n m r (columns i)
  pub rising : (i j : ℕ) → i < j → j < count → Before n (columns i) (columns j)

-- what was accepted by the writer
pub writer_accepts : (faults : ℕ → Type 0) (n count : ℕ) (out : List ℕ) → Lowest (book_faults faults n count out) 0 → Lowest faults 0
writer_accepts faults n count out l =
    lowest_left faults (CountFault count) (lowest_left (either faults (CountFault count)) (LentFault (book_length n count) out) l)

-- the book of a list that was written, whose entries rise, is taken
written_taken : {faults : ℕ → Type 0} {n g r count used : ℕ} {columns : ℕ → List ℕ} {out exit : List ℕ} → Sized n g r
    → EntriesRise n (n - g) r count columns → Writes faults n g r count (entries_of n g columns) out exit 0 used
    → Taken n g r count (entries_of n g columns) (take used exit)
written_taken z x w = record { sized = z; entries = x.entries; rising = x.rising; is = w.book refl }

-- the answer says what was written
pub record AsWritten (n g r count : ℕ) (a : ReadAnswer) : Type 0 where
  pub number : a.number ≡ 0
  pub factors : a.factors ≡ n
  pub generators : a.generators ≡ g
  pub resolution : a.resolution ≡ r
  pub entries : a.count ≡ count

-- a taken book is read, and its columns are read back: in whichever list, of which `place` gives entry i
pub gives_back : {A : Type 0} (takes : ℕ → ℕ → ℕ) (place : ℕ → List A → ℕ → List ℕ) (n g r count : ℕ) (columns : ℕ → List ℕ) (book : List ℕ)
    (before after : List A) (a : ReadAnswer) → Taken n g r count (entries_of n g columns) book
    → Reads takes (λ n g list i. entry_of_columns n g (place n list i)) book before after a → takes n count ≤ length before
    → AsWritten n g r count a × ((i : ℕ) → i < count → Equal n (place n after i) (columns i))
gives_back takes place n g r count columns book before after a t rd room =
    let none : a.number ≡ 0 =
    reading_one takes (length before) book a.number 0 rd.number (taken_read n g r count columns book t takes (length before) room) in
    let b = (rd.taken none).is in
    let own = book_header t.is in
    let read = book_header b in
    let factors : a.factors ≡ n = sym read.factors ∙ own.factors in
    let entries : a.count ≡ count = sym read.entries ∙ own.entries in (
      record {
        number = none;
        factors = factors;
        generators = sym read.generators ∙ own.generators;
        resolution = sym read.resolution ∙ own.resolution;
        entries = entries;
      },
      λ i h. equal_trans n (place n after i) (columns_in n book i) (columns i)
          (equal_sym n (columns_in n book i) (place n after i)
          (subst (λ (k : ℕ). Equal k (columns_in k book i) (place k after i)) factors (book_columns b i (omega (arith, entries)))))
          (book_columns t.is i h),
    )

-- plans as bytes
pub write_read_plans : (n g r : ℕ) (plans out exit : List ℕ) (used : ℕ) → WritesPlans n g r plans out exit 0 used
    → EntriesRise n (n - g) r (plan_count n (length plans)) (plan_at n plans)
    → (before after : List ℕ) (a : ReadAnswer) → ReadsPlans (take used exit) before after a → length plans ≤ length before
    → AsWritten n g r (plan_count n (length plans)) a × (take (length plans) after ≡ plans)
write_read_plans n g r plans out exit used w x before after a rd room =
    let count = plan_count n (length plans) in
    let ok = plans_accepted n g r plans (writer_accepts (wanted_plans_faults n g r true plans) n count out w.lowest) in
    let whole : length plans ≡ plan_start n count = ok.whole in
    let back = gives_back plan_start plan_at n g r count (plan_at n plans) (take used exit) before after a (written_taken ok.bounds x w) rd.reads
    (omega (arith, whole)) in (
      back.0,
      ap (λ (k : ℕ). take k after) whole
          ∙ plans_same n count after plans (omega (arith, whole, rd.reads.size)) (omega (arith, whole)) back.1
          (λ i h. subst (λ (k : ℕ). mask_in k (plan_at k after i) ≡ 0) back.0.factors (rd.unswitched i (omega (arith, back.0.entries))))
          (λ i h. ok.bare i (count_held n (length plans) i h))
          ∙ ap (λ (k : ℕ). take k plans) (sym whole)
          ∙ take-length plans,
    )

-- the first k records have sixteen columns: each of a list of the program has
abbrev pub FullColumns : ℕ → List Design → Type 0
FullColumns k list = (i : ℕ) → i < k → length (get_or list i blank).columns ≡ 16

-- design records
pub write_read_designs : (n g r : ℕ) (list : List Design) (out exit : List ℕ) (used : ℕ) → WritesDesigns n g r list out exit 0 used
    → EntriesRise n (n - g) r (length list) (λ i. (get_or list i blank).columns)
    → (before after : List Design) (a : ReadAnswer) → ReadsDesigns (take used exit) before after a → length list ≤ length before
    → FullColumns (length list) list → FullColumns (length list) after
    → AsWritten n g r (length list) a × (take (length list) after ≡ list)
write_read_designs n g r list out exit used w x before after a rd room full also =
    let columns : List Design → ℕ → List ℕ = λ l i. (get_or l i blank).columns in
    let ok = records_accepted n g r list (writer_accepts (wanted_records_faults n g r true list) n (length list) out w.lowest) in
    let back = gives_back places_of (λ n. columns) n g r (length list) (columns list) (take used exit) before after a (written_taken ok.bounds x w)
    rd.reads room in (
      back.0,
      designs_same (length list) after list (omega (arith, rd.reads.size)) refl
          (λ i h. designs_equal n (n - g) (get_or after i blank) (get_or list i blank) (also i h) (full i h)
          (subst₂ (λ (k j : ℕ). Holds k (k - j) (Entry k (k - j) a.resolution) (get_or after i blank)) back.0.factors back.0.generators
          (rd.records i (omega (arith, back.0.entries))))
          (accepted_holds n g (Entry n (n - g) r) (get_or list i blank) (ok.plan i h) (ok.bare i h) (x.entries i h)) (back.1 i h)),
    )
