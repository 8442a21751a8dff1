-- Read, then write: what was read is written as it was, and the writer takes it where its bytes have room.
use Rattle.std.specs.Prelude.{ℕ, ◌-◌, ◌≤◌, ◌<◌, true, ◌≡◌, refl, List, length, get_or, take}
use Rattle.std.proofs.Common.{sym, ap, subst, ◌∙◌, arith, length-take-le, get_or-take}
use Rattle.regular.specs.Designs.{blank, Holds}
use Rattle.regular.specs.RefusalLaws.{lowest_unique}
use Rattle.regular.specs.Refusals.{Lowest}
use Rattle.regular.specs.PlanBytes.{byte_values, plan_start, plan_at, plan_count}
use Rattle.regular.specs.PlanLists.{wanted_records_faults, wanted_plans_faults}
use Rattle.regular.specs.Smallest.{Equal, Entry}
use Rattle.regular.specs.Book.{book_faults, book_length, Book, Writes, WritesPlans, WritesDesigns}
use Rattle.regular.specs.ReadingAnswers.{Taken, ReadsPlans, ReadsDesigns}
use Rattle.regular.specs.declared.Design.{Design}
use Rattle.regular.specs.declared.ReadAnswer.{ReadAnswer}
use Rattle.smallest_laws.specs.Dictionary.{equal_sym}
use Rattle.smallest_laws.specs.Growth.{entry_equal}
use Rattle.book.specs.EntryLaws.{book_unique}
use Rattle.reading_laws.specs.Taken.{entries_of, book_like}
use Rattle.reading_laws.specs.Lists.{front_plan, front_mask, front_count}
use Rattle.reading_laws.specs.Accepted.{designs_faultless, plans_faultless, writer_takes, book_few}

-- the written entries are those that were read, in whichever list they stand: one book
pub read_write : {faults : ℕ → Type 0} {n g r count used : ℕ} {columns others : ℕ → List ℕ} {book out exit : List ℕ}
    → Taken n g r count (entries_of n g columns) book → (k : ℕ) → k ≡ count → ((i : ℕ) → i < count → Equal n (others i) (columns i))
    → Writes faults n g r k (entries_of n g others) out exit 0 used → take used exit ≡ book
read_write {faults} {n} {g} {r} {count} {used} {columns} {others} {book} {out} {exit} t k e same w =
    book_unique n g r count (entries_of n g columns) (take used exit) book
    (book_like n g r count others columns (take used exit) same (subst (λ (j : ℕ). Book n g r j (entries_of n g others) (take used exit)) e (w.book refl)))
    t.is

-- what was read, as the lent list has it
abbrev pub plans_read : ReadAnswer → List ℕ → List ℕ
plans_read a after = take (plan_start a.factors a.count) after

abbrev pub designs_read : ReadAnswer → List Design → List Design
designs_read a after = take a.count after

-- plans as bytes
module _ (book before after : List ℕ) (a : ReadAnswer) (rd : ReadsPlans book before after a) (e : a.number ≡ 0) where
  fits : plan_start a.factors a.count ≤ length after
  fits = omega (arith, rd.reads.room e, rd.reads.size)

  counted : plan_count a.factors (length (plans_read a after)) ≡ a.count
  counted = front_count a.factors a.count after (rd.reads.taken e).sized.size.some fits

  -- the writer takes them
  writer_takes_plans : get_or book 5 0 < byte_values → (out : List ℕ) → book_length a.factors a.count ≤ length out
      → Lowest (book_faults (wanted_plans_faults a.factors a.generators a.resolution true (plans_read a after)) a.factors
      (plan_count a.factors (length (plans_read a after))) out) 0
  writer_takes_plans low out room =
      let n = a.factors in
      let t = rd.reads.taken e in
      writer_takes (wanted_plans_faults n a.generators a.resolution true (plans_read a after)) n (plan_count n (length (plans_read a after))) out
      (plans_faultless n a.generators a.resolution a.count (plans_read a after) t.sized (length-take-le (plan_start n a.count) after fits)
      (λ i h. let l : i < a.count = omega (arith, counted) in
      entry_equal n (n - a.generators) (plan_at n after i) (plan_at n (plans_read a after) i)
      (equal_sym n (plan_at n (plans_read a after) i) (plan_at n after i) (front_plan n a.count after i l)) a.resolution (t.entries i l))
      (λ i h. let l : i < a.count = omega (arith, counted) in front_mask n a.count after i l ∙ rd.unswitched i l))
      (omega (arith, counted, book_few t.is low)) (subst (λ (k : ℕ). book_length n k ≤ length out) (sym counted) room)

  -- and writes the book that was read
  pub read_write_plans : get_or book 5 0 < byte_values → (out exit : List ℕ) (number used : ℕ) → book_length a.factors a.count ≤ length out
      → WritesPlans a.factors a.generators a.resolution (plans_read a after) out exit number used → (number ≡ 0) × (take used exit ≡ book)
  read_write_plans low out exit number used room w =
      let k = plan_count a.factors (length (plans_read a after)) in
      let zero = lowest_unique (book_faults (wanted_plans_faults a.factors a.generators a.resolution true (plans_read a after)) a.factors k out)
      number 0 w.lowest (writer_takes_plans low out room) in (
        zero,
        read_write (rd.reads.taken e) k counted (front_plan a.factors a.count after)
            (subst (λ (j : ℕ). WritesPlans a.factors a.generators a.resolution (plans_read a after) out exit j used) zero w),
      )

-- design records
module _ (book : List ℕ) (before after : List Design) (a : ReadAnswer) (rd : ReadsDesigns book before after a) (e : a.number ≡ 0) where
  long : length (designs_read a after) ≡ a.count
  long = length-take-le a.count after (omega (arith, rd.reads.room e, rd.reads.size))

  here : (i : ℕ) → i < a.count → get_or (designs_read a after) i blank ≡ get_or after i blank
  here i h = get_or-take a.count after i blank h

  -- the writer takes them
  writer_takes_designs : get_or book 5 0 < byte_values → (out : List ℕ) → book_length a.factors a.count ≤ length out
      → Lowest (book_faults (wanted_records_faults a.factors a.generators a.resolution true (designs_read a after)) a.factors
      (length (designs_read a after)) out) 0
  writer_takes_designs low out room =
      let n = a.factors in
      let t = rd.reads.taken e in
      writer_takes (wanted_records_faults n a.generators a.resolution true (designs_read a after)) n (length (designs_read a after)) out
      (designs_faultless n a.generators a.resolution (designs_read a after) t.sized
      (λ i h. let l : i < a.count = omega (arith, long) in
      subst (Holds n (n - a.generators) (Entry n (n - a.generators) a.resolution)) (sym (here i l)) (rd.records i l)))
      (omega (arith, long, book_few t.is low)) (subst (λ (k : ℕ). book_length n k ≤ length out) (sym long) room)

  -- and writes the book that was read
  pub read_write_designs : get_or book 5 0 < byte_values → (out exit : List ℕ) (number used : ℕ) → book_length a.factors a.count ≤ length out
      → WritesDesigns a.factors a.generators a.resolution (designs_read a after) out exit number used → (number ≡ 0) × (take used exit ≡ book)
  read_write_designs low out exit number used room w =
      let k = length (designs_read a after) in
      let zero = lowest_unique (book_faults (wanted_records_faults a.factors a.generators a.resolution true (designs_read a after)) a.factors k out)
      number 0 w.lowest (writer_takes_designs low out room) in (
        zero,
        read_write (rd.reads.taken e) k long (λ i h f l. ap (λ (d : Design). get_or d.columns f 0) (here i h))
            (subst (λ (j : ℕ). WritesDesigns a.factors a.generators a.resolution (designs_read a after) out exit j used) zero w),
      )
