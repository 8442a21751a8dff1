-- Entries have no fault, so the writer of books takes them, where the header can count them and the bytes have room.
use Rattle.std.specs.Prelude.{ℕ, suc, ◌-◌, ◌≤◌, ◌<◌, true, ◌≡◌, refl, List, length, get_or}
use Rattle.std.proofs.Common.{sym, ap, subst, inl, inr, arith}
use Rattle.std.proofs.Math.Logic.{by_cases}
use Rattle.std.proofs.Math.Decide.{ℕ_discrete}
use Rattle.std.proofs.Math.ListN.{get_or-eq_default}
use Rattle.regular.specs.Sizes.{Sized}
use Rattle.regular.specs.Designs.{blank, Holds, design_with}
use Rattle.regular.specs.Columns.{plan_of}
use Rattle.regular.specs.Refusals.{Lowest, ListFault, WantedFault, SwitchFault, LentFault, either, size_faults, design_faults, columns_faults}
use Rattle.regular.specs.RefusalLaws.{lowest_none, none_lowest, lowest_then, lent_fits}
use Rattle.regular.specs.Accepted.{sizes_accepted, entry_accepted}
use Rattle.regular.specs.PlanBytes.{byte_values, plan_bytes, plan_start, plan_at, HasPlan, plan_count, mask_in}
use Rattle.regular.specs.PlanLists.{BytesFault, wanted_records_faults, wanted_plans_faults}
use Rattle.regular.specs.Smallest.{Entry}
use Rattle.regular.specs.Book.{book_faults, book_length, CountFault, most_plans, BookEntry, Book}
use Rattle.regular.specs.declared.Design.{Design}
use Rattle.words.specs.Switches.{short_switched}
use Rattle.plan_layout.specs.Places.{plan_size, held_count}
use Rattle.book.specs.WritingLaws.{many_none}
use Rattle.reading_laws.specs.Lists.{Unswitched}

-- as design records
pub designs_faultless : (n g r : ℕ) (list : List Design) → Sized n g r
    → ((i : ℕ) → i < length list → Holds n (n - g) (Entry n (n - g) r) (get_or list i blank)) → Lowest (wanted_records_faults n g r true list) 0
designs_faultless n g r list z holds = lowest_none (wanted_records_faults n g r true list) never
  where
    never : (k : ℕ) → wanted_records_faults n g r true list k → ⊥
    never k (inl (inl s)) = none_lowest (size_faults n g r) (sizes_accepted n g r z) k (inl s)
    never k (inl (inr (i, (h, f)))) =
        none_lowest (design_faults n g (get_or list i blank)) (entry_accepted n g r (get_or list i blank) z.size z.low (holds i h)) k f
    never k (inr (inl f)) = none_lowest (size_faults n g r) (sizes_accepted n g r z) k (inr f)
    never k (inr (inr (i, (h, inl (WantedFault.short s))))) =
        let d = get_or list i blank in
        let w = short_switched n d.mask (plan_of n (n - g) d.columns) r s in
        omega (arith, (holds i h).columns.long w.word w.is, w.few)
    never k (inr (inr (i, (h, inr (SwitchFault.some _ some))))) = some (holds i h).unswitched

-- the bytes of an entry without switches have the faults of its record: none
entry_bytes : (n g r : ℕ) (plan : List ℕ) → Sized n g r → length plan ≡ plan_bytes n → mask_in n plan ≡ 0 → Entry n (n - g) r plan
    → (k : ℕ) → columns_faults n g plan k → ⊥
entry_bytes n g r plan z size bare x = faultless
  where
    past : (f : ℕ) → n ≤ f → get_or plan f 0 ≡ 0
    past f h =
        by_cases (ℕ_discrete f n)
        (λ e. subst (λ (j : ℕ). get_or plan j 0 ≡ 0) (sym e) (omega (arith, bare)))
        (λ ne. by_cases (ℕ_discrete (suc n) f)
        (λ e. subst (λ (j : ℕ). get_or plan j 0 ≡ 0) e (omega (arith, bare)))
        (λ more. get_or-eq_default plan 0 (omega (arith, size))))

    own : Design
    own = design_with n (n - g) plan (mask_in n plan)

    accepted : Lowest (design_faults n g own) 0
    accepted =
        entry_accepted n g r own z.size z.low
        (record { factors = refl; basics = refl; columns = x; unused = λ f h _. past f h; unswitched = bare })

    faultless : (k : ℕ) → columns_faults n g plan k → ⊥
    faultless k (inl s) = none_lowest (design_faults n g own) accepted k (inl s)
    faultless k (inr (inl (ListFault.count f))) = f size
    faultless k (inr (inr f)) = none_lowest (design_faults n g own) accepted k (inr (inr f))

-- as bytes
pub plans_faultless : (n g r count : ℕ) (plans : List ℕ) → Sized n g r → length plans ≡ plan_start n count
    → ((i : ℕ) → i < plan_count n (length plans) → Entry n (n - g) r (plan_at n plans i)) → Unswitched n (plan_count n (length plans)) plans
    → Lowest (wanted_plans_faults n g r true plans) 0
plans_faultless n g r count plans z whole entries bare = lowest_none (wanted_plans_faults n g r true plans) never
  where
    inside : (i : ℕ) → HasPlan n plans i → i < plan_count n (length plans)
    inside i h = held_count n (length plans) i z.size.some h

    never : (k : ℕ) → wanted_plans_faults n g r true plans k → ⊥
    never k (inl (inl s)) = none_lowest (size_faults n g r) (sizes_accepted n g r z) k (inl s)
    never k (inl (inr (inl (BytesFault.count none)))) = none count whole
    never k (inl (inr (inr (i, (h, f))))) =
        entry_bytes n g r (plan_at n plans i) z (plan_size n plans i h) (bare i (inside i h)) (entries i (inside i h)) k f
    never k (inr (inl f)) = none_lowest (size_faults n g r) (sizes_accepted n g r z) k (inr f)
    never k (inr (inr (i, (h, inl (WantedFault.short s))))) =
        let c = plan_at n plans i in
        let w = short_switched n (mask_in n c) (plan_of n (n - g) c) r s in
        omega (arith, (entries i (inside i h)).long w.word w.is, w.few)
    never k (inr (inr (i, (h, inr (SwitchFault.some _ some))))) = some (bare i (inside i h))

-- plans without a fault are written, where the header can count them and the bytes have room
pub writer_takes : (faults : ℕ → Type 0) (n count : ℕ) (out : List ℕ) → Lowest faults 0 → count ≤ most_plans → book_length n count ≤ length out
    → Lowest (book_faults faults n count out) 0
writer_takes faults n count out l few room =
    lowest_then (either faults (CountFault count)) (LentFault (book_length n count) out) 0
    (lowest_then faults (CountFault count) 0 l (many_none count few)) (lent_fits (book_length n count) out room)

-- a book counts its entries in two bytes
pub book_few : {n g r count : ℕ} {entry : ℕ → BookEntry} {book : List ℕ} → Book n g r count entry book → get_or book 5 0 < byte_values → count ≤ most_plans
book_few b low = let high = ap (λ (l : List ℕ). get_or l 5 0) b.bytes in omega (arith, high)
