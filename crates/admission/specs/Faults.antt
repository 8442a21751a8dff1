-- The lowest fault of each argument, found in the order of the numbers: of the sizes, of the wanted resolution, of words, columns, a run table,
-- a design record, a list of columns. And a word of fewer than three letters is a fault.
use Rattle.std.specs.Prelude.{ℕ, ◌-◌, ◌^◌, ◌≤◌, ◌<◌, ◌≡◌, ◌⊎◌, List, length, get_or}
use Rattle.std.proofs.Common.{subst, inl, inr, ⊎_elim, arith}
use Rattle.gf2.specs.Members.{In, Different}
use Rattle.regular.specs.Sizes.{Size, Sized}
use Rattle.regular.specs.Runs.{Runs, Table, runs_of}
use Rattle.regular.specs.Words.{NoShort, Generated, Independent}
use Rattle.regular.specs.Columns.{plan_of, plan_with, Below, Spans, Allowed}
use Rattle.regular.specs.Refusals.{SizeFault, ResolutionFault, WordsFault, ColumnsFault, ListFault, RecordFault, TableFault, WantedFault}
use Rattle.regular.specs.Refusals.{SignFault, MaskFault, Short, either, Lowest, size_faults, masked_faults}
use Rattle.regular.specs.RefusalLaws.{lowest_none, lowest_at, lowest_first, lowest_then, size_most, resolution_is}
use Rattle.regular.specs.RefusalLaws.{words_least, sign_is, columns_least, mask_is, list_is, record_least, table_least}
use Rattle.regular.specs.Accepted.{sizes_accepted}
use Rattle.regular.specs.Given.{of_columns, of_design}
use Rattle.regular.specs.PlanBytes.{mask_in}
use Rattle.regular.specs.declared.Design.{Design}
use Rattle.words.specs.Switches.{short_switched}

-- sizes
pub size_1 : (n g : ℕ) → (n < 1) ⊎ (16 < n) → Lowest (SizeFault n g) 1
size_1 n g h = lowest_at (SizeFault n g) 1 (omega arith) (SizeFault.factors h) least
  where
    least : (k : ℕ) → SizeFault n g k → 1 ≤ k
    least k (SizeFault.factors p) = omega arith
    least k (SizeFault.generators p) = omega arith

pub size_2 : (n g : ℕ) → 1 ≤ n → n ≤ 16 → (n ≤ g) ⊎ (7 < n - g) → Lowest (SizeFault n g) 2
size_2 n g some most h = lowest_at (SizeFault n g) 2 (omega arith) (SizeFault.generators h) least
  where
    least : (k : ℕ) → SizeFault n g k → 2 ≤ k
    least k (SizeFault.factors (inl p)) = absurd (omega arith)
    least k (SizeFault.factors (inr p)) = absurd (omega arith)
    least k (SizeFault.generators p) = omega arith

-- the sizes, then the wanted resolution
abbrev Bounds : ℕ → ℕ → ℕ → ℕ → Type 0
Bounds n g r k = Lowest (size_faults n g r) k × (k ≡ 0 → Sized n g r) × (k ≤ 3)

pub bounds_size : (n g r k : ℕ) → (k ≡ 0 → ⊥) → Lowest (SizeFault n g) k → Bounds n g r k
bounds_size n g r k some l =
    let low = size_most n g k (l.applies (omega arith)) in
    (lowest_first (SizeFault n g) (ResolutionFault r) k (omega arith) l (λ j f. omega (arith, resolution_is r j f)), (λ e. absurd (some e)), omega arith)

pub bounds_3 : (n g r k : ℕ) → k ≡ 0 → Lowest (SizeFault n g) k → (r < 3) ⊎ (16 < r) → Bounds n g r 3
bounds_3 n g r k e l h = (
  lowest_then (SizeFault n g) (ResolutionFault r) 3 (subst (Lowest (SizeFault n g)) e l)
      (lowest_at (ResolutionFault r) 3 (omega arith) (ResolutionFault.outside h) (λ j f. omega (arith, resolution_is r j f))),
  (λ z. absurd (omega arith)),
  omega arith,
)

pub bounds_0 : (n g r : ℕ) → Size n g → 3 ≤ r → r ≤ 16 → Bounds n g r 0
bounds_0 n g r z low high =
    let s : Sized n g r = record { size = z; low = low; high = high } in
    (sizes_accepted n g r s, (λ _. s), omega arith)

-- a word that is both short and not
short_not : (n : ℕ) (s : Runs) → NoShort n 3 s → Short n 3 s → ⊥
short_not n s h w = omega (arith, h w.word w.is, w.few)

-- words
module _ (n g : ℕ) (ws : List ℕ) where
  pub words_4 : (length ws ≡ g → ⊥) → Lowest (WordsFault n g ws) 4
  words_4 h = lowest_at (WordsFault n g ws) 4 (omega arith) (WordsFault.count h) (words_least n g ws)

  pub words_5 : length ws ≡ g → (i : ℕ) → i < length ws → 2 ^ n ≤ get_or ws i 0 → Lowest (WordsFault n g ws) 5
  words_5 e i l h = lowest_at (WordsFault n g ws) 5 (omega arith) (WordsFault.past i l h) least
    where
      least : (k : ℕ) → WordsFault n g ws k → 5 ≤ k
      least k (WordsFault.count p) = absurd (p e)
      least k (WordsFault.past j p q) = omega arith
      least k (WordsFault.dependent p) = omega arith
      least k (WordsFault.short p) = omega arith

  module _ (e : length ws ≡ g) (low : (i : ℕ) → i < length ws → get_or ws i 0 < 2 ^ n) where
    not_past : (i : ℕ) → i < length ws → 2 ^ n ≤ get_or ws i 0 → ⊥
    not_past i l h = omega (arith, low i l)

    pub words_6 : (Independent g ws → ⊥) → Lowest (WordsFault n g ws) 6
    words_6 h = lowest_at (WordsFault n g ws) 6 (omega arith) (WordsFault.dependent h) least
      where
        least : (k : ℕ) → WordsFault n g ws k → 6 ≤ k
        least k (WordsFault.count p) = absurd (p e)
        least k (WordsFault.past j p q) = absurd (not_past j p q)
        least k (WordsFault.dependent p) = omega arith
        least k (WordsFault.short p) = omega arith

    pub words_7 : Independent g ws → Short n 3 (Generated n g ws) → Lowest (WordsFault n g ws) 7
    words_7 ind h = lowest_at (WordsFault n g ws) 7 (omega arith) (WordsFault.short h) least
      where
        least : (k : ℕ) → WordsFault n g ws k → 7 ≤ k
        least k (WordsFault.count p) = absurd (p e)
        least k (WordsFault.past j p q) = absurd (not_past j p q)
        least k (WordsFault.dependent p) = absurd (p ind)
        least k (WordsFault.short p) = omega arith

    pub words_0 : Independent g ws → NoShort n 3 (Generated n g ws) → Lowest (WordsFault n g ws) 0
    words_0 ind long = lowest_none (WordsFault n g ws) never
      where
        never : (k : ℕ) → WordsFault n g ws k → ⊥
        never k (WordsFault.count p) = p e
        never k (WordsFault.past j p q) = not_past j p q
        never k (WordsFault.dependent p) = p ind
        never k (WordsFault.short p) = short_not n (Generated n g ws) long p

-- words and their signs: a fault of the words by 4 or 5, a sign past them, or signs that are none
module _ (n g : ℕ) (ws : List ℕ) (signs : ℕ) where
  abbrev Signed : ℕ → Type 0
  Signed = either (WordsFault n g ws) (SignFault g signs)

  pub signed_least : (k : ℕ) → Signed k → 4 ≤ k
  signed_least k = ⊎_elim (words_least n g ws k) (λ f. omega (arith, sign_is g signs k f))

  pub signed_first : (k : ℕ) → 0 < k → k ≤ 5 → Lowest (WordsFault n g ws) k → Lowest Signed k
  signed_first k h most l = lowest_first (WordsFault n g ws) (SignFault g signs) k h l (λ i f. omega (arith, sign_is g signs i f))

  pub signed_5 : length ws ≡ g → 2 ^ g ≤ signs → Lowest Signed 5
  signed_5 e h = lowest_at Signed 5 (omega arith) (inr (SignFault.past h)) (λ k. ⊎_elim (least k) (λ f. omega (arith, sign_is g signs k f)))
    where
      least : (k : ℕ) → WordsFault n g ws k → 5 ≤ k
      least k (WordsFault.count p) = absurd (p e)
      least k (WordsFault.past j p q) = omega arith
      least k (WordsFault.dependent p) = omega arith
      least k (WordsFault.short p) = omega arith

  pub signed_fits : (k : ℕ) → signs < 2 ^ g → Lowest (WordsFault n g ws) k → Lowest Signed k
  signed_fits k h l = record { applies = λ p. inl (l.applies p); least = λ i. ⊎_elim (l.least i) (λ f. absurd (never i f)) }
    where
      never : (i : ℕ) → SignFault g signs i → ⊥
      never i (SignFault.past p) = omega arith

-- columns
module _ (n m : ℕ) (c : List ℕ) where
  pub columns_5 : (f : ℕ) → f < n → 2 ^ m ≤ get_or c f 0 → Lowest (ColumnsFault n m c) 5
  columns_5 f l h = lowest_at (ColumnsFault n m c) 5 (omega arith) (ColumnsFault.above f l h) (columns_least n m c)

  module _ (below : Below n m c) where
    pub columns_6 : (Spans n m c → ⊥) → Lowest (ColumnsFault n m c) 6
    columns_6 h = lowest_at (ColumnsFault n m c) 6 (omega arith) (ColumnsFault.rank h) least
      where
        least : (k : ℕ) → ColumnsFault n m c k → 6 ≤ k
        least k (ColumnsFault.above f l p) = absurd (omega (arith, below f l))
        least k (ColumnsFault.rank p) = omega arith
        least k (ColumnsFault.short p) = omega arith

    pub columns_7 : Spans n m c → Short n 3 (plan_of n m c) → Lowest (ColumnsFault n m c) 7
    columns_7 sp h = lowest_at (ColumnsFault n m c) 7 (omega arith) (ColumnsFault.short h) least
      where
        least : (k : ℕ) → ColumnsFault n m c k → 7 ≤ k
        least k (ColumnsFault.above f l p) = absurd (omega (arith, below f l))
        least k (ColumnsFault.rank p) = absurd (p sp)
        least k (ColumnsFault.short p) = omega arith

    pub columns_0 : Spans n m c → NoShort n 3 (plan_of n m c) → Lowest (ColumnsFault n m c) 0
    columns_0 sp long = lowest_none (ColumnsFault n m c) never
      where
        never : (k : ℕ) → ColumnsFault n m c k → ⊥
        never k (ColumnsFault.above f l p) = omega (arith, below f l)
        never k (ColumnsFault.rank p) = p sp
        never k (ColumnsFault.short p) = short_not n (plan_of n m c) long p

-- columns and a mask: a column above by 5, a mask that is not allowed, or one that is
module _ (n m : ℕ) (c : List ℕ) (mask : ℕ) where
  abbrev plan : Runs
  plan = plan_of n m c

  pub masked_least : (k : ℕ) → masked_faults n m c mask k → 5 ≤ k
  masked_least k = ⊎_elim (columns_least n m c k) (λ f. omega (arith, mask_is n plan mask k f))

  pub masked_above : (f : ℕ) → f < n → 2 ^ m ≤ get_or c f 0 → Lowest (masked_faults n m c mask) 5
  masked_above f l h =
      lowest_first (ColumnsFault n m c) (MaskFault n plan mask) 5 (omega arith) (columns_5 n m c f l h) (λ k e. omega (arith, mask_is n plan mask k e))

  pub masked_barred : (Allowed n plan mask → ⊥) → Lowest (masked_faults n m c mask) 5
  masked_barred h = lowest_at (masked_faults n m c mask) 5 (omega arith) (inr (MaskFault.barred h)) masked_least

  pub masked_fits : (k : ℕ) → Allowed n plan mask → Lowest (ColumnsFault n m c) k → Lowest (masked_faults n m c mask) k
  masked_fits k a l = record { applies = λ p. inl (l.applies p); least = λ i. ⊎_elim (l.least i) (λ f. absurd (never i f)) }
    where
      never : (i : ℕ) → MaskFault n plan mask i → ⊥
      never i (MaskFault.barred p) = p a

-- a run table
module _ (n m : ℕ) (t : List ℕ) where
  pub table_4 : (length t ≡ 2 ^ m → ⊥) → Lowest (TableFault n m t) 4
  table_4 h = lowest_at (TableFault n m t) 4 (omega arith) (TableFault.count h) (table_least n m t)

  pub table_5 : length t ≡ 2 ^ m → (x : ℕ) → In x t → 2 ^ n ≤ x → Lowest (TableFault n m t) 5
  table_5 e x i h = lowest_at (TableFault n m t) 5 (omega arith) (TableFault.past x i h) least
    where
      least : (k : ℕ) → TableFault n m t k → 5 ≤ k
      least k (TableFault.count p) = absurd (p e)
      least k (TableFault.past y j p) = omega arith
      least k (TableFault.repeated p) = omega arith
      least k (TableFault.irregular p) = omega arith
      least k (TableFault.short p) = omega arith

  module _ (e : length t ≡ 2 ^ m) (low : (x : ℕ) → In x t → x < 2 ^ n) where
    six : TableFault n m t 6 → Lowest (TableFault n m t) 6
    six h = lowest_at (TableFault n m t) 6 (omega arith) h least
      where
        least : (k : ℕ) → TableFault n m t k → 6 ≤ k
        least k (TableFault.count p) = absurd (p e)
        least k (TableFault.past y j p) = absurd (omega (arith, low y j))
        least k (TableFault.repeated p) = omega arith
        least k (TableFault.irregular p) = omega arith
        least k (TableFault.short p) = omega arith

    -- no table: its runs repeat, or they are not regular
    pub table_6 : Different t ⊎ (Different t → ⊥) → (Table n m t → ⊥) → Lowest (TableFault n m t) 6
    table_6 (inl d) h = six (TableFault.irregular (λ r. h (record { count = e; within = low; different = d; regular = r })))
    table_6 (inr d) h = six (TableFault.repeated d)

    pub table_7 : Table n m t → Short n 3 (runs_of t) → Lowest (TableFault n m t) 7
    table_7 tab h = lowest_at (TableFault n m t) 7 (omega arith) (TableFault.short h) least
      where
        least : (k : ℕ) → TableFault n m t k → 7 ≤ k
        least k (TableFault.count p) = absurd (p e)
        least k (TableFault.past y j p) = absurd (omega (arith, low y j))
        least k (TableFault.repeated p) = absurd (p tab.different)
        least k (TableFault.irregular p) = absurd (p tab.regular)
        least k (TableFault.short p) = omega arith

    pub table_0 : Table n m t → NoShort n 3 (runs_of t) → Lowest (TableFault n m t) 0
    table_0 tab long = lowest_none (TableFault n m t) never
      where
        never : (k : ℕ) → TableFault n m t k → ⊥
        never k (TableFault.count p) = p e
        never k (TableFault.past y j p) = omega (arith, low y j)
        never k (TableFault.repeated p) = p tab.different
        never k (TableFault.irregular p) = p tab.regular
        never k (TableFault.short p) = short_not n (runs_of t) long p

-- a design record
module _ (n m : ℕ) (d : Design) where
  pub record_4 : (d.factors ≡ n → ⊥) ⊎ (d.basics ≡ m → ⊥) → Lowest (RecordFault n m d) 4
  record_4 (inl h) = lowest_at (RecordFault n m d) 4 (omega arith) (RecordFault.factors h) (record_least n m d)
  record_4 (inr h) = lowest_at (RecordFault n m d) 4 (omega arith) (RecordFault.basics h) (record_least n m d)

  module _ (ef : d.factors ≡ n) (eb : d.basics ≡ m) where
    pub record_5 : (f : ℕ) → n ≤ f → f < 16 → (get_or d.columns f 0 ≡ 0 → ⊥) → Lowest (RecordFault n m d) 5
    record_5 f l u h = lowest_at (RecordFault n m d) 5 (omega arith) (RecordFault.used f l u h) least
      where
        least : (k : ℕ) → RecordFault n m d k → 5 ≤ k
        least k (RecordFault.factors p) = absurd (p ef)
        least k (RecordFault.basics p) = absurd (p eb)
        least k (RecordFault.used g p q r) = omega arith

    pub record_0 : ((f : ℕ) → n ≤ f → f < 16 → get_or d.columns f 0 ≡ 0) → Lowest (RecordFault n m d) 0
    record_0 un = lowest_none (RecordFault n m d) never
      where
        never : (k : ℕ) → RecordFault n m d k → ⊥
        never k (RecordFault.factors p) = p ef
        never k (RecordFault.basics p) = p eb
        never k (RecordFault.used f p q r) = r (un f p q)

-- a list of columns
pub list_4 : (n : ℕ) (c : List ℕ) → (length c ≡ n → ⊥) → Lowest (ListFault n c) 4
list_4 n c h = lowest_at (ListFault n c) 4 (omega arith) (ListFault.count h) (λ k f. omega (arith, list_is n c k f))

pub list_0 : (n : ℕ) (c : List ℕ) → length c ≡ n → Lowest (ListFault n c) 0
list_0 n c e = lowest_none (ListFault n c) never
  where
    never : (k : ℕ) → ListFault n c k → ⊥
    never k (ListFault.count p) = p e

-- a word of fewer than three letters is a fault of columns and of a record, whatever factors are switched
short_columns : (n m : ℕ) (c : List ℕ) (mask k : ℕ) → WantedFault n 3 (plan_with n m c mask) k → masked_faults n m c mask k
short_columns n m c mask k (WantedFault.short w) = inl (ColumnsFault.short (short_switched n mask (plan_of n m c) 3 w))

pub columns_three : (n g : ℕ) (c : List ℕ) (k : ℕ) → WantedFault n 3 (of_columns n g c).plan k → (of_columns n g c).faults k
columns_three n g c k f = inr (inr (short_columns n (n - g) c (mask_in n c) k f))

pub design_three : (n g : ℕ) (d : Design) (k : ℕ) → WantedFault n 3 (of_design n g d).plan k → (of_design n g d).faults k
design_three n g d k f = inr (inr (short_columns n (n - g) d.columns d.mask k f))
