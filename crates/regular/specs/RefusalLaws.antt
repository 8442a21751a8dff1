-- Laws of the lowest fault: it is one number, the faults of several arguments are met one after another, and of two plans the lower counts.
use Rattle.std.specs.Prelude.{ℕ, zero, suc, ◌-◌, ◌≤◌, ◌<◌, ◌≡◌, refl, ◌⊎◌, List, length}
use Rattle.std.proofs.Common.{sym, subst, inl, inr, ⊎_elim, arith}
use Rattle.std.proofs.Math.Logic.{by_cases}
use Rattle.std.proofs.Math.Decide.{dec_lt}
use Rattle.regular.specs.Refusals.{SizeFault, ResolutionFault, WordsFault, ColumnsFault, ListFault, RecordFault, TableFault, LentFault}
use Rattle.regular.specs.Refusals.{SignFault, MaskFault, masked_faults}
use Rattle.regular.specs.Refusals.{either, numbered, Lowest, words_faults, runs_faults, design_faults, columns_faults, bare_faults}
use Rattle.regular.specs.Runs.{Runs}
use Rattle.regular.specs.Columns.{plan_of}
use Rattle.regular.specs.PlanBytes.{plan_bytes, mask_in}
use Rattle.regular.specs.declared.Design.{Design}
use Rattle.regular.specs.declared.Refusal.{Refusal}
use Rattle.regular.specs.declared.Refusal.TheVariants as refusals
use Rattle.regular.specs.Answers.{number}

pub lowest_unique : (F : ℕ → Type 0) (a b : ℕ) → Lowest F a → Lowest F b → a ≡ b
lowest_unique F zero zero p q = refl
lowest_unique F zero (suc b) p q = absurd (omega (arith, p.least (suc b) (q.applies (omega arith))))
lowest_unique F (suc a) zero p q = absurd (omega (arith, q.least (suc a) (p.applies (omega arith))))
lowest_unique F (suc a) (suc b) p q = omega (arith, p.least (suc b) (q.applies (omega arith)), q.least (suc a) (p.applies (omega arith)))

-- nothing is at fault
pub lowest_none : (F : ℕ → Type 0) → ((k : ℕ) → F k → ⊥) → Lowest F 0
lowest_none F h = record { applies = λ l. absurd (omega arith); least = λ k f. absurd (h k f) }

pub none_lowest : (F : ℕ → Type 0) → Lowest F 0 → (k : ℕ) → F k → ⊥
none_lowest F l k f = omega (arith, l.least k f)

-- a fault, and none below it
pub lowest_at : (F : ℕ → Type 0) (r : ℕ) → 0 < r → F r → ((k : ℕ) → F k → r ≤ k) → Lowest F r
lowest_at F r h f l = record { applies = λ p. f; least = λ k g. (h, l k g) }

-- the number of an argument that was judged before
pub lowest_numbered : (x : ℕ) → Lowest (numbered x) x
lowest_numbered x = record { applies = λ p. (p, refl); least = λ k f. (omega (arith, f.0, f.1), omega (arith, f.1)) }

-- the same faults
pub lowest_same : (F H : ℕ → Type 0) (r : ℕ) → ((k : ℕ) → F k → H k) → ((k : ℕ) → H k → F k) → Lowest F r → Lowest H r
lowest_same F H r into onto l = record { applies = λ p. into r (l.applies p); least = λ k h. l.least k (onto k h) }

-- two arguments: the first is at fault, and the second no lower
pub lowest_first : (F H : ℕ → Type 0) (r : ℕ) → 0 < r → Lowest F r → ((k : ℕ) → H k → r ≤ k) → Lowest (either F H) r
lowest_first F H r h l g = record { applies = λ p. inl (l.applies p); least = λ k e. ⊎_elim (λ f. l.least k f) (λ f. (h, g k f)) e }

-- .. or the first is not
pub lowest_then : (F H : ℕ → Type 0) (r : ℕ) → Lowest F 0 → Lowest H r → Lowest (either F H) r
lowest_then F H r n l = record { applies = λ p. inr (l.applies p); least = λ k e. ⊎_elim (λ f. absurd (none_lowest F n k f)) (λ f. l.least k f) e }

-- two plans: r is the smaller of their numbers a and b that are above 0
pub record Lower (a b r : ℕ) : Type 0 where
  pub one : (r ≡ a) ⊎ (r ≡ b)
  pub first : 0 < a → (0 < r) × (r ≤ a)
  pub second : 0 < b → (0 < r) × (r ≤ b)

pub lowest_lower : (F H : ℕ → Type 0) (a b r : ℕ) → Lowest F a → Lowest H b → Lower a b r → Lowest (either F H) r
lowest_lower F H a b r p q l = record {
  applies = λ h. ⊎_elim (λ e. inl (subst F (sym e) (p.applies (omega arith)))) (λ e. inr (subst H (sym e) (q.applies (omega arith)))) l.one;
  least = λ k f. ⊎_elim
      (λ f. let u = p.least k f in let v = l.first u.0 in (v.0, omega (arith, u.1, v.1)))
      (λ f. let u = q.least k f in let v = l.second u.0 in (v.0, omega (arith, u.1, v.1))) f;
}

-- neither is at fault
pub lower_none : (a b r : ℕ) → Lower a b r → r ≡ 0 → (a ≡ 0) × (b ≡ 0)
lower_none a b r l e = (
  by_cases (dec_lt 0 a) (λ h. absurd (omega (arith, l.first h))) (λ h. omega arith),
  by_cases (dec_lt 0 b) (λ h. absurd (omega (arith, l.second h))) (λ h. omega arith),
)

-- the numbers that the faults of an argument have
pub size_most : (n g k : ℕ) → SizeFault n g k → k ≤ 2
size_most n g k (SizeFault.factors h) = omega arith
size_most n g k (SizeFault.generators h) = omega arith

pub resolution_is : (r k : ℕ) → ResolutionFault r k → k ≡ 3
resolution_is r k (ResolutionFault.outside h) = refl

pub words_least : (n g : ℕ) (ws : List ℕ) (k : ℕ) → WordsFault n g ws k → 4 ≤ k
words_least n g ws k (WordsFault.count h) = omega arith
words_least n g ws k (WordsFault.past i l h) = omega arith
words_least n g ws k (WordsFault.dependent h) = omega arith
words_least n g ws k (WordsFault.short h) = omega arith

words_most : (n g : ℕ) (ws : List ℕ) (k : ℕ) → WordsFault n g ws k → k ≤ 7
words_most n g ws k (WordsFault.count h) = omega arith
words_most n g ws k (WordsFault.past i l h) = omega arith
words_most n g ws k (WordsFault.dependent h) = omega arith
words_most n g ws k (WordsFault.short h) = omega arith

pub columns_least : (n m : ℕ) (c : List ℕ) (k : ℕ) → ColumnsFault n m c k → 5 ≤ k
columns_least n m c k (ColumnsFault.above f l h) = omega arith
columns_least n m c k (ColumnsFault.rank h) = omega arith
columns_least n m c k (ColumnsFault.short h) = omega arith

columns_most : (n m : ℕ) (c : List ℕ) (k : ℕ) → ColumnsFault n m c k → k ≤ 7
columns_most n m c k (ColumnsFault.above f l h) = omega arith
columns_most n m c k (ColumnsFault.rank h) = omega arith
columns_most n m c k (ColumnsFault.short h) = omega arith

pub list_is : (n : ℕ) (c : List ℕ) (k : ℕ) → ListFault n c k → k ≡ 4
list_is n c k (ListFault.count h) = refl

pub record_least : (n m : ℕ) (d : Design) (k : ℕ) → RecordFault n m d k → 4 ≤ k
record_least n m d k (RecordFault.factors h) = omega arith
record_least n m d k (RecordFault.basics h) = omega arith
record_least n m d k (RecordFault.used f l p h) = omega arith

record_most : (n m : ℕ) (d : Design) (k : ℕ) → RecordFault n m d k → k ≤ 5
record_most n m d k (RecordFault.factors h) = omega arith
record_most n m d k (RecordFault.basics h) = omega arith
record_most n m d k (RecordFault.used f l p h) = omega arith

pub table_least : (n m : ℕ) (t : List ℕ) (k : ℕ) → TableFault n m t k → 4 ≤ k
table_least n m t k (TableFault.count h) = omega arith
table_least n m t k (TableFault.past x i h) = omega arith
table_least n m t k (TableFault.repeated h) = omega arith
table_least n m t k (TableFault.irregular h) = omega arith
table_least n m t k (TableFault.short h) = omega arith

table_most : (n m : ℕ) (t : List ℕ) (k : ℕ) → TableFault n m t k → k ≤ 7
table_most n m t k (TableFault.count h) = omega arith
table_most n m t k (TableFault.past x i h) = omega arith
table_most n m t k (TableFault.repeated h) = omega arith
table_most n m t k (TableFault.irregular h) = omega arith
table_most n m t k (TableFault.short h) = omega arith

pub lent_is : (places : ℕ) (out : List ℕ) (k : ℕ) → LentFault places out k → k ≡ 8
lent_is places out k (LentFault.few h) = refl

-- a lent list that has too few places, or enough
pub lent_short : (places : ℕ) (out : List ℕ) → length out < places → Lowest (LentFault places out) 8
lent_short places out h = lowest_at (LentFault places out) 8 (omega arith) (LentFault.few h) (λ k f. omega (arith, lent_is places out k f))

pub lent_fits : (places : ℕ) (out : List ℕ) → places ≤ length out → Lowest (LentFault places out) 0
lent_fits places out h = lowest_none (LentFault places out) never
  where
    never : (k : ℕ) → LentFault places out k → ⊥
    never k (LentFault.few l) = omega arith

-- a plan's faults are below 8, the number of a lent result
either_most : (F H : ℕ → Type 0) (most : ℕ) → ((k : ℕ) → F k → k ≤ most) → ((k : ℕ) → H k → k ≤ most) → (k : ℕ) → either F H k → k ≤ most
either_most F H most f h k e = ⊎_elim (f k) (h k) e

pub sign_is : (g signs k : ℕ) → SignFault g signs k → k ≡ 5
sign_is g signs k (SignFault.past h) = refl

pub mask_is : (n : ℕ) (s : Runs) (mask k : ℕ) → MaskFault n s mask k → k ≡ 5
mask_is n s mask k (MaskFault.barred h) = refl

masked_most : (n m : ℕ) (c : List ℕ) (mask k : ℕ) → masked_faults n m c mask k → k ≤ 7
masked_most n m c mask =
    either_most (ColumnsFault n m c) (MaskFault n (plan_of n m c) mask) 7 (columns_most n m c) (λ k f. omega (arith, mask_is n (plan_of n m c) mask k f))

pub words_faults_most : (n g : ℕ) (ws : List ℕ) (signs k : ℕ) → words_faults n g ws signs k → k ≤ 7
words_faults_most n g ws signs =
    either_most (SizeFault n g) (either (WordsFault n g ws) (SignFault g signs)) 7 (λ k f. omega (arith, size_most n g k f))
    (either_most (WordsFault n g ws) (SignFault g signs) 7 (words_most n g ws) (λ k f. omega (arith, sign_is g signs k f)))

pub runs_faults_most : (n g : ℕ) (t : List ℕ) (k : ℕ) → runs_faults n g t k → k ≤ 7
runs_faults_most n g t = either_most (SizeFault n g) (TableFault n (n - g) t) 7 (λ k f. omega (arith, size_most n g k f)) (table_most n (n - g) t)

pub design_faults_most : (n g : ℕ) (d : Design) (k : ℕ) → design_faults n g d k → k ≤ 7
design_faults_most n g d =
    let columns = masked_faults n (n - g) d.columns d.mask in
    either_most (SizeFault n g) (either (RecordFault n (n - g) d) columns) 7 (λ k f. omega (arith, size_most n g k f))
    (either_most (RecordFault n (n - g) d) columns 7 (λ k f. omega (arith, record_most n (n - g) d k f))
    (masked_most n (n - g) d.columns d.mask))

pub columns_faults_most : (n g : ℕ) (c : List ℕ) (k : ℕ) → columns_faults n g c k → k ≤ 7
columns_faults_most n g c =
    let columns = masked_faults n (n - g) c (mask_in n c) in
    either_most (SizeFault n g) (either (ListFault (plan_bytes n) c) columns) 7 (λ k f. omega (arith, size_most n g k f))
    (either_most (ListFault (plan_bytes n) c) columns 7 (λ k f. omega (arith, list_is (plan_bytes n) c k f)) (masked_most n (n - g) c (mask_in n c)))

pub bare_faults_most : (n g : ℕ) (c : List ℕ) (k : ℕ) → bare_faults n g c k → k ≤ 7
bare_faults_most n g c =
    either_most (SizeFault n g) (either (ListFault n c) (ColumnsFault n (n - g) c)) 7 (λ k f. omega (arith, size_most n g k f))
    (either_most (ListFault n c) (ColumnsFault n (n - g) c) 7 (λ k f. omega (arith, list_is n c k f)) (columns_most n (n - g) c))

-- a refusal's number is above 0
pub number_positive : (e : Refusal) → 0 < number e
number_positive refusals.Factors = omega arith
number_positive refusals.Generators = omega arith
number_positive refusals.Resolution = omega arith
number_positive refusals.Count = omega arith
number_positive refusals.Range = omega arith
number_positive refusals.Rank = omega arith
number_positive refusals.ShortWord = omega arith
number_positive refusals.Places = omega arith
number_positive refusals.Entries = omega arith
number_positive refusals.Length = omega arith
number_positive refusals.Kind = omega arith
number_positive refusals.Untrue = omega arith
