-- Laws of the entries of a book: how long they are, which bytes they are, one entry more. The book of a list of plans is one list of bytes
-- (`book_unique`).
use Rattle.std.specs.Prelude.{ℕ, zero, suc, ◌+◌, ◌*◌, ◌-◌, ◌<◌, ◌≡◌, refl, Bool, true, false, List, [], ◌∷◌, ◌++◌, eqb, length, get_or}
use Rattle.std.proofs.Common.{sym, ap, ap₂, subst, ◌∙◌, suc-mul, add-one, arith, eq-eqb, ne_eqb, length-append}
use Rattle.std.proofs.Math.Logic.{by_cases}
use Rattle.std.proofs.Math.Decide.{ℕ_discrete}
use Rattle.regular.specs.Runs.{Runs}
use Rattle.regular.specs.Pattern.{Pattern, of_length}
use Rattle.counts.specs.Patterns.{pattern_unique}
use Rattle.regular.specs.Book.{low_first, each, header, columns_kind, columns_record, pattern_kind, pattern_record, entry_records, entry_length}
use Rattle.regular.specs.Book.{BookEntry, EntryBytes, EntriesBytes, Book}

-- parts one after another
pub each_more : (F : ℕ → List ℕ) (k : ℕ) → each F (k + 1) ≡ each F k ++ F k
unfolding each
each_more F k = ap (each F) (add-one k)

pub each_none : (F : ℕ → List ℕ) → each F 0 ≡ []
unfolding each
each_none F = refl

pub each_same : (F G : ℕ → List ℕ) (k : ℕ) → ((j : ℕ) → j < k → F j ≡ G j) → each F k ≡ each G k
unfolding each
each_same F G zero h = refl
each_same F G (suc k) h = ap₂ ◌++◌ (each_same F G k (λ j l. h j (omega arith))) (h k (omega arith))

pub each_length : (F : ℕ → List ℕ) (e k : ℕ) → ((j : ℕ) → j < k → length (F j) ≡ e) → length (each F k) ≡ k * e
unfolding each
each_length F e zero h = omega arith
each_length F e (suc k) h =
    length-append (each F k) (F k) ∙ omega (arith, each_length F e k (λ j l. h j (omega arith)), h k (omega arith), suc-mul k e)

-- the lengths of the bodies, and of an entry
pub columns_bytes : (c : List ℕ) (k : ℕ) → length (each (λ f. get_or c f 0 ∷ []) k) ≡ k
columns_bytes c k = omega (arith, each_length (λ f. get_or c f 0 ∷ []) 1 k (λ j h. refl))

pub counts_bytes : (p : List ℕ) (k : ℕ) → length (each (λ i. low_first (of_length p (3 + i))) k) ≡ 2 * k
counts_bytes p k = omega (arith, each_length (λ i. low_first (of_length p (3 + i))) 2 k (λ j h. refl))

pub records_length : (n : ℕ) (c p : List ℕ) → length (entry_records n c p) ≡ entry_length n
records_length n c p =
    length-append (columns_record n c) (pattern_record n p) ∙ omega (arith, columns_bytes c n, counts_bytes p (n - 2))

pub entry_length_lem : {n : ℕ} {entry : BookEntry} {bytes : List ℕ} → EntryBytes n entry bytes → length bytes ≡ entry_length n
entry_length_lem {n} {entry} {bytes} x = ap length x.records ∙ records_length n entry.columns x.counts

-- the same columns, the same record; the same plan, the same record
pub columns_same : (n : ℕ) (c d : List ℕ) → ((f : ℕ) → f < n → get_or c f 0 ≡ get_or d f 0) → columns_record n c ≡ columns_record n d
columns_same n c d h =
    ap (λ (l : List ℕ). columns_kind n ∷ l)
    (each_same (λ f. get_or c f 0 ∷ []) (λ f. get_or d f 0 ∷ []) n (λ f l. ap (λ (x : ℕ). x ∷ []) (h f l)))

pub pattern_same : (n : ℕ) (s : Runs) (p q : List ℕ) → Pattern n s p → Pattern n s q → pattern_record n p ≡ pattern_record n q
pattern_same n s p q a b =
    ap (λ (l : List ℕ). pattern_kind n ∷ l)
    (each_same (λ i. low_first (of_length p (3 + i))) (λ i. low_first (of_length q (3 + i))) (n - 2)
    (λ i l. ap low_first (pattern_unique n s p q a b (3 + i) (omega arith) (omega arith))))

-- an entry with the same columns, whose plan has the same patterns, has the same bytes
pub entry_like : {n : ℕ} {x y : BookEntry} {bytes : List ℕ} → columns_record n x.columns ≡ columns_record n y.columns
    → ((p : List ℕ) → Pattern n x.plan p → Pattern n y.plan p) → EntryBytes n x bytes → EntryBytes n y bytes
entry_like {n} {x} {y} {bytes} same plan e = record {
  counts = e.counts;
  pattern = plan e.counts e.pattern;
  records = e.records ∙ ap (λ (l : List ℕ). l ++ pattern_record n e.counts) same;
}

-- an entry has one list of bytes, and so has a book
entry_unique : {n : ℕ} {entry : BookEntry} {a b : List ℕ} → EntryBytes n entry a → EntryBytes n entry b → a ≡ b
entry_unique {n} {entry} {a} {b} x y =
    x.records
    ∙ ap (λ (l : List ℕ). columns_record n entry.columns ++ l) (pattern_same n entry.plan x.counts y.counts x.pattern y.pattern)
    ∙ sym y.records

entries_unique : {n count : ℕ} {entry : ℕ → BookEntry} {a b : List ℕ} → EntriesBytes n entry count a → EntriesBytes n entry count b → a ≡ b
entries_unique {n} {count} {entry} {a} {b} x y =
    x.joined ∙ each_same x.part y.part count (λ i h. entry_unique (x.parts i h) (y.parts i h)) ∙ sym y.joined

pub book_unique : (n g r count : ℕ) (entry : ℕ → BookEntry) (a b : List ℕ) → Book n g r count entry a → Book n g r count entry b → a ≡ b
book_unique n g r count entry a b x y =
    x.bytes ∙ ap (λ (l : List ℕ). header n g r count ++ l) (entries_unique x.entries y.entries) ∙ sym y.bytes

-- how long the entries are
pub entries_length : {n count : ℕ} {entry : ℕ → BookEntry} {bytes : List ℕ} → EntriesBytes n entry count bytes → length bytes ≡ count * entry_length n
entries_length {n} {count} {entry} {bytes} x =
    ap length x.joined ∙ each_length x.part (entry_length n) count (λ j h. entry_length_lem (x.parts j h))

-- no entry
pub entries_none : (n : ℕ) (entry : ℕ → BookEntry) → EntriesBytes n entry 0 []
entries_none n entry = record { part = λ _. []; parts = λ j h. absurd (omega arith); joined = sym (each_none (λ _. [])) }

-- one more: the parts with another at i
if_here : Bool → List ℕ → List ℕ → List ℕ
if_here true here other = here
if_here false here other = other

abbrev with_part : (ℕ → List ℕ) → ℕ → List ℕ → ℕ → List ℕ
with_part all i bytes j = if_here (eqb j i) bytes (all j)

part_same : (all : ℕ → List ℕ) (i : ℕ) (bytes : List ℕ) → with_part all i bytes i ≡ bytes
unfolding if_here
part_same all i bytes = ap (λ (b : Bool). if_here b bytes (all i)) (eq-eqb i i refl)

part_other : (all : ℕ → List ℕ) (i : ℕ) (bytes : List ℕ) (j : ℕ) → (j ≡ i → ⊥) → with_part all i bytes j ≡ all j
unfolding if_here
part_other all i bytes j ne = ap (λ (b : Bool). if_here b bytes (all j)) (ne_eqb j i ne)

pub entries_more : {n i : ℕ} {entry : ℕ → BookEntry} {body bytes : List ℕ} → EntriesBytes n entry i body → EntryBytes n (entry i) bytes
    → EntriesBytes n entry (i + 1) (body ++ bytes)
entries_more {n} {i} {entry} {body} {bytes} x e = record {
  part = all;
  parts = λ j h. by_cases (ℕ_discrete j i)
      (λ same. subst (λ (k : ℕ). EntryBytes n (entry k) (all k)) (sym same) (subst (EntryBytes n (entry i)) (sym here) e))
      (λ ne. subst (EntryBytes n (entry j)) (sym (part_other x.part i bytes j ne)) (x.parts j (omega arith)));
  joined = ap₂ ◌++◌ (x.joined ∙ each_same x.part all i before) (sym here) ∙ sym (each_more all i);
}
  where
    all : ℕ → List ℕ
    all = with_part x.part i bytes

    here : all i ≡ bytes
    here = part_same x.part i bytes

    before : (j : ℕ) → j < i → x.part j ≡ all j
    before j h = sym (part_other x.part i bytes j (λ q. omega arith))
