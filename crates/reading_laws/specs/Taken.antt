-- The books that the reader takes are those of its rules: a book that is read without a refusal is taken, and a taken book is read so.
use Rattle.std.specs.Prelude.{ℕ, zero, suc, ◌+◌, ◌*◌, ◌-◌, ◌/◌, ◌%◌, ◌≤◌, ◌<◌, ◌≡◌, refl, List, [], ◌∷◌, ◌++◌, length, take, drop}
use Rattle.std.proofs.Math.Path.{sym, ap, ap₂}
use Rattle.std.proofs.Common.{subst, ◌∙◌, zero-mul, suc-mul, arith, length-append, length-drop, take-append-drop, take_all}
use Rattle.std.proofs.Math.Logic.{by_cases}
use Rattle.std.proofs.Math.Decide.{ℕ_discrete}
use Rattle.std.proofs.Math.ListN.{get_or}
use Rattle.regular.specs.Sizes.{Sized}
use Rattle.regular.specs.Refusals.{size_faults}
use Rattle.regular.specs.RefusalLaws.{none_lowest}
use Rattle.regular.specs.Accepted.{accepted_sizes, sizes_accepted}
use Rattle.regular.specs.Columns.{plan_of}
use Rattle.regular.specs.Smallest.{Before, Equal}
use Rattle.regular.specs.Book.{each, header_kind, header_length, header, columns_length, entry_length, book_length}
use Rattle.regular.specs.PlanBytes.{byte_values}
use Rattle.regular.specs.Book.{BookEntry, entry_of_columns, EntryBytes, Book}
use Rattle.regular.specs.InTurn.{Check, InTurn}
use Rattle.regular.specs.InTurnLaws.{turn_zero, check_zero}
use Rattle.regular.specs.Reading.{factors_in, generators_in, resolution_in, count_in, columns_in, EntriesChecks, Reading}
use Rattle.regular.specs.ReadingAnswers.{Taken}
use Rattle.regular.specs.ReadingLaws.{record_zero, record_stands}
use Rattle.words.specs.Switches.{pattern_agree}
use Rattle.smallest_laws.specs.Dictionary.{before_trans, before_equal, equal_before, equal_sym}
use Rattle.smallest_laws.specs.Growth.{plan_equal, entry_equal}
use Rattle.book.specs.EntryLaws.{columns_same, entry_like}
use Rattle.book.specs.WritingLaws.{entry_room_lem}
use Rattle.reading_laws.specs.Cuts.{each_cut, flat_take}
use Rattle.reading_laws.specs.Entries.{EntryIn, checks_entry, entry_checks}
use Rattle.reading_laws.specs.Places.{book_size, book_entry, book_columns}

-- the entries of columns: those of a list of plans as bytes, and of a list of design records, are such
abbrev pub entries_of : ℕ → ℕ → (ℕ → List ℕ) → ℕ → BookEntry
entries_of n g columns i = entry_of_columns n g (columns i)

-- ---- equal columns

entry_bytes_like : (n g : ℕ) (c d : List ℕ) → Equal n c d → {bytes : List ℕ} → EntryBytes n (entry_of_columns n g c) bytes
    → EntryBytes n (entry_of_columns n g d) bytes
entry_bytes_like n g c d e = entry_like (columns_same n c d e) (pattern_agree n (plan_of n (n - g) c) (plan_of n (n - g) d) (plan_equal n (n - g) c d e))

pub before_like : (n : ℕ) (a b c d : List ℕ) → Equal n a c → Equal n b d → Before n a b → Before n c d
before_like n a b c d p q x = before_equal n c b d (equal_before n c a b (equal_sym n a c p) x) q

module _ (n g r count : ℕ) (columns others : ℕ → List ℕ) (book : List ℕ) (e : (i : ℕ) → i < count → Equal n (columns i) (others i)) where
  pub book_like : Book n g r count (entries_of n g columns) book → Book n g r count (entries_of n g others) book
  book_like b = record {
    body = b.body;
    entries = record {
      part = b.entries.part;
      parts = λ i h. entry_bytes_like n g (columns i) (others i) (e i h) (b.entries.parts i h);
      joined = b.entries.joined;
    };
    bytes = b.bytes;
  }

  pub taken_like : Taken n g r count (entries_of n g columns) book → Taken n g r count (entries_of n g others) book
  taken_like t = record {
    sized = t.sized;
    entries = λ i h. entry_equal n (n - g) (columns i) (others i) (e i h) r (t.entries i h);
    rising = λ i j h l. before_like n (columns i) (columns j) (others i) (others j) (e i (omega arith)) (e j l) (t.rising i j h l);
    is = book_like t.is;
  }

-- ---- what is read is taken

-- the entries that are due from entry i on
record EntriesIn (n g r : ℕ) (book : List ℕ) (i due : ℕ) : Type 0 where
  pub entry : (j : ℕ) → i ≤ j → j < i + due → EntryIn n g r book j
  pub end : length book ≤ book_length n (i + due)

checks_entries : (n g r : ℕ) (book : List ℕ) (i due : ℕ) → EntriesChecks n g r book i due 0 → EntriesIn n g r book i due
unfolding EntriesChecks
checks_entries n g r book i zero c =
    let z : i + 0 ≡ i = omega arith in
    record { entry = λ j h l. absurd (omega arith); end = subst (λ (k : ℕ). length book ≤ book_length n k) (sym z) (check_zero (omega arith) c) }
checks_entries n g r book i (suc due) c =
    let t = turn_zero c in
    let later = checks_entries n g r book (suc i) due t.1 in
    let z : suc i + due ≡ i + suc due = omega arith in
    record {
      entry = λ j h l. by_cases (ℕ_discrete i j) (λ e. subst (EntryIn n g r book) e (checks_entry n g r book i t.0))
          (λ ne. later.entry j (omega arith) (omega arith));
      end = subst (λ (k : ℕ). length book ≤ book_length n k) z later.end;
    }

-- each after the one before it: each after all before it
rises : (n count : ℕ) (columns : ℕ → List ℕ) → ((i : ℕ) → suc i < count → Before n (columns i) (columns (suc i)))
    → (i j : ℕ) → i < j → j < count → Before n (columns i) (columns j)
rises n count columns next i zero h l = absurd (omega arith)
rises n count columns next i (suc j) h l =
    by_cases (ℕ_discrete i j) (λ e. subst (λ (k : ℕ). Before n (columns k) (columns (suc j))) (sym e) (next j l))
    (λ ne. before_trans n (columns i) (columns j) (columns (suc j)) (rises n count columns next i j (omega arith) (omega arith)) (next j l))

low_of : (x y : ℕ) → x < byte_values → (x + byte_values * y) % byte_values ≡ x
low_of x y h = omega arith

high_of : (x y : ℕ) → x < byte_values → (x + byte_values * y) / byte_values ≡ y
high_of x y h = omega arith

module _ (takes : ℕ → ℕ → ℕ) (places : ℕ) (book : List ℕ) (x : Reading takes places book 0) where
  header_read : (get_or book 0 0 ≡ header_kind) × (0 + header_length ≤ length book)
  header_read = record_zero header_kind header_length book 0 0 refl (turn_zero (turn_zero x).0).0

  -- there is room
  pub read_room : takes (factors_in book) (count_in book) ≤ places
  read_room = check_zero (omega arith) (turn_zero (turn_zero x).1).0

  pub read_sized : Sized (factors_in book) (generators_in book) (resolution_in book)
  read_sized =
      accepted_sizes (factors_in book) (generators_in book) (resolution_in book)
      (none_lowest (size_faults (factors_in book) (generators_in book) (resolution_in book)) (turn_zero (turn_zero x).0).1)

  entries_read : EntriesIn (factors_in book) (generators_in book) (resolution_in book) book 0 (count_in book)
  entries_read = checks_entries (factors_in book) (generators_in book) (resolution_in book) book 0 (count_in book) (turn_zero (turn_zero x).1).1

  -- entry i is true
  read_entry : (i : ℕ) → i < count_in book → EntryIn (factors_in book) (generators_in book) (resolution_in book) book i
  read_entry i h = entries_read.entry i (omega arith) (omega arith)

  -- its columns are there
  pub read_columns_lem : (i : ℕ) → i < count_in book → book_length (factors_in book) i + columns_length (factors_in book) ≤ length book
  read_columns_lem i h = omega (arith, (read_entry i h).whole)

  -- nothing is left over
  pub read_whole : length book ≡ book_length (factors_in book) (count_in book)
  read_whole = by_cases (ℕ_discrete (count_in book) 0) none some
    where
      end : length book ≤ header_length + count_in book * entry_length (factors_in book)
      end = let z : 0 + count_in book ≡ count_in book = omega arith in subst (λ (k : ℕ). length book ≤ book_length (factors_in book) k) z entries_read.end

      none : count_in book ≡ 0 → length book ≡ book_length (factors_in book) (count_in book)
      none e = omega (arith, end, header_read.1, ap (λ (k : ℕ). k * entry_length (factors_in book)) e, zero-mul (entry_length (factors_in book)))

      some : (count_in book ≡ 0 → ⊥) → length book ≡ book_length (factors_in book) (count_in book)
      some ne =
          let last : suc (count_in book - 1) ≡ count_in book = omega arith in
          omega (
            arith,
            end,
            (read_entry (count_in book - 1) (omega arith)).whole,
            suc-mul (count_in book - 1) (entry_length (factors_in book)),
            ap (λ (k : ℕ). k * entry_length (factors_in book)) last,
          )

  -- the header is that of the numbers that are read from it
  header_is : get_or book 4 0 < byte_values → take header_length book ≡ header (factors_in book) (generators_in book) (resolution_in book) (count_in book)
  unfolding each
  header_is low =
      sym (flat_take header_length book (omega (arith, header_read.1)))
      ∙ ap (λ (k : ℕ). k ∷ factors_in book ∷ generators_in book ∷ resolution_in book ∷ get_or book 4 0 ∷ get_or book 5 0 ∷ []) header_read.0
      ∙ ap₂ (λ (a b : ℕ). header_kind ∷ factors_in book ∷ generators_in book ∷ resolution_in book ∷ a ∷ b ∷ [])
      (sym (low_of (get_or book 4 0) (get_or book 5 0) low)) (sym (high_of (get_or book 4 0) (get_or book 5 0) low))

  -- what is read without a refusal is taken
  pub read_taken : get_or book 4 0 < byte_values
      → Taken (factors_in book) (generators_in book) (resolution_in book) (count_in book)
      (entries_of (factors_in book) (generators_in book) (columns_in (factors_in book) book)) book
  read_taken low =
      let size : ℕ = entry_length (factors_in book) in
      let body : List ℕ = drop header_length book in
      record {
        sized = read_sized;
        entries = λ i h. (read_entry i h).entry;
        rising = rises (factors_in book) (count_in book) (columns_in (factors_in book) book) (λ i h. (read_entry (suc i) h).rises i refl);
        is = record {
          body = body;
          entries = record {
            part = λ i. take size (drop (header_length + i * size) book);
            parts = λ i h. (read_entry i h).bytes;
            joined = sym (each_cut book header_length size (count_in book)
                ∙ take_all (count_in book * size) body (omega (arith, read_whole, length-drop header_length book)));
          };
          bytes = sym (take-append-drop header_length book) ∙ ap (λ (l : List ℕ). l ++ body) (header_is low);
        };
      }

-- ---- what is taken is read

entries_checks : (n g r : ℕ) (book : List ℕ) (i due : ℕ) → EntriesIn n g r book i due → EntriesChecks n g r book i due 0
unfolding EntriesChecks
entries_checks n g r book i zero x =
    let z : i + 0 ≡ i = omega arith in
    Check.holds (subst (λ (k : ℕ). length book ≤ book_length n k) z x.end)
entries_checks n g r book i (suc due) x =
    let z : i + suc due ≡ suc i + due = omega arith in
    InTurn.passes 0 (entry_checks n g r book i (x.entry i (omega arith) (omega arith)))
    (entries_checks n g r book (suc i) due (record {
      entry = λ j h l. x.entry j (omega arith) (omega arith);
      end = subst (λ (k : ℕ). length book ≤ book_length n k) z x.end;
    }))

module _ (n g r count : ℕ) (columns : ℕ → List ℕ) (book : List ℕ) (t : Taken n g r count (entries_of n g columns) book) where
  own : (i : ℕ) → i < count → Equal n (columns i) (columns_in n book i)
  own i h = equal_sym n (columns_in n book i) (columns i) (book_columns t.is i h)

  taken_entry : (i : ℕ) → i < count → EntryIn n g r book i
  taken_entry i h = record {
    whole = omega (arith, book_size t.is, entry_room_lem n i count h);
    entry = entry_equal n (n - g) (columns i) (columns_in n book i) (own i h) r (t.entries i h);
    rises = λ j e. before_like n (columns j) (columns i) (columns_in n book j) (columns_in n book i) (own j (omega arith)) (own i h)
        (t.rising j i (omega arith) h);
    bytes = entry_bytes_like n g (columns i) (columns_in n book i) (own i h) (book_entry t.is i h);
  }

  taken_entries : EntriesChecks n g r book 0 count 0
  taken_entries =
      let z : count ≡ 0 + count = omega arith in
      entries_checks n g r book 0 count (record {
        entry = λ j h l. taken_entry j (omega arith);
        end = subst (λ (k : ℕ). length book ≤ book_length n k) z (omega (arith, book_size t.is));
      })

  -- what is taken is read without a refusal, where there is room
  pub taken_read : (takes : ℕ → ℕ → ℕ) (places : ℕ) → takes n count ≤ places → Reading takes places book 0
  taken_read takes places room =
      let whole : List ℕ = header n g r count ++ t.is.body in
      let long : length whole ≡ header_length + length t.is.body = length-append (header n g r count) t.is.body in
      let own-count : count ≡ count_in whole = omega arith in
      subst (λ (l : List ℕ). Reading takes places l 0) (sym t.is.bytes)
      (InTurn.passes 0
      (InTurn.passes 0 (record_stands header_kind header_length whole 0 (omega (arith, long)) refl (omega (arith, long))) (sizes_accepted n g r t.sized))
      (subst (λ (k : ℕ). InTurn (Check 8 (takes n k ≤ places)) (EntriesChecks n g r whole 0 k) 0) own-count
      (InTurn.passes 0 (Check.holds room) (subst (λ (l : List ℕ). EntriesChecks n g r l 0 count 0) t.is.bytes taken_entries))))

-- ---- exactly

-- a book that keeps the rules, for which there is room
pub record Readable (takes : ℕ → ℕ → ℕ) (places : ℕ) (book : List ℕ) : Type 0 where
  pub n : ℕ
  pub g : ℕ
  pub r : ℕ
  pub count : ℕ
  pub columns : ℕ → List ℕ
  pub taken : Taken n g r count (entries_of n g columns) book
  pub room : takes n count ≤ places

-- the number is 0 exactly for such a book
pub read_exactly : (takes : ℕ → ℕ → ℕ) (places : ℕ) (book : List ℕ) → get_or book 4 0 < byte_values
    → (Reading takes places book 0 → Readable takes places book) × (Readable takes places book → Reading takes places book 0)
read_exactly takes places book low = (
  λ x. record {
    n = factors_in book;
    g = generators_in book;
    r = resolution_in book;
    count = count_in book;
    columns = columns_in (factors_in book) book;
    taken = read_taken takes places book x low;
    room = read_room takes places book x;
  },
  λ y. taken_read y.n y.g y.r y.count y.columns book y.taken takes places y.room,
)
