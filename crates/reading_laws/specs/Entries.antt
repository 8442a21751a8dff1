-- An entry in a book: what the checks of entry i say when none of them refuses, and that nothing else is needed.
use Rattle.std.specs.Prelude.{ℕ, suc, ◌+◌, ◌-◌, ◌≤◌, ◌<◌, ◌≡◌, refl, List, ◌∷◌, ◌++◌, length, get_or, take, drop}
use Rattle.std.proofs.Common.{sym, ap, ap₂, ◌∙◌, arith, length-drop, take-add, drop-drop, drop-cons, length-take-le, get_or-take, get_or-drop}
use Rattle.regular.specs.Smallest.{Entry}
use Rattle.regular.specs.Pattern.{of_length}
use Rattle.regular.specs.Book.{each, low_first, columns_kind, columns_length, columns_record, pattern_length, pattern_kind, pattern_record}
use Rattle.regular.specs.Book.{entry_length, book_length, EntryBytes, entry_of_columns}
use Rattle.regular.specs.InTurn.{Check, InTurn}
use Rattle.regular.specs.InTurnLaws.{turn_zero, check_zero}
use Rattle.regular.specs.Reading.{columns_in, pattern_place, EntryRises, TrueColumns, TruePattern, EntryChecks}
use Rattle.regular.specs.ReadingLaws.{record_zero, record_stands}
use Rattle.book.specs.EntryLaws.{columns_bytes}
use Rattle.reading_laws.specs.Cuts.{flat, flat_own, cut_left, cut_right}

-- a true entry: it is there, of a smallest form, in order, and its bytes are those of its columns
pub record EntryIn (n g r : ℕ) (book : List ℕ) (i : ℕ) : Type 0 where
  pub whole : book_length n i + entry_length n ≤ length book
  pub entry : Entry n (n - g) r (columns_in n book i)
  pub rises : EntryRises n book i
  pub bytes : EntryBytes n (entry_of_columns n g (columns_in n book i)) (take (entry_length n) (drop (book_length n i) book))

-- the first byte of a part
part_first : (k : ℕ) (book : List ℕ) (at x : ℕ) (rest : List ℕ) → 0 < k → take k (drop at book) ≡ x ∷ rest → get_or book at 0 ≡ x
part_first k book at x rest some e =
    let z : at + 0 ≡ at = omega arith in
    ap (λ (j : ℕ). get_or book j 0) (sym z)
    ∙ sym (get_or-drop at book 0 0)
    ∙ sym (get_or-take k (drop at book) 0 0 some)
    ∙ ap (λ (l : List ℕ). get_or l 0 0) e

-- the columns of entry i are n, where they are there
pub columns_size : (n : ℕ) (book : List ℕ) (i : ℕ) → book_length n i + columns_length n ≤ length book → length (columns_in n book i) ≡ n
columns_size n book i h = length-take-le n (drop (suc (book_length n i)) book) (omega (arith, length-drop (suc (book_length n i)) book))

module _ (n g r : ℕ) (book : List ℕ) (i : ℕ) where
  columns_record_lem : get_or book (book_length n i) 0 ≡ columns_kind n → book_length n i + columns_length n ≤ length book
      → take (columns_length n) (drop (book_length n i) book) ≡ columns_record n (columns_in n book i)
  columns_record_lem e h =
      let one : columns_length n ≡ suc n = omega arith in
      ap₂ (λ (k : ℕ) (l : List ℕ). take k l) one (drop-cons book (book_length n i) 0 (omega arith))
      ∙ ap₂ ◌∷◌ e (sym (flat_own n (columns_in n book i) (columns_size n book i h)))

  pub checks_entry : EntryChecks n g r book i 0 → EntryIn n g r book i
  checks_entry c =
      let columns = turn_zero (turn_zero c).0 in
      let pattern = turn_zero (turn_zero c).1 in
      let first = record_zero (columns_kind n) (columns_length n) book (book_length n i) 0 refl columns.0 in
      let second = record_zero (pattern_kind n) (pattern_length n) book (pattern_place n i) 0 refl pattern.0 in
      let t : TrueColumns n g r book i = check_zero (omega arith) columns.1 in
      let p : TruePattern n g book i = check_zero (omega arith) pattern.1 in
      record {
        whole = omega (arith, second.1);
        entry = t.entry;
        rises = t.rises;
        bytes = record {
          counts = p.counts;
          pattern = p.pattern;
          records = take-add (columns_length n) (pattern_length n) (drop (book_length n i) book)
              ∙ ap₂ ◌++◌ (columns_record_lem first.0 first.1) (ap (take (pattern_length n)) (drop-drop (columns_length n) (book_length n i) book) ∙ p.bytes);
        };
      }

  -- and back
  pub entry_checks : EntryIn n g r book i → EntryChecks n g r book i 0
  entry_checks x =
      let from : List ℕ = drop (book_length n i) book in
      let c = columns_in n book i in
      let columns = columns_record n c in
      let pattern = pattern_record n x.bytes.counts in
      let long : length columns ≡ columns_length n = omega (arith, columns_bytes c n) in
      let left : take (columns_length n) from ≡ columns = cut_left from columns pattern (columns_length n) (pattern_length n) long x.bytes.records in
      let counts : List ℕ = each (λ k. low_first (of_length x.bytes.counts (3 + k))) (n - 2) in
      let right : take (pattern_length n) (drop (pattern_place n i) book) ≡ pattern =
      ap (take (pattern_length n)) (sym (drop-drop (columns_length n) (book_length n i) book))
      ∙ cut_right from columns pattern (columns_length n) (pattern_length n) long x.bytes.records in
      InTurn.passes 0
      (InTurn.passes 0 (record_stands (columns_kind n) (columns_length n) book (book_length n i) (omega (arith, x.whole))
      (part_first (columns_length n) book (book_length n i) (columns_kind n) (flat n c) (omega arith) left) (omega (arith, x.whole)))
      (Check.holds (record { entry = x.entry; rises = x.rises })))
      (InTurn.passes 0 (record_stands (pattern_kind n) (pattern_length n) book (pattern_place n i) (omega (arith, x.whole))
      (part_first (pattern_length n) book (pattern_place n i) (pattern_kind n) counts (omega arith) right) (omega (arith, x.whole)))
      (Check.holds (record { counts = x.bytes.counts; pattern = x.bytes.pattern; bytes = right })))
