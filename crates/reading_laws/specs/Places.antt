-- What stands where in a book: its length, the header's numbers, and the bytes of entry i where a book of i entries ends.
use Rattle.std.specs.Prelude.{ℕ, suc, ◌+◌, ◌*◌, ◌<◌, ◌≡◌, refl, List, [], ◌∷◌, ◌++◌, length, get_or, take, drop}
use Rattle.std.proofs.Common.{sym, ap, subst, ◌∙◌, arith, length-append, drop-drop}
use Rattle.regular.specs.Smallest.{Equal}
use Rattle.regular.specs.Book.{columns_kind, columns_length, columns_record, pattern_length, pattern_record, header_length, header, entry_length, book_length}
use Rattle.regular.specs.Book.{BookEntry, EntryBytes, Book}
use Rattle.regular.specs.Reading.{factors_in, generators_in, resolution_in, count_in, columns_in}
use Rattle.book.specs.EntryLaws.{columns_bytes, entry_length_lem, entries_length}
use Rattle.reading_laws.specs.Cuts.{each_part, cut_left, cut_right, flat, flat_at}

-- the numbers of the header
pub record HeaderIs (n g r count : ℕ) (book : List ℕ) : Type 0 where
  pub factors : factors_in book ≡ n
  pub generators : generators_in book ≡ g
  pub resolution : resolution_in book ≡ r
  pub entries : count_in book ≡ count

module _ {n g r count : ℕ} {entry : ℕ → BookEntry} {book : List ℕ} (b : Book n g r count entry book) where
  pub book_size : length book ≡ book_length n count
  book_size = ap length b.bytes ∙ length-append (header n g r count) b.body ∙ ap (λ (k : ℕ). header_length + k) (entries_length b.entries)

  pub book_header : HeaderIs n g r count book
  book_header = record {
    factors = ap (λ (l : List ℕ). get_or l 1 0) b.bytes;
    generators = ap (λ (l : List ℕ). get_or l 2 0) b.bytes;
    resolution = ap (λ (l : List ℕ). get_or l 3 0) b.bytes;
    entries = ap count_in b.bytes ∙ omega arith;
  }

  module _ (i : ℕ) (h : i < count) where
    book_part : take (entry_length n) (drop (book_length n i) book) ≡ b.entries.part i
    book_part =
        ap (λ (l : List ℕ). take (entry_length n) (drop (book_length n i) l)) b.bytes
        ∙ ap (take (entry_length n)) (sym (drop-drop (i * entry_length n) header_length (header n g r count ++ b.body)))
        ∙ ap (λ (l : List ℕ). take (entry_length n) (drop (i * entry_length n) l)) b.entries.joined
        ∙ each_part b.entries.part (entry_length n) count (λ j l. entry_length_lem (b.entries.parts j l)) i h

    pub book_entry : EntryBytes n (entry i) (take (entry_length n) (drop (book_length n i) book))
    book_entry = subst (EntryBytes n (entry i)) (sym book_part) (b.entries.parts i h)

    -- the columns that stand there are the entry's
    pub book_columns : Equal n (columns_in n book i) (entry i).columns
    book_columns =
        let c = (entry i).columns in
        let from : List ℕ = drop (book_length n i) book in
        let long : length (columns_record n c) ≡ columns_length n = omega (arith, columns_bytes c n) in
        let whole : take (columns_length n) from ≡ columns_record n c =
        cut_left from (columns_record n c) (pattern_record n book_entry.counts) (columns_length n) (pattern_length n) long book_entry.records in
        let next : book_length n i + 1 ≡ suc (book_length n i) = omega arith in
        let body : columns_in n book i ≡ flat n c =
        ap (λ (k : ℕ). take n (drop k book)) (sym next)
        ∙ ap (take n) (sym (drop-drop 1 (book_length n i) book))
        ∙ cut_right from (columns_kind n ∷ []) (flat n c) 1 n refl whole in
        λ f l. ap (λ (d : List ℕ). get_or d f 0) body ∙ flat_at n c f l
