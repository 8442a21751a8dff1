-- Laws of the columns of an entry: what the tests of them find.
use Rattle.std.specs.Prelude.{ℕ, ◌-◌, ◌≤◌, ◌≡◌, refl, Bool, true, false, List}
use Rattle.std.proofs.Common.{sym, subst, arith}
use Rattle.gf2.specs.Answers.{Tells}
use Rattle.regular.specs.Book.{columns_kind, columns_length, book_length, most_plans}
use Rattle.regular.specs.InTurn.{Check}
use Rattle.regular.specs.InTurnLaws.{turn_zero, check_zero, refuses, goes_on}
use Rattle.regular.specs.Reading.{RecordAt, columns_in, EntryRises, TrueColumns, ColumnsChecks}
use Rattle.regular.specs.ReadingLaws.{record_zero}
use Rattle.regular.specs.Sizes.{Sized}
use Rattle.regular.specs.Smallest.{Entry, IsEntry}
use Rattle.reading.specs.Answers.{EntryThere}
use Rattle.reading.specs.Steps.{columns_long}

module _ (n g r : ℕ) (sized : Sized n g r) (book : List ℕ) (i : ℕ) (few : i ≤ most_plans) (at k : ℕ) (place : at ≡ book_length n i)
    (here : RecordAt (columns_kind n) (columns_length n) book at k) where
  record_here : RecordAt (columns_kind n) (columns_length n) book (book_length n i) k
  record_here = subst (λ (p : ℕ). RecordAt (columns_kind n) (columns_length n) book p k) place here

  pub no_columns : (k ≡ 0 → ⊥) → ColumnsChecks n g r book i k
  no_columns ne = refuses k ne record_here

  module _ (whole : k ≡ 0) where
    pub there : EntryThere n book i
    there = record {
      size = sized.size.most;
      few = few;
      whole = (record_zero (columns_kind n) (columns_length n) book (book_length n i) k whole record_here).1;
    }

    untrue : (TrueColumns n g r book i → ⊥) → ColumnsChecks n g r book i 12
    untrue ne = goes_on k 12 whole record_here (Check.fails ne)

    module _ {c : List ℕ} (e : c ≡ columns_in n book i) (b : Bool) (told : Tells b (IsEntry n g r c) (IsEntry n g r c → ⊥)) where
      is_entry_lem : Entry n (n - g) r (columns_in n book i) → IsEntry n g r c
      is_entry_lem h = subst (IsEntry n g r) (sym e) (record { sizes = sized; count = columns_long n book i there refl; entry = h })

      pub untrue_entry : b ≡ false → ColumnsChecks n g r book i 12
      untrue_entry y = untrue (λ t. told.1 y (is_entry_lem t.entry))

      module _ (d : Bool) (rises : Tells d (EntryRises n book i) (EntryRises n book i → ⊥)) where
        pub untrue_order : d ≡ false → ColumnsChecks n g r book i 12
        untrue_order y = untrue (λ t. rises.1 y t.rises)

        pub true_columns : b ≡ true → d ≡ true → ColumnsChecks n g r book i 0
        true_columns y z =
            goes_on k 0 whole record_here (Check.holds (record { entry = subst (Entry n (n - g) r) e (told.0 y).entry; rises = rises.0 z }))

-- true columns are an entry, and they are there
module _ (n g r : ℕ) (sized : Sized n g r) (book : List ℕ) (i : ℕ) (few : i ≤ most_plans) (k : ℕ) (e : k ≡ 0) (checks : ColumnsChecks n g r book i k) where
  checked : ColumnsChecks n g r book i 0
  checked = subst (ColumnsChecks n g r book i) e checks

  pub checked_there : EntryThere n book i
  checked_there = there n g r sized book i few (book_length n i) 0 refl (turn_zero checked).0 refl

  pub checked_entry : IsEntry n g r (columns_in n book i)
  checked_entry = record {
    sizes = sized;
    count = columns_long n book i checked_there refl;
    entry = (check_zero (omega arith) (turn_zero checked).1).entry;
  }
