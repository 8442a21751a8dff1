-- Laws of the pattern of an entry: what the test of it finds.
use Rattle.std.specs.Prelude.{ℕ, suc, ◌+◌, ◌*◌, ◌-◌, ◌≤◌, ◌<◌, ◌≡◌, refl, Bool, true, false, List, [], ◌∷◌, length, get_or, take, drop}
use Rattle.std.proofs.Common.{sym, ap, ap₂, subst₂, ◌∙◌, inl, arith, length-drop, drop-cons, length-take-le}
use Rattle.gf2.specs.Answers.{Tells}
use Rattle.regular.specs.Columns.{plan_of}
use Rattle.regular.specs.Pattern.{Pattern, of_length}
use Rattle.regular.specs.Book.{low_first, each, pattern_kind, pattern_length}
use Rattle.regular.specs.InTurn.{Check}
use Rattle.regular.specs.InTurnLaws.{refuses, goes_on}
use Rattle.regular.specs.Given.{of_bare}
use Rattle.regular.specs.Reading.{RecordAt, columns_in, pattern_place, PatternChecks}
use Rattle.regular.specs.ReadingLaws.{record_zero}
use Rattle.regular.specs.Refusals.{bare_faults}
use Rattle.regular.specs.RefusalLaws.{lowest_none, lowest_unique, none_lowest}
use Rattle.regular.specs.Smallest.{IsEntry}
use Rattle.regular.specs.Answers.{Admitted}
use Rattle.admission.specs.Admission.{Admission, Ready, ready}
use Rattle.measures.specs.Measured.{pattern_given}
use Rattle.plan_lists.specs.Judged.{bare_wanted}
use Rattle.entry_test.specs.Testing.{entry_accepted}
use Rattle.book.specs.EntryLaws.{each_same, pattern_same}
use Rattle.reading_laws.specs.Cuts.{each_cut, each_part}
use Rattle.reading.specs.Answers.{CountsAt}

-- the two bytes at a place
pub two_bytes : (book : List ℕ) (at : ℕ) → at + 2 ≤ length book → take 2 (drop at book) ≡ get_or book at 0 ∷ get_or book (at + 1) 0 ∷ []
two_bytes book at h =
    let next : suc at ≡ at + 1 = omega arith in
    ap (take 2) (drop-cons book at 0 (omega arith) ∙ ap (λ (l : List ℕ). get_or book at 0 ∷ l) (drop-cons book (suc at) 0 (omega arith)))
    ∙ ap (λ (j : ℕ). get_or book at 0 ∷ get_or book j 0 ∷ []) next

-- the counts of a pattern, as numbers and as bytes
module _ (counts book : List ℕ) (at k : ℕ) (room : at + k * 2 ≤ length book) where
  abbrev number : ℕ → List ℕ
  number i = low_first (of_length counts (3 + i))

  abbrev part : ℕ → List ℕ
  part i = take 2 (drop (at + i * 2) book)

  within : (i : ℕ) → i < k → at + i * 2 + 2 ≤ length book
  within i h = omega arith

  counts_stand : CountsAt k counts book at → take (k * 2) (drop at book) ≡ each number k
  counts_stand c =
      sym (each_cut book at 2 k)
      ∙ each_same part number k (λ i h. two_bytes book (at + i * 2) (within i h) ∙ ap₂ (λ (x y : ℕ). x ∷ y ∷ []) (c i h).0 (c i h).1)

  stand_counts : take (k * 2) (drop at book) ≡ each number k → CountsAt k counts book at
  stand_counts e i h = (ap (λ (l : List ℕ). get_or l 0 0) same, ap (λ (l : List ℕ). get_or l 1 0) same)
    where
      long : (j : ℕ) → j < k → length (part j) ≡ 2
      long j l = length-take-le 2 (drop (at + j * 2) book) (omega (arith, length-drop (at + j * 2) book, within j l))

      same : get_or book (at + i * 2) 0 ∷ get_or book (at + i * 2 + 1) 0 ∷ [] ≡ number i
      same =
          sym (two_bytes book (at + i * 2) (within i h))
          ∙ sym (each_part part 2 k long i h)
          ∙ ap (λ (l : List ℕ). take 2 (drop (i * 2) l)) (each_cut book at 2 k ∙ e)
          ∙ each_part number 2 k (λ j l. refl) i h

-- an entry is admitted
module _ (n g r : ℕ) (c : List ℕ) (is : IsEntry n g r c) (a : Admitted) (ad : Admission n g (of_bare n g c) a) where
  pub entry_admitted : a.number ≡ 0
  entry_admitted =
      lowest_unique (bare_faults n g c) a.number 0 ad.lowest
      (lowest_none (bare_faults n g c) (λ k f. none_lowest (bare_wanted n g r c) (entry_accepted n g r c is) k (inl f)))

  pub entry_ready : Ready n g a.columns
  entry_ready = ready ad entry_admitted

  -- the pattern of its standard columns is its own
  pub entry_pattern : (counts : List ℕ) → Pattern n (plan_of n (n - g) a.columns) counts → Pattern n (plan_of n (n - g) c) counts
  entry_pattern counts p = pattern_given ad entry_admitted counts p

-- the record of the pattern, and what it says
module _ (n g : ℕ) (book : List ℕ) (i at len k : ℕ) (place : at ≡ pattern_place n i) (size : len ≡ pattern_length n)
    (here : RecordAt (pattern_kind n) len book at k) where
  record_here : RecordAt (pattern_kind n) (pattern_length n) book (pattern_place n i) k
  record_here = subst₂ (λ (l p : ℕ). RecordAt (pattern_kind n) l book p k) size place here

  pub no_pattern : (k ≡ 0 → ⊥) → PatternChecks n g book i k
  no_pattern ne = refuses k ne record_here

  module _ (whole : k ≡ 0) where
    stands : (get_or book (pattern_place n i) 0 ≡ pattern_kind n) × (pattern_place n i + pattern_length n ≤ length book)
    stands = record_zero (pattern_kind n) (pattern_length n) book (pattern_place n i) k whole record_here

    pub counts_room : at + 1 + (n - 2) * 2 ≤ length book
    counts_room = omega (arith, place, stands.1)

    bytes_are : take (pattern_length n) (drop (pattern_place n i) book) ≡ pattern_kind n ∷ take ((n - 2) * 2) (drop (at + 1) book)
    bytes_are =
        let long : pattern_length n ≡ suc ((n - 2) * 2) = omega arith in
        let next : suc (pattern_place n i) ≡ at + 1 = omega (arith, place) in
        ap₂ take long (drop-cons book (pattern_place n i) 0 (omega (arith, stands.1)))
        ∙ ap₂ (λ (x j : ℕ). x ∷ take ((n - 2) * 2) (drop j book)) stands.0 next

    module _ (counts : List ℕ) (own : Pattern n (plan_of n (n - g) (columns_in n book i)) counts) (b : Bool)
        (told : Tells b (CountsAt (n - 2) counts book (at + 1)) (CountsAt (n - 2) counts book (at + 1) → ⊥)) where
      pub true_pattern : b ≡ true → PatternChecks n g book i 0
      true_pattern y = goes_on k 0 whole record_here (Check.holds (record {
        counts = counts;
        pattern = own;
        bytes = bytes_are ∙ ap (λ (l : List ℕ). pattern_kind n ∷ l) (counts_stand counts book (at + 1) (n - 2) counts_room (told.0 y));
      }))

      pub untrue_pattern : b ≡ false → PatternChecks n g book i 12
      untrue_pattern y = goes_on k 12 whole record_here (Check.fails (λ t. told.1 y (stand_counts counts book (at + 1) (n - 2) counts_room
          (ap (drop 1) (sym bytes_are ∙ t.bytes ∙ pattern_same n (plan_of n (n - g) (columns_in n book i)) t.counts counts t.pattern own)))))
