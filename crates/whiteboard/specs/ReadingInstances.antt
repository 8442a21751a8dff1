-- Instances of the reader: a book of ABC and ABCD that is taken, and books that are refused, in the order in which the bytes bring the checks.
use Rattle.std.specs.Prelude.{ℕ, ◌≤◌, ◌≡◌, List, [], ◌∷◌, ◌++◌, length, get_or, replicate}
use Rattle.std.proofs.Math.Path.{refl}
use Rattle.std.proofs.Common.{sym, ap, subst, inl, inr, arith}
use Rattle.std.proofs.Math.Logic.{by_cases}
use Rattle.std.proofs.Math.Decide.{ℕ_discrete}
use Rattle.regular.specs.Accepted.{sizes_accepted}
use Rattle.regular.specs.Book.{each, entry_of_columns, EntryBytes}
use Rattle.regular.specs.InTurn.{Check, InTurn}
use Rattle.regular.specs.Columns.{plan_of}
use Rattle.regular.specs.Pattern.{of_length}
use Rattle.regular.specs.PlanBytes.{plan_at}
use Rattle.regular.specs.Reading.{RecordAt, HeaderChecks, columns_in, EntryRises, TrueColumns, TruePattern, EntryChecks, EntriesChecks, Reading}
use Rattle.regular.specs.ReadingAnswers.{Taken, refused_book, places_of, ReadsPlans}
use Rattle.regular.specs.ReadingLaws.{record_stands}
use Rattle.regular.specs.RefusalLaws.{lowest_at}
use Rattle.regular.specs.Refusals.{SizeFault, ResolutionFault, size_faults}
use Rattle.regular.specs.Smallest.{Before}
use Rattle.smallest_laws.specs.Dictionary.{not_both, equal_sym, equal_before, before_equal}
use Rattle.counts.specs.Patterns.{pattern_unique}
use Rattle.whiteboard.specs.BookInstances.{bytes_abc_lem, bytes_abcd_lem, book}
use Rattle.whiteboard.specs.PlanInstances.{pattern_abc, pattern_abcd, sized_4, short_abc, equal_abc, equal_abcd}
use Rattle.whiteboard.specs.ResultInstances.{plans}
use Rattle.whiteboard.specs.Samples.{abc, abcd, plan_abc, plan_abcd, catalogue_4}

-- the header of N 4, G 1, R 3 and two entries; the entries ABC and ABCD
abbrev head : List ℕ
head = 1 ∷ 4 ∷ 1 ∷ 3 ∷ 2 ∷ 0 ∷ []

abbrev pub first : List ℕ
first = 36 ∷ 1 ∷ 2 ∷ 3 ∷ 4 ∷ 68 ∷ 1 ∷ 0 ∷ 0 ∷ 0 ∷ []

abbrev pub second : List ℕ
second = 36 ∷ 1 ∷ 2 ∷ 4 ∷ 7 ∷ 68 ∷ 0 ∷ 0 ∷ 1 ∷ 0 ∷ []

abbrev pub rising : List ℕ
rising = head ++ first ++ second

-- a record: there, missing, of another kind, cut off
pub record_4 : RecordAt 36 5 rising 6 0
record_4 = record_stands 36 5 rising 6 (omega arith) refl (omega arith)

pub record_4_missing : RecordAt 36 5 rising 26 10
record_4_missing = InTurn.stops 10 (omega arith) (Check.fails (λ h. omega arith))

pub record_4_other : RecordAt 36 5 rising 7 11
record_4_other = InTurn.passes 11 (Check.holds (omega arith)) (InTurn.stops 11 (omega arith) (Check.fails (λ e. omega arith)))

pub record_4_cut : RecordAt 36 11 rising 16 10
record_4_cut = InTurn.passes 10 (Check.holds (omega arith)) (InTurn.passes 10 (Check.holds refl) (Check.fails (λ h. omega arith)))

-- the header, whatever follows it; no byte at all, another kind first, cut off; N 17 is 1, though it has no entry
pub header_4 : (rest : List ℕ) → HeaderChecks (head ++ rest) 0
header_4 rest =
    InTurn.passes 0 (record_stands 1 6 (head ++ rest) 0 (omega arith) refl (omega arith))
    (sizes_accepted 4 1 3 sized_4)

pub header_none : HeaderChecks [] 10
header_none = InTurn.stops 10 (omega arith) (InTurn.stops 10 (omega arith) (Check.fails (λ h. omega arith)))

pub header_other : HeaderChecks (2 ∷ 4 ∷ []) 11
header_other =
    InTurn.stops 11 (omega arith) (InTurn.passes 11 (Check.holds (omega arith)) (InTurn.stops 11 (omega arith) (Check.fails (λ e. omega arith))))

pub header_cut : HeaderChecks (1 ∷ 17 ∷ 1 ∷ 3 ∷ 0 ∷ []) 10
header_cut =
    InTurn.stops 10 (omega arith) (InTurn.passes 10 (Check.holds (omega arith)) (InTurn.passes 10 (Check.holds refl) (Check.fails (λ h. omega arith))))

pub header_17 : HeaderChecks (1 ∷ 17 ∷ 1 ∷ 3 ∷ 0 ∷ 0 ∷ []) 1
header_17 =
    InTurn.passes 1 (record_stands 1 6 (1 ∷ 17 ∷ 1 ∷ 3 ∷ 0 ∷ 0 ∷ []) 0 (omega arith) refl (omega arith))
    (lowest_at (size_faults 17 1 3) 1 (omega arith) (inl (SizeFault.factors (inr (omega arith)))) least)
  where
    least : (k : ℕ) → size_faults 17 1 3 k → 1 ≤ k
    least k (inl (SizeFault.factors h)) = omega arith
    least k (inl (SizeFault.generators h)) = omega arith
    least k (inr (ResolutionFault.outside h)) = omega arith

-- the entries, whatever follows them
module _ (rest : List ℕ) where
  pub columns_first : TrueColumns 4 1 3 (head ++ first ++ rest) 0
  columns_first = record { entry = catalogue_4.sound 0 (omega arith); rises = λ j e. absurd (omega arith) }

  pub pattern_first : TruePattern 4 1 (head ++ first ++ rest) 0
  unfolding each
  pattern_first = record { counts = 0 ∷ 0 ∷ 1 ∷ 0 ∷ []; pattern = pattern_abc; bytes = refl }

  entry_first : EntryChecks 4 1 3 (head ++ first ++ rest) 0 0
  entry_first =
      InTurn.passes 0
      (InTurn.passes 0 (record_stands 36 5 (head ++ first ++ rest) 6 (omega arith) refl (omega arith)) (Check.holds columns_first))
      (InTurn.passes 0 (record_stands 68 5 (head ++ first ++ rest) 11 (omega arith) refl (omega arith)) (Check.holds pattern_first))

module _ (rest : List ℕ) where
  pub columns_second : TrueColumns 4 1 3 (head ++ first ++ second ++ rest) 1
  columns_second = record {
    entry = catalogue_4.sound 1 (omega arith);
    rises = λ j e. let z : 0 ≡ j = omega arith in
        subst (λ (k : ℕ). Before 4 (columns_in 4 (head ++ first ++ second ++ rest) k) abcd) z (catalogue_4.order 0 1 (omega arith) (omega arith));
  }

  pub pattern_second : TruePattern 4 1 (head ++ first ++ second ++ rest) 1
  unfolding each
  pattern_second = record { counts = 0 ∷ 0 ∷ 0 ∷ 1 ∷ []; pattern = pattern_abcd; bytes = refl }

  entry_second : EntryChecks 4 1 3 (head ++ first ++ second ++ rest) 1 0
  entry_second =
      InTurn.passes 0
      (InTurn.passes 0 (record_stands 36 5 (head ++ first ++ second ++ rest) 16 (omega arith) refl (omega arith)) (Check.holds columns_second))
      (InTurn.passes 0 (record_stands 68 5 (head ++ first ++ second ++ rest) 21 (omega arith) refl (omega arith)) (Check.holds pattern_second))

  -- both
  both_entries : (k : ℕ) → Check 10 (length (head ++ first ++ second ++ rest) ≤ 26) k → EntriesChecks 4 1 3 (head ++ first ++ second ++ rest) 0 2 k
  unfolding EntriesChecks
  both_entries k c = InTurn.passes k (entry_first (second ++ rest)) (InTurn.passes k entry_second c)

  -- with a list of two places
  both : (k : ℕ) → Check 10 (length (head ++ first ++ second ++ rest) ≤ 26) k → Reading places_of 2 (head ++ first ++ second ++ rest) k
  both k c = InTurn.passes k (header_4 (first ++ second ++ rest)) (InTurn.passes k (Check.holds (omega arith)) (both_entries k c))

-- of these bytes alone
pub judged : EntriesChecks 4 1 3 rising 0 2 0
judged = both_entries [] 0 (Check.holds (omega arith))

-- taken; a byte left over; a list of one place: 8, though the records are cut off as well
pub read_rising : Reading places_of 2 rising 0
read_rising = both [] 0 (Check.holds (omega arith))

pub read_left : Reading places_of 2 (rising ++ (0 ∷ [])) 10
read_left = both (0 ∷ []) 10 (Check.fails (λ h. omega arith))

pub read_cramped : Reading places_of 1 head 8
read_cramped = InTurn.passes 8 (header_4 []) (InTurn.stops 8 (omega arith) (Check.fails (λ h. omega arith)))

-- the same entries in the other order, as the writer takes them: ABC does not come after ABCD
pub not_rising : EntryRises 4 book 1 → ⊥
not_rising f = not_both 4 abc abcd (inr (catalogue_4.order 0 1 (omega arith) (omega arith))) (f 0 refl)

-- no count of ABC is 2: 12, though the next record has another kind and is cut off
abbrev two : List ℕ
two = head ++ (36 ∷ 1 ∷ 2 ∷ 3 ∷ 4 ∷ 68 ∷ 2 ∷ 0 ∷ 0 ∷ 0 ∷ 99 ∷ [])

pub not_pattern : TruePattern 4 1 two 0 → ⊥
unfolding each
not_pattern t =
    let one : of_length t.counts 3 ≡ 1 =
    pattern_unique 4 (plan_of 4 3 abc) t.counts (0 ∷ 0 ∷ 1 ∷ 0 ∷ []) t.pattern pattern_abc 3 (omega arith) (omega arith) in
    omega (arith, one, ap (λ (l : List ℕ). get_or l 1 0) t.bytes)

pub read_untrue : Reading places_of 2 two 12
unfolding EntriesChecks
read_untrue =
    InTurn.passes 12 (header_4 (36 ∷ 1 ∷ 2 ∷ 3 ∷ 4 ∷ 68 ∷ 2 ∷ 0 ∷ 0 ∷ 0 ∷ 99 ∷ []))
    (InTurn.passes 12 (Check.holds (omega arith)) (InTurn.stops 12 (omega arith)
    (InTurn.passes 12
    (InTurn.passes 0 (record_stands 36 5 two 6 (omega arith) refl (omega arith))
    (Check.holds (record { entry = catalogue_4.sound 0 (omega arith); rises = λ j e. absurd (omega arith) })))
    (InTurn.passes 12 (record_stands 68 5 two 11 (omega arith) refl (omega arith)) (Check.fails not_pattern)))))

-- ABC has a word of three letters, so it is no entry of R 4
pub not_columns : TrueColumns 4 1 4 (1 ∷ 4 ∷ 1 ∷ 4 ∷ 1 ∷ 0 ∷ first) 0 → ⊥
not_columns t = omega (arith, t.entry.long short_abc.word short_abc.is, short_abc.few)

-- the book is that of the two entries
abbrev pub columns_of : ℕ → List ℕ
columns_of i = get_or (abc ∷ abcd ∷ []) i []

pub taken_rising : Taken 4 1 3 2 (λ i. entry_of_columns 4 1 (columns_of i)) rising
unfolding each
taken_rising = record {
  sized = sized_4;
  entries = catalogue_4.sound;
  rising = catalogue_4.order;
  is = record {
    body = first ++ second;
    entries = record {
      part = λ i. get_or (first ∷ second ∷ []) i [];
      parts = λ i h. by_cases (ℕ_discrete i 0)
          (λ e. subst (λ (k : ℕ). EntryBytes 4 (entry_of_columns 4 1 (columns_of k)) (get_or (first ∷ second ∷ []) k [])) (sym e) bytes_abc_lem)
          (λ ne. let e : 1 ≡ i = omega arith in
          subst (λ (k : ℕ). EntryBytes 4 (entry_of_columns 4 1 (columns_of k)) (get_or (first ∷ second ∷ []) k [])) e bytes_abcd_lem);
      joined = refl;
    };
    bytes = refl;
  };
}

-- refused for a list of eleven bytes
pub reads_refused : ReadsPlans rising (replicate 11 9) (replicate 11 9) (refused_book 8)
reads_refused = record {
  reads = record {
    number = InTurn.passes 8 (header_4 (first ++ second)) (InTurn.stops 8 (omega arith) (Check.fails (λ h. omega arith)));
    refused = λ _. (refl, refl);
    taken = λ e. absurd (omega arith);
    room = λ e. absurd (omega arith);
    rest = refl;
    size = refl;
  };
  unswitched = λ i h. absurd (omega arith);
}

-- in the other order they are not taken
pub not_taken : Taken 4 1 3 2 (λ i. entry_of_columns 4 1 (plan_at 4 plans i)) book → ⊥
not_taken t =
    not_both 4 abc abcd (inr (catalogue_4.order 0 1 (omega arith) (omega arith)))
    (equal_before 4 abcd plan_abcd abc equal_abcd
    (before_equal 4 plan_abcd plan_abc abc (t.rising 0 1 (omega arith) (omega arith)) (equal_sym 4 abc plan_abc equal_abc)))
