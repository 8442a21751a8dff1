-- What the reader promises and what its inner functions require is met: by the book of ABC and ABCD, N 4, G 1, R 3.
use Rattle.std.specs.Prelude.{ℕ, ◌<◌, ◌≡◌, refl, List, [], ◌∷◌, ◌++◌, get_or, replicate}
use Rattle.std.proofs.Common.{sym, subst, arith}
use Rattle.std.proofs.Math.Logic.{by_cases}
use Rattle.std.proofs.Math.Decide.{ℕ_discrete}
use Rattle.regular.specs.InTurn.{Check, InTurn}
use Rattle.regular.specs.Designs.{Holds, blank}
use Rattle.regular.specs.PlanBytes.{plan_at, mask_in}
use Rattle.regular.specs.Reading.{Reading}
use Rattle.regular.specs.ReadingAnswers.{places_of, ReadsPlans, ReadsDesigns}
use Rattle.regular.specs.Smallest.{Equal, Entry}
use Rattle.regular.specs.declared.Design.{Design}
use Rattle.regular.specs.declared.ReadAnswer.{ReadAnswer}
use Rattle.reading_laws.specs.Taken.{taken_like}
use Rattle.column_tables.specs.Tables.{Apart, column_tables_same}
use Rattle.entry_test.specs.Testing.{PositiveRising, KeptTables, kept_none}
use Rattle.reading.specs.Answers.{EntryThere, earlier_columns, Answered}
use Rattle.whiteboard.specs.PlanInstances.{record_abc, record_abcd, holds_abc, holds_abcd, equal_abc, equal_abcd}
use Rattle.whiteboard.specs.ReadingInstances.{first, second, rising, header_4, judged, read_rising, columns_of, taken_rising}
use Rattle.whiteboard.specs.Samples.{abc, abcd, plan_abc, plan_abcd}
use Rattle.whiteboard.specs.Tests.{below, agree_at}
use Rattle.instances.specs.Searching.{column, marks, sums}
use Rattle.instances.specs.Walking.{column_tables_1, rising_1}
use Rattle.instances.specs.Walking as walking

abbrev answer : ReadAnswer
answer = record { number = 0; factors = 4; generators = 1; resolution = 3; count = 2 }

-- the first two places of a list
two : (P : ℕ → Type 0) → P 0 → P 1 → (i : ℕ) → i < 2 → P i
two P a b i h = by_cases (ℕ_discrete i 0) (λ e. subst P (sym e) a) (λ ne. let e : 1 ≡ i = omega arith in subst P e b)

-- what the lists hold has the columns of the entries
abbrev bytes : List ℕ
bytes = plan_abc ++ plan_abcd ++ (9 ∷ [])

plans_agree : (i : ℕ) → i < 2 → Equal 4 (columns_of i) (plan_at 4 bytes i)
plans_agree = two (λ i. Equal 4 (columns_of i) (plan_at 4 bytes i)) equal_abc equal_abcd

abbrev list : List Design
list = record_abc ∷ record_abcd ∷ blank ∷ []

designs_agree : (i : ℕ) → i < 2 → Equal 4 (columns_of i) (get_or list i blank).columns
unfolding below
designs_agree = two (λ i. Equal 4 (columns_of i) (get_or list i blank).columns)
    (agree_at (λ f. get_or abc f 0) (λ f. get_or record_abc.columns f 0) 4 refl) (agree_at (λ f. get_or abcd f 0) (λ f. get_or record_abcd.columns f 0) 4 refl)

-- into thirteen bytes, the last of which stays
pub reads_plans : ReadsPlans rising (replicate 13 9) bytes answer
reads_plans = record {
  reads = record {
    number = InTurn.passes 0 (header_4 (first ++ second)) (InTurn.passes 0 (Check.holds (omega arith)) judged);
    refused = λ h. absurd (omega arith);
    taken = λ _. taken_like 4 1 3 2 columns_of (plan_at 4 bytes) rising plans_agree taken_rising;
    room = λ _. omega arith;
    rest = refl;
    size = refl;
  };
  unswitched = two (λ i. mask_in 4 (plan_at 4 bytes i) ≡ 0) refl refl;
}

-- into three records, the last of which stays
pub reads_designs : ReadsDesigns rising (blank ∷ blank ∷ blank ∷ []) list answer
reads_designs = record {
  reads = record {
    number = InTurn.passes 0 (header_4 (first ++ second)) (InTurn.passes 0 (Check.holds (omega arith)) judged);
    refused = λ h. absurd (omega arith);
    taken = λ _. taken_like 4 1 3 2 columns_of (λ i. (get_or list i blank).columns) rising designs_agree taken_rising;
    room = λ _. omega arith;
    rest = refl;
    size = refl;
  };
  records = two (λ i. Holds 4 3 (Entry 4 3 3) (get_or list i blank)) holds_abc holds_abcd;
}

-- the steps of the reader: the answer for a list of two places, and the columns of the second entry
pub answered_rising : Answered (Reading places_of 2 rising) rising answer
answered_rising = record { number = read_rising; refused = λ h. absurd (omega arith); header = λ _. refl; few = omega arith; low = λ _. omega arith }

pub there_second : EntryThere 4 rising 1
there_second = record { size = omega arith; few = omega arith; whole = omega arith }

-- the tables that are kept: of no column before the first entry, of one column; two equal columns have none
pub kept_first : KeptTables (earlier_columns 4 rising 0) (replicate 128 0) (replicate 128 0) (replicate 128 0)
kept_first = kept_none []

pub kept_1 : KeptTables (1 ∷ []) marks marks sums
kept_1 = record {
  few = omega arith;
  apart = λ i j h l. absurd (omega arith);
  tables = column_tables_same column (1 ∷ []) 1 (walking.first (λ i. get_or (1 ∷ []) i 0 ≡ get_or column i 0) refl) marks marks sums column_tables_1;
}

pub not_apart : Apart 2 (1 ∷ 1 ∷ []) → ⊥
not_apart p = p 0 1 (omega arith) (omega arith) refl

pub positive_1 : PositiveRising 1 column
positive_1 = record { above = rising_1.above; rising = rising_1.rising }
