-- Instances of the book: the bytes of an entry, the book of ABCD and ABC at R 3, and what its writer answers for plans as bytes, for records, and when
-- it refuses.
use Rattle.std.specs.Prelude.{◌≡◌, refl, true, List, [], ◌∷◌, ◌++◌, ℕ, ◌<◌, get_or, replicate}
use Rattle.std.proofs.Common.{sym, ap, subst, arith}
use Rattle.std.proofs.Math.Logic.{by_cases}
use Rattle.std.proofs.Math.Decide.{ℕ_discrete}
use Rattle.standard.specs.Runs.{plan_cols}
use Rattle.regular.specs.Book.{each, header_kind, columns_kind, pattern_kind, entry_length, entry_of_columns, entry_of_design, EntryBytes, EntriesBytes, Book}
use Rattle.regular.specs.Book.{most_plans, CountFault, WritesPlans, WritesDesigns}
use Rattle.regular.specs.Columns.{plan_of}
use Rattle.regular.specs.Designs.{blank}
use Rattle.regular.specs.Pattern.{Pattern}
use Rattle.regular.specs.PlanBytes.{plan_at}
use Rattle.regular.specs.PlanLists.{wanted_records_faults, wanted_plans_faults}
use Rattle.regular.specs.RefusalLaws.{lowest_none, lowest_then, lent_fits, lent_short}
use Rattle.regular.specs.Refusals.{LentFault, either, Lowest}
use Rattle.regular.specs.Smallest.{Equal}
use Rattle.words.specs.Switches.{pattern_agree}
use Rattle.whiteboard.specs.ListInstances.{plans_wanted, records_wanted, two_records}
use Rattle.whiteboard.specs.PlanInstances.{record_abc, record_abcd, pattern_abc, pattern_abcd, equal_abc, equal_abcd}
use Rattle.whiteboard.specs.ResultInstances.{plans}
use Rattle.whiteboard.specs.Samples.{abc, abcd, plan_abc, plan_abcd}
use Rattle.whiteboard.specs.Tests.{below, agree_at}

-- the kinds of four factors, as the paper writes them: 0x01, 0x24, 0x44
pub kinds_4 : (header_kind ≡ 1) × (columns_kind 4 ≡ 36) × (pattern_kind 4 ≡ 68)
kinds_4 = (refl, refl, refl)

-- an entry of one, two, four and sixteen factors has so many bytes
pub entry_lengths : (entry_length 1 ≡ 3) × (entry_length 2 ≡ 4) × (entry_length 4 ≡ 10) × (entry_length 16 ≡ 46)
entry_lengths = (refl, refl, refl, refl)

-- the bytes of ABCD and of ABC
abbrev bytes_abcd : List ℕ
bytes_abcd = 36 ∷ 1 ∷ 2 ∷ 4 ∷ 7 ∷ 68 ∷ 0 ∷ 0 ∷ 1 ∷ 0 ∷ []

abbrev bytes_abc : List ℕ
bytes_abc = 36 ∷ 1 ∷ 2 ∷ 3 ∷ 4 ∷ 68 ∷ 1 ∷ 0 ∷ 0 ∷ 0 ∷ []

pub bytes_abcd_lem : EntryBytes 4 (entry_of_columns 4 1 abcd) bytes_abcd
unfolding each
bytes_abcd_lem = record { counts = 0 ∷ 0 ∷ 0 ∷ 1 ∷ []; pattern = pattern_abcd; records = refl }

pub bytes_abc_lem : EntryBytes 4 (entry_of_columns 4 1 abc) bytes_abc
unfolding each
bytes_abc_lem = record { counts = 0 ∷ 0 ∷ 1 ∷ 0 ∷ []; pattern = pattern_abc; records = refl }

-- the third column is another
pub not_bytes : EntryBytes 4 (entry_of_columns 4 1 abcd) bytes_abc → ⊥
unfolding each
not_bytes x = let e : ◌≡◌ {A = ℕ} 3 4 = ap (λ (l : List ℕ). get_or l 3 0) x.records in omega (arith, e)

-- the same of a plan's bytes: a plan's pattern is that of its columns
columns_pattern : (c d p : List ℕ) → Equal 4 c d → Pattern 4 (plan_of 4 3 c) p → Pattern 4 (plan_of 4 3 d) p
columns_pattern c d p e h = pattern_agree 4 (plan_of 4 3 c) (plan_of 4 3 d) (plan_cols 4 3 c d e) p h

plan_bytes_abcd : EntryBytes 4 (entry_of_columns 4 1 plan_abcd) bytes_abcd
unfolding each
plan_bytes_abcd = record {
  counts = 0 ∷ 0 ∷ 0 ∷ 1 ∷ [];
  pattern = columns_pattern abcd plan_abcd (0 ∷ 0 ∷ 0 ∷ 1 ∷ []) equal_abcd pattern_abcd;
  records = refl;
}

plan_bytes_abc : EntryBytes 4 (entry_of_columns 4 1 plan_abc) bytes_abc
unfolding each
plan_bytes_abc = record {
  counts = 0 ∷ 0 ∷ 1 ∷ 0 ∷ [];
  pattern = columns_pattern abc plan_abc (0 ∷ 0 ∷ 1 ∷ 0 ∷ []) equal_abc pattern_abc;
  records = refl;
}

-- the entries of both
abbrev part_at : ℕ → List ℕ
part_at i = get_or (bytes_abcd ∷ bytes_abc ∷ []) i []

two : (P : ℕ → Type 0) → P 0 → P 1 → (i : ℕ) → i < 2 → P i
two P first second i h =
    by_cases (ℕ_discrete i 0) (λ e. subst P (sym e) first) (λ ne. let e : i ≡ 1 = omega arith in subst P (sym e) second)

pub entries_both : EntriesBytes 4 (λ i. entry_of_columns 4 1 (plan_at 4 plans i)) 2 (bytes_abcd ++ bytes_abc)
unfolding each
entries_both = record {
  part = part_at;
  parts = two (λ i. EntryBytes 4 (entry_of_columns 4 1 (plan_at 4 plans i)) (part_at i)) plan_bytes_abcd plan_bytes_abc;
  joined = refl;
}

-- the book of both at R 3: 26 of 27 bytes; and refused by 8
abbrev pub book : List ℕ
book = 1 ∷ 4 ∷ 1 ∷ 3 ∷ 2 ∷ 0 ∷ 36 ∷ 1 ∷ 2 ∷ 4 ∷ 7 ∷ 68 ∷ 0 ∷ 0 ∷ 1 ∷ 0 ∷ 36 ∷ 1 ∷ 2 ∷ 3 ∷ 4 ∷ 68 ∷ 1 ∷ 0 ∷ 0 ∷ 0 ∷ []

pub book_4 : Book 4 1 3 2 (λ i. entry_of_columns 4 1 (plan_at 4 plans i)) book
book_4 = record { body = bytes_abcd ++ bytes_abc; entries = entries_both; bytes = refl }

-- two plans are no fault by their count; 65,535 are none, and the next number is one
count_fault : (count k : ℕ) → CountFault count k → most_plans < count
count_fault count k (CountFault.many h) = h

pub most_counted : (k : ℕ) → CountFault 65535 k → ⊥
most_counted k f = omega (arith, count_fault 65535 k f)

pub fault_many : CountFault 65536 4
fault_many = CountFault.many (omega arith)

pub judged_two : (plans : ℕ → Type 0) → ((k : ℕ) → plans k → ⊥) → Lowest (either plans (CountFault 2)) 0
judged_two plans none =
    lowest_then plans (CountFault 2) 0 (lowest_none plans none) (lowest_none (CountFault 2) (λ k f. omega (arith, count_fault 2 k f)))

pub writes_refused : WritesPlans 4 1 3 plans (9 ∷ 9 ∷ []) (9 ∷ 9 ∷ []) 8 0
writes_refused = record {
  lowest = lowest_then (either (wanted_plans_faults 4 1 3 true plans) (CountFault 2)) (LentFault 26 (9 ∷ 9 ∷ [])) 8
      (judged_two (wanted_plans_faults 4 1 3 true plans) (plans_wanted true)) (lent_short 26 (9 ∷ 9 ∷ []) (omega arith));
  refused = λ h. (refl, refl);
  whole = λ e. absurd (omega arith);
  book = λ e. absurd (omega arith);
  rest = refl;
  size = refl;
}

-- the same book of records
record_abcd_lem : EntryBytes 4 (entry_of_design 4 1 record_abcd) bytes_abcd
unfolding each below
record_abcd_lem = record {
  counts = 0 ∷ 0 ∷ 0 ∷ 1 ∷ [];
  pattern = columns_pattern abcd record_abcd.columns (0 ∷ 0 ∷ 0 ∷ 1 ∷ [])
      (agree_at (λ f. get_or abcd f 0) (λ f. get_or record_abcd.columns f 0) 4 refl) pattern_abcd;
  records = refl;
}

record_abc_lem : EntryBytes 4 (entry_of_design 4 1 record_abc) bytes_abc
unfolding each below
record_abc_lem = record {
  counts = 0 ∷ 0 ∷ 1 ∷ 0 ∷ [];
  pattern = columns_pattern abc record_abc.columns (0 ∷ 0 ∷ 1 ∷ 0 ∷ [])
      (agree_at (λ f. get_or abc f 0) (λ f. get_or record_abc.columns f 0) 4 refl) pattern_abc;
  records = refl;
}

pub writes_designs : WritesDesigns 4 1 3 two_records (replicate 27 9) (book ++ (9 ∷ [])) 0 26
unfolding each
writes_designs = record {
  lowest = lowest_then (either (wanted_records_faults 4 1 3 true two_records) (CountFault 2)) (LentFault 26 (replicate 27 9)) 0
      (judged_two (wanted_records_faults 4 1 3 true two_records) (records_wanted true)) (lent_fits 26 (replicate 27 9) (omega arith));
  refused = λ h. absurd (omega arith);
  whole = λ e. refl;
  book = λ e. record {
    body = bytes_abcd ++ bytes_abc;
    entries = record {
      part = part_at;
      parts = two (λ i. EntryBytes 4 (entry_of_design 4 1 (get_or two_records i blank)) (part_at i)) record_abcd_lem record_abc_lem;
      joined = refl;
    };
    bytes = refl;
  };
  rest = refl;
  size = refl;
}
