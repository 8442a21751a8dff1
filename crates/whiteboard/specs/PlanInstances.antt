-- Instances of what plans are: for each definition a closed plan that meets it, and one that does not where it can fail. N 4, G 1: ABC and ABCD.
-- In the order of the definitions: sizes, runs, words, columns, pattern, designs, same plan, smallest form.
use Rattle.std.specs.Prelude.{◌≡◌, refl, List, [], ◌∷◌, ◌++◌, ℕ, zero, suc, ◌+◌, ◌^◌, ◌≤◌, ◌<◌, ltb, length, get_or, replicate}
use Rattle.std.proofs.Common.{sym, ap, subst, ◌∙◌, ⊎_elim, inl, inr, arith, ltb-true, lit≤}
use Rattle.std.proofs.Math.Logic.{by_cases}
use Rattle.std.proofs.Math.Decide.{ℕ_discrete}
use Rattle.std.specs.Int.Bits.{bit_xor, xor_zero_r}
use Rattle.std.specs.Int.Count.{ones, ones_in}
use Rattle.gf2.specs.DigitLaws.{bit_none}
use Rattle.gf2.specs.Digits.{odd}
use Rattle.gf2.specs.Fill.{zeros}
use Rattle.gf2.specs.Lists.{list_to}
use Rattle.regular.specs.Sizes.{Size, Sized}
use Rattle.regular.specs.Runs.{Runs, Agree, runs_of, switched, Regular, Table}
use Rattle.regular.specs.Words.{Word, NoShort, Generated, total, Independent, Last, Reduced}
use Rattle.regular.specs.Columns.{run_of, plan_of, Below, Column, Spans, Listed, ListedWith, RunTable, RunTableWith, Basic, StandardColumns}
use Rattle.regular.specs.Columns.{plan_with, Allowed, Standard, RunsOfPlan}
use Rattle.regular.specs.PlanBytes.{mask_in}
use Rattle.regular.specs.Pattern.{Pattern, sum_to, Resolution, Distances, last_length, Better, LessAberration, AberrationCriterion, of_length}
use Rattle.regular.specs.Designs.{Holds, design_of, design_bytes, design_holds}
use Rattle.regular.specs.Comparisons.{Witness}
use Rattle.regular.specs.Refusals.{Short}
use Rattle.regular.specs.Same.{moved, Renaming, Same}
use Rattle.regular.specs.Smallest.{Rising, Equal, Before, Smallest, Entry, IsEntry, ReachesOne, Demand3}
use Rattle.regular.specs.declared.Design.{Design}
use Rattle.standard.specs.Form.{units_before, StandardFor, DistinctNonzero, Repeat}
use Rattle.standard.specs.Plans.{word_cancels, cancels_word}
use Rattle.standard.specs.Runs.{total_lt, plan_cols}
use Rattle.standard.specs.Units.{spread, units_at}
use Rattle.words.specs.Model.{word_columns, pivots_at, free_before, reduced, last_of}
use Rattle.words.proofs.ReducedWords.{words_columns_words}
use Rattle.words.specs.Standards.{form_standard}
use Rattle.words.specs.Switches.{pattern_agree, agree_trans}
use Rattle.words.specs.WordList.{words_to}
use Rattle.counts.specs.Aberration.{criterion_less}
use Rattle.counts.specs.FullFactorials.{resolution_some}
use Rattle.counts.specs.Patterns.{pattern_unique}
use Rattle.counts.specs.ShortWords.{none_short}
use Rattle.isomorphism_laws.specs.KeptWords.{same_pattern, same_no_short}
use Rattle.isomorphism_laws.specs.Link.{Units}
use Rattle.smallest_laws.specs.Beating.{smallest_units}
use Rattle.smallest_laws.specs.Growth.{entry_equal}
use Rattle.smallest_laws.specs.UnitForms.{rising_distinct}
use Rattle.catalogue_laws.specs.Demand.{Whole, whole}
use Rattle.whiteboard.specs.ListTests.{among, all, distinct, not_among, carried_witness, tabled_table}
use Rattle.whiteboard.specs.Samples.{abc, abcd, plan_abc, plan_abcd, catalogue_4, words_abc, words_abcd, runs_abc_lem}
use Rattle.whiteboard.specs.Tests.{below, below_at, agree_at, only_zero_lem}

-- sizes: an ordinary one, the least, one of the largest
pub size_4 : Size 4 1
size_4 = record { some = omega arith; most = omega arith; less = omega arith; few = omega arith }

pub sized_4 : Sized 4 1 3
sized_4 = record { size = size_4; low = omega arith; high = omega arith }

pub size_1 : Size 1 0
size_1 = record { some = omega arith; most = omega arith; less = omega arith; few = omega arith }

pub size_16 : Size 16 9
size_16 = record { some = omega arith; most = omega arith; less = omega arith; few = omega arith }

-- the runs of ABC, as a table; four runs that are no regular table
abbrev pub runs_abc : List ℕ
runs_abc = 0 ∷ 5 ∷ 6 ∷ 3 ∷ 8 ∷ 13 ∷ 14 ∷ 11 ∷ []

pub whole_4 : Whole 4 3 3 2 (λ i. get_or (abc ∷ abcd ∷ []) i [])
whole_4 = whole 4 3 3 2 (λ i. get_or (abc ∷ abcd ∷ []) i []) (omega arith) catalogue_4

pub table_abc_lem : Table 4 3 runs_abc
unfolding list_to run_of odd ones ones_in
table_abc_lem = whole_4.table 0 (omega arith)

-- run 1 has A and C low: with A switched too, C alone
pub switched_abc_lem : switched 1 (runs_of runs_abc) 4
switched_abc_lem = inr (inl refl)

pub not_regular : Regular (runs_of (0 ∷ 1 ∷ 2 ∷ 4 ∷ [])) → ⊥
not_regular h =
    ⊎_elim (λ e. omega arith) (λ m. ⊎_elim (λ e. omega arith) (λ m. ⊎_elim (λ e. omega arith) (λ m. ⊎_elim (λ e. omega arith) (λ m. m) m) m) m)
    (h 0 1 2 (inl refl) (inr (inl refl)) (inr (inr (inl refl))))

-- words: ABC is one, AB is none; none has fewer than three letters, one has fewer than four
pub word_abc : Word 4 (plan_of 4 3 abc) 7
unfolding total
word_abc = cancels_word 4 3 abc 7 (omega arith) (omega arith) refl

pub not_word : Word 4 (plan_of 4 3 abc) 3 → ⊥
unfolding total
not_word w = omega (arith, word_cancels 4 3 abc (catalogue_4.sound 0 (omega arith)).smallest.columns.below 3 w)

pub no_short_abc : NoShort 4 3 (plan_of 4 3 abc)
no_short_abc = (catalogue_4.sound 0 (omega arith)).long

pub short_abc : Short 4 4 (plan_of 4 3 abc)
unfolding ones ones_in
short_abc = record { word = 7; is = word_abc; few = omega arith }

-- the plan that a word generates: ABC is even in no low level and odd in one low A
pub generated_abc : Generated 4 1 (7 ∷ []) 0
unfolding odd ones ones_in below
generated_abc = record { within = omega arith; even = agree_at (λ i. odd 0 (get_or (7 ∷ []) i 0)) (λ i. 0) 1 refl }

pub not_generated : Generated 4 1 (7 ∷ []) 1 → ⊥
unfolding odd ones ones_in
not_generated x = omega (arith, x.even 0 (omega arith))

pub independent_abc : Independent 1 (7 ∷ [])
unfolding total below
independent_abc = only_zero_lem (total (7 ∷ []) 1) 2 refl

pub dependent_twice : Independent 2 (7 ∷ 7 ∷ []) → ⊥
unfolding total
dependent_twice h = omega (arith, h 3 (omega arith) refl)

pub last_c : Last 2 7
last_c = refl

-- the reduced words of 124 and 345: 124 and 1235
pub independent_pair : Independent 2 (11 ∷ 28 ∷ [])
unfolding total below
independent_pair = only_zero_lem (total (11 ∷ 28 ∷ []) 2) 4 refl

pub reduced_pair : Reduced 5 2 (Generated 5 2 (11 ∷ 28 ∷ [])) (11 ∷ 23 ∷ [])
unfolding words_to word_columns pivots_at free_before reduced last_of total units_before spread units_at below
reduced_pair =
    words_columns_words 5 2 (11 ∷ 28 ∷ []) (omega arith) (omega arith)
    (λ i h. ltb-true (get_or (11 ∷ 28 ∷ []) i 0) 32 (below_at (λ j. ltb (get_or (11 ∷ 28 ∷ []) j 0) 32) 2 refl i h)) independent_pair

-- columns: run 1 is ACs low, no run has A alone low; bits, rank and rank too small
pub run_abc : plan_of 4 3 abc 5
unfolding run_of odd ones ones_in
run_abc = (1, (omega arith, refl))

pub not_run : plan_of 4 3 abc 1 → ⊥
unfolding odd ones ones_in
not_run p = omega (arith, word_abc.constant 1 5 p run_abc)

pub below_abc : Below 4 3 abc
below_abc = (catalogue_4.sound 0 (omega arith)).smallest.columns.below

-- 3 is a column, 5 is none
pub column_abc : Column 4 abc 3
column_abc = (2, (omega arith, refl))

pub not_column : Column 4 abc 5 → ⊥
unfolding below
not_column c = omega (arith, c.1.1, ltb-true (get_or abc c.0 0) 5 (below_at (λ i. ltb (get_or abc i 0) 5) 4 refl c.0 c.1.0))

pub spans_abc : Spans 4 3 abc
spans_abc = (catalogue_4.sound 0 (omega arith)).smallest.columns.rank

pub not_spans : Spans 4 3 (1 ∷ 1 ∷ 2 ∷ 3 ∷ []) → ⊥
unfolding below
not_spans h =
    let r = h 4 (omega arith) in
    omega (
      arith,
      r.1.1,
      total_lt (1 ∷ 1 ∷ 2 ∷ 3 ∷ []) 4 2 r.0
          (λ f l. ltb-true (get_or (1 ∷ 1 ∷ 2 ∷ 3 ∷ []) f 0) 4 (below_at (λ i. ltb (get_or (1 ∷ 1 ∷ 2 ∷ 3 ∷ []) i 0) 4) 4 refl f l)),
    )

-- the run table of ABC, in a list and in 128 places
pub listed_abc : Listed 4 3 abc runs_abc
listed_abc = runs_abc_lem.table

abbrev pub table_abc : List ℕ
table_abc = runs_abc ++ replicate 120 0

-- past its front the list is 0
pub past_front : (xs : List ℕ) (k j : ℕ) → length xs ≤ j → get_or (xs ++ replicate k 0) j 0 ≡ 0
past_front [] k j h = zeros k j
past_front (x ∷ xs) k zero h = absurd (omega arith)
past_front (x ∷ xs) k (suc j) h = past_front xs k j (omega arith)

pub run_table_abc : RunTable 4 3 abc table_abc
unfolding below run_of odd ones ones_in
run_table_abc = record {
  places = refl;
  run = agree_at (λ j. get_or table_abc j 0) (run_of abc 4) 8 refl;
  unused = past_front runs_abc 120;
}

-- A is the last letter of no word, C is that of ABC
pub basic_a : Basic 4 (plan_of 4 3 abc) 0
unfolding total
basic_a w word last =
    let e : w ≡ 1 = omega (arith, last) in
    omega (arith, sym (ap (total abc 4) e) ∙ word_cancels 4 3 abc below_abc w word)

pub not_basic : Basic 4 (plan_of 4 3 abc) 2 → ⊥
not_basic h = h 7 word_abc last_c

-- the standard columns of ABC's plan
pub standard_abc : StandardColumns 4 3 (Generated 4 1 (7 ∷ [])) abc
standard_abc = words_abc.columns

-- the forms that the functions hand on: standard form, no column 0 or twice, every unit a column
pub standard_form_abc : StandardFor 4 3 (Generated 4 1 (7 ∷ [])) abc
unfolding units_before
standard_form_abc = record { form = record { next = next_abc; units = refl }; plan = standard_abc.plan }
  where
    next_abc : (f : ℕ) → f < 4 → get_or abc f 0 ≤ 2 ^ units_before abc f
    next_abc zero h = lit≤ tt
    next_abc (suc zero) h = lit≤ tt
    next_abc (suc (suc zero)) h = lit≤ tt
    next_abc (suc (suc (suc zero))) h = lit≤ tt
    next_abc (suc (suc (suc (suc f)))) h = absurd (omega arith)

pub distinct_abc : DistinctNonzero 4 abc
distinct_abc = rising_distinct 4 3 abc (catalogue_4.sound 0 (omega arith)).smallest.columns

pub repeat_ab : Repeat 4 (1 ∷ 1 ∷ 2 ∷ 4 ∷ [])
repeat_ab = Repeat.twice 0 1 (omega arith) (omega arith) refl

pub units_abc : Units 4 3 abc
units_abc = smallest_units 4 3 (plan_of 4 3 abc) abc (catalogue_4.sound 0 (omega arith)).smallest

-- the plan with no factor switched: its columns and mask, and its run table by them
pub switched_none : (s : Runs) → Agree (switched 0 s) s
switched_none s = record { into = λ x h. subst s (xor_zero_r x) h; onto = λ x h. subst s (sym (xor_zero_r x)) h }

pub allowed_none : (n : ℕ) (s : Runs) → Allowed n s 0
allowed_none n s f b = bit_none f

pub standard_none : Standard 4 3 (Generated 4 1 (7 ∷ [])) abc 0
standard_none = record {
  allowed = allowed_none 4 (Generated 4 1 (7 ∷ []));
  columns = form_standard 4 3 (switched 0 (Generated 4 1 (7 ∷ []))) abc (record {
    form = standard_form_abc.form;
    plan = agree_trans (switched 0 (Generated 4 1 (7 ∷ []))) (Generated 4 1 (7 ∷ [])) (plan_of 4 3 abc) (switched_none (Generated 4 1 (7 ∷ [])))
        standard_abc.plan;
  });
}

pub runs_of_abc : RunsOfPlan 4 3 ListedWith (Generated 4 1 (7 ∷ [])) runs_abc
unfolding below run_of odd ones ones_in
runs_of_abc = record {
  columns = abc;
  mask = 0;
  standard = standard_none;
  table = agree_at (λ j. get_or runs_abc j 0) (λ j. bit_xor (run_of abc 4 j) 0) 8 refl;
}

pub run_table_of_abc : RunsOfPlan 4 3 RunTableWith (Generated 4 1 (7 ∷ [])) table_abc
unfolding below run_of odd ones ones_in
run_table_of_abc = record {
  columns = abc;
  mask = 0;
  standard = standard_none;
  table = record {
    places = refl;
    run = agree_at (λ j. get_or table_abc j 0) (λ j. bit_xor (run_of abc 4 j) 0) 8 refl;
    unused = past_front runs_abc 120;
  };
}

-- pattern, resolution, distance counts; a full factorial; less aberration and not, and 000's second example
pub pattern_abc : Pattern 4 (plan_of 4 3 abc) (0 ∷ 0 ∷ 1 ∷ 0 ∷ [])
pattern_abc = pattern_agree 4 (Generated 4 1 (7 ∷ [])) (plan_of 4 3 abc) standard_abc.plan (0 ∷ 0 ∷ 1 ∷ 0 ∷ []) words_abc.pattern

pub pattern_abcd : Pattern 4 (plan_of 4 3 abcd) (0 ∷ 0 ∷ 0 ∷ 1 ∷ [])
pattern_abcd = pattern_agree 4 (Generated 4 1 (15 ∷ [])) (plan_of 4 3 abcd) words_abcd.columns.plan (0 ∷ 0 ∷ 0 ∷ 1 ∷ []) words_abcd.pattern

pub sum_abc : sum_to 4 (0 ∷ 0 ∷ 1 ∷ 0 ∷ []) ≡ 1
unfolding sum_to
sum_abc = refl

pub resolution_abc : Resolution 4 (Generated 4 1 (7 ∷ [])) 3
resolution_abc = words_abc.resolution

pub not_resolution_0 : Resolution 3 (Generated 3 0 []) 0 → ⊥
not_resolution_0 h = omega (arith, resolution_some 3 (Generated 3 0 []) 0 h)

pub distances_abc : Distances 4 (plan_of 4 3 abc) 0 (1 ∷ 1 ∷ 3 ∷ 3 ∷ 0 ∷ [])
distances_abc = runs_abc_lem.distances

pub last_000 : last_length 7 5 ≡ 7
last_000 = refl

pub not_last : last_length 7 5 ≡ 5 → ⊥
not_last e = omega arith

pub better_abcd : Better 4 (0 ∷ 0 ∷ 0 ∷ 1 ∷ []) (0 ∷ 0 ∷ 1 ∷ 0 ∷ [])
better_abcd = record { at = 3; from = omega arith; to = omega arith; before = λ l h k. absurd (omega arith); fewer = omega arith }

pub not_better : Better 4 (0 ∷ 0 ∷ 1 ∷ 0 ∷ []) (0 ∷ 0 ∷ 0 ∷ 1 ∷ []) → ⊥
not_better b =
    by_cases (ℕ_discrete b.at 3)
    (λ e. omega (arith, subst (λ (l : ℕ). of_length (0 ∷ 0 ∷ 1 ∷ 0 ∷ []) l < of_length (0 ∷ 0 ∷ 0 ∷ 1 ∷ []) l) e b.fewer))
    (λ ne. omega (arith, b.before 3 (omega arith) (omega (arith, b.from))))

-- counts for N 5, M 3, of no plans, that agree up to length M and not wholly: up to length 5 one is the better, up to length 3 it is not
pub better_last : Better 5 (0 ∷ 0 ∷ 1 ∷ 1 ∷ 1 ∷ []) (0 ∷ 0 ∷ 1 ∷ 2 ∷ 0 ∷ [])
better_last = record {
  at = 4;
  from = omega arith;
  to = omega arith;
  before = λ l h k. let e : l ≡ 3 = omega arith in rw e refl;
  fewer = omega arith;
}

pub not_better_before : Better 3 (0 ∷ 0 ∷ 1 ∷ 1 ∷ 1 ∷ []) (0 ∷ 0 ∷ 1 ∷ 2 ∷ 0 ∷ []) → ⊥
not_better_before b =
    let e : b.at ≡ 3 = omega (arith, b.from, b.to) in
    omega (arith, subst (λ (l : ℕ). of_length (0 ∷ 0 ∷ 1 ∷ 1 ∷ 1 ∷ []) l < of_length (0 ∷ 0 ∷ 1 ∷ 2 ∷ 0 ∷ []) l) e b.fewer)

pub less_abcd : LessAberration 4 3 (Generated 4 1 (15 ∷ [])) (Generated 4 1 (7 ∷ []))
less_abcd = record { p = 0 ∷ 0 ∷ 0 ∷ 1 ∷ []; q = 0 ∷ 0 ∷ 1 ∷ 0 ∷ []; of_t = words_abcd.pattern; of_s = words_abc.pattern; better = better_abcd }

pub not_less : LessAberration 4 3 (Generated 4 1 (7 ∷ [])) (Generated 4 1 (15 ∷ [])) → ⊥
not_less l =
    let b = l.better in
    let abc-3 = pattern_unique 4 (Generated 4 1 (7 ∷ [])) l.p (0 ∷ 0 ∷ 1 ∷ 0 ∷ []) l.of_t words_abc.pattern 3 (omega arith) (omega arith) in
    let abcd-3 = pattern_unique 4 (Generated 4 1 (15 ∷ [])) l.q (0 ∷ 0 ∷ 0 ∷ 1 ∷ []) l.of_s words_abcd.pattern 3 (omega arith) (omega arith) in
    by_cases (ℕ_discrete b.at 3)
    (λ e. omega (arith, subst (λ (k : ℕ). of_length l.p k < of_length l.q k) e b.fewer, abc-3, abcd-3))
    (λ ne. omega (arith, b.before 3 (omega arith) (omega (arith, b.from)), abc-3, abcd-3))

-- the published criterion: of document 000's own example, and of ABC and ABCD. A pattern that begins with 0 0 has no word below three letters
pub long_words : {n : ℕ} {s : Runs} (p : List ℕ) → Pattern n s (0 ∷ 0 ∷ p) → NoShort n 3 s
long_words p pat =
    none_short pat 3 (λ l some most few. by_cases (ℕ_discrete l 1) (λ e. rw e refl) (λ ne. let e : l ≡ 2 = omega arith in rw e refl))

pub not_criterion : AberrationCriterion 4 (Generated 4 1 (7 ∷ [])) (Generated 4 1 (15 ∷ [])) → ⊥
not_criterion c =
    let abc = words_abc.pattern in
    let abcd = words_abcd.pattern in
    not_less (criterion_less (long_words (1 ∷ 0 ∷ []) abc) (long_words (0 ∷ 1 ∷ []) abcd) abc abcd c)

-- design records that hold an entry
abbrev pub record_abc : Design
record_abc = record { factors = 4; basics = 3; columns = abc ++ replicate 12 0; mask = 0 }

abbrev pub record_abcd : Design
record_abcd = record { factors = 4; basics = 3; columns = abcd ++ replicate 12 0; mask = 0 }

pub design_abc : design_of 4 3 (abc ++ replicate 12 0) ≡ record_abc
design_abc = refl

-- two counts and sixteen columns, a byte each, and two bytes of the mask
pub design_bytes_lem : design_bytes ≡ 2 + 16 + 2
design_bytes_lem = refl

pub holds_abc : Holds 4 3 (Entry 4 3 3) record_abc
unfolding below
holds_abc =
    design_holds 4 3 (Entry 4 3 3) (abc ++ replicate 12 0)
    (entry_equal 4 3 abc (abc ++ replicate 12 0) (agree_at (λ f. get_or abc f 0) (λ f. get_or (abc ++ replicate 12 0) f 0) 4 refl) 3
    (catalogue_4.sound 0 (omega arith)))
    (past_front abc 12)

pub holds_abcd : Holds 4 3 (Entry 4 3 3) record_abcd
unfolding below
holds_abcd =
    design_holds 4 3 (Entry 4 3 3) (abcd ++ replicate 12 0)
    (entry_equal 4 3 abcd (abcd ++ replicate 12 0) (agree_at (λ f. get_or abcd f 0) (λ f. get_or (abcd ++ replicate 12 0) f 0) 4 refl) 3
    (catalogue_4.sound 1 (omega arith)))
    (past_front abcd 12)

-- the plan of bytes without switches is that of their columns
pub bytes_plan : (n m : ℕ) (c d : List ℕ) → Equal n c d → mask_in n d ≡ 0 → Agree (plan_of n m c) (plan_with n m d (mask_in n d))
bytes_plan n m c d e z =
    let a = plan_cols n m c d e in
    let same : (x : ℕ) → bit_xor x (mask_in n d) ≡ x = λ x. ap (bit_xor x) z ∙ xor_zero_r x in
    record { into = λ x h. subst (plan_of n m d) (sym (same x)) (a.into x h); onto = λ x h. a.onto x (subst (plan_of n m d) (same x) h) }

-- bytes of a plan that hold an entry
pub equal_abc : Equal 4 abc plan_abc
unfolding below
equal_abc = agree_at (λ f. get_or abc f 0) (λ f. get_or plan_abc f 0) 4 refl

pub equal_abcd : Equal 4 abcd plan_abcd
unfolding below
equal_abcd = agree_at (λ f. get_or abcd f 0) (λ f. get_or plan_abcd f 0) 4 refl

pub plan_abc_lem : Entry 4 3 3 plan_abc
plan_abc_lem = entry_equal 4 3 abc plan_abc equal_abc 3 (catalogue_4.sound 0 (omega arith))

pub plan_abcd_lem : Entry 4 3 3 plan_abcd
plan_abcd_lem = entry_equal 4 3 abcd plan_abcd equal_abcd 3 (catalogue_4.sound 1 (omega arith))

-- the same plan: 000's plans of 124, 135 and of 124, 1235, the second with factor 3 switched, by a renaming that moves four factors
abbrev pub runs_a : List ℕ
runs_a = 0 ∷ 25 ∷ 10 ∷ 19 ∷ 20 ∷ 13 ∷ 30 ∷ 7 ∷ []

abbrev pub runs_b : List ℕ
runs_b = 4 ∷ 29 ∷ 30 ∷ 7 ∷ 16 ∷ 9 ∷ 10 ∷ 19 ∷ []

abbrev pub names_ab : List ℕ
names_ab = 3 ∷ 0 ∷ 4 ∷ 1 ∷ 2 ∷ []

pub witness_000 : Witness 5 (runs_of runs_a) (runs_of runs_b) names_ab 4
unfolding below among all distinct moved
witness_000 = carried_witness 5 runs_a runs_b names_ab 4 refl

pub same_000 : Same 5 (runs_of runs_a) (runs_of runs_b)
same_000 = record { names = names_ab; mask = 4; carries = witness_000.carries }

-- a name used twice is no renaming; without the switch the run sets differ; ABC and ABCD are different plans
pub not_renaming : Renaming 4 (0 ∷ 0 ∷ 1 ∷ 2 ∷ []) → ⊥
not_renaming r = omega (arith, r.once 0 1 (omega arith) (omega arith) refl)

pub not_witness : Witness 5 (runs_of runs_a) (runs_of runs_b) names_ab 0 → ⊥
unfolding among moved
not_witness w = not_among 0 runs_b refl (w.carries.into 0 (inl refl))

pub different_abc_abcd : Same 4 (plan_of 4 3 abc) (plan_of 4 3 abcd) → ⊥
different_abc_abcd k =
    omega (
      arith,
      pattern_unique 4 (plan_of 4 3 abcd) (0 ∷ 0 ∷ 1 ∷ 0 ∷ []) (0 ∷ 0 ∷ 0 ∷ 1 ∷ [])
          (same_pattern 4 (plan_of 4 3 abc) (plan_of 4 3 abcd) k (0 ∷ 0 ∷ 1 ∷ 0 ∷ []) pattern_abc) pattern_abcd 3 (omega arith) (omega arith),
    )

-- the smallest form, and rising columns of the same plan that are not it: BCD for ABC
pub rising_abc : Rising 4 3 abc
rising_abc = (catalogue_4.sound 0 (omega arith)).smallest.columns

pub smallest_abc : Smallest 4 3 (plan_of 4 3 abc) abc
smallest_abc = (catalogue_4.sound 0 (omega arith)).smallest

pub entry_abc : Entry 4 3 3 abc
entry_abc = catalogue_4.sound 0 (omega arith)

pub is_entry_abc : IsEntry 4 1 3 abc
is_entry_abc = record { sizes = sized_4; count = refl; entry = entry_abc }

pub before_abc : Before 4 abc abcd
before_abc = catalogue_4.order 0 1 (omega arith) (omega arith)

abbrev pub bcd : List ℕ
bcd = 1 ∷ 2 ∷ 4 ∷ 6 ∷ []

pub not_entry : Entry 4 3 3 bcd → ⊥
not_entry e =
    let r = catalogue_4.complete bcd e in
    by_cases (ℕ_discrete r.0 0)
    (λ z. omega (arith, subst (λ (i : ℕ). Equal 4 (get_or (abc ∷ abcd ∷ []) i []) bcd) z r.1.1 2 (omega arith)))
    (λ z. let o : r.0 ≡ 1 = omega (arith, r.1.0) in
    omega (arith, subst (λ (i : ℕ). Equal 4 (get_or (abc ∷ abcd ∷ []) i []) bcd) o r.1.1 3 (omega arith)))

pub not_is_entry : IsEntry 4 1 3 bcd → ⊥
not_is_entry e = not_entry e.entry

-- demand 3: BCD's plan with A and D switched, its runs in some order, reaches one entry, which is ABC
abbrev pub disguised : List ℕ
disguised = 3 ∷ 9 ∷ 5 ∷ 15 ∷ 8 ∷ 2 ∷ 4 ∷ 14 ∷ []

pub table_disguised : Table 4 3 disguised
unfolding among all distinct
table_disguised = tabled_table 4 3 disguised refl

pub witness_disguised : Witness 4 (runs_of runs_abc) (runs_of disguised) (1 ∷ 2 ∷ 3 ∷ 0 ∷ []) 9
unfolding below among all distinct moved
witness_disguised = carried_witness 4 runs_abc disguised (1 ∷ 2 ∷ 3 ∷ 0 ∷ []) 9 refl

pub same_disguised : Same 4 (runs_of runs_abc) (runs_of disguised)
same_disguised = record { names = 1 ∷ 2 ∷ 3 ∷ 0 ∷ []; mask = 9; carries = witness_disguised.carries }

pub no_short_disguised : NoShort 4 3 (runs_of disguised)
unfolding list_to run_of odd ones ones_in
no_short_disguised = same_no_short 4 (runs_of runs_abc) (runs_of disguised) same_disguised 3 (whole_4.long 0 (omega arith))

pub demand_4 : Demand3 4 3 3 2 (λ i. get_or (abc ∷ abcd ∷ []) i [])
demand_4 = whole_4.one

pub reaches_one : ReachesOne 4 3 2 (λ i. get_or (abc ∷ abcd ∷ []) i []) (runs_of disguised)
reaches_one = demand_4 disguised table_disguised no_short_disguised
