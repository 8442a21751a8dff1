-- Instances of what calls answer: each kind of answer accepted and refused, on the plans of ABC and ABCD.
-- In the order of the definitions: a value, a lent list, the better of two, comparisons, checks of a witness.
use Rattle.std.specs.Prelude.{◌≡◌, refl, List, [], ◌∷◌, ℕ, ◌-◌, ◌≤◌, ◌<◌, get_or}
use Rattle.std.proofs.Common.{subst, inl, arith}
use Rattle.std.specs.Borrow.{Bor}
use Rattle.gf2.specs.Counts.{Count}
use Rattle.regular.specs.Runs.{Runs, Agree, runs_of}
use Rattle.regular.specs.Words.{Word, Generated, Fraction, letters}
use Rattle.regular.specs.Columns.{plan_of}
use Rattle.regular.specs.Pattern.{Pattern, LessAberration, of_length}
use Rattle.regular.specs.Refusals.{LentFault, either, words_faults, runs_faults, columns_faults, Lowest, Chooses}
use Rattle.regular.specs.RefusalLaws.{lowest_then, lowest_first, lowest_unique, lent_fits, lent_short}
use Rattle.regular.specs.Same.{moved}
use Rattle.regular.specs.Comparisons.{Differ, Compares, Witness, Checks, ChecksWitness, Told, compared_number, checked_number}
use Rattle.regular.specs.Given.{Given, of_words, of_columns, of_runs}
use Rattle.regular.specs.Measures.{ResolutionOf, PatternInto, ChoosesLess, HandsBackLess}
use Rattle.regular.specs.Answers.{Compared}
use Rattle.regular.specs.Answers.{Checked}
use Rattle.words.specs.Switches.{agree_sym, pattern_agree, resolution_agree}
use Rattle.signs.specs.SignLaws.{fraction_plus}
use Rattle.isomorphism_laws.specs.Moving.{carries_names}
use Rattle.isomorphism_laws.specs.SamePlan.{same_agree}
use Rattle.whiteboard.specs.ListTests.{among, not_among}
use Rattle.whiteboard.specs.PlanInstances.{runs_abc, disguised, witness_disguised, pattern_abc, pattern_abcd}
use Rattle.whiteboard.specs.PlanInstances.{less_abcd, not_less, different_abc_abcd, bytes_plan, equal_abc, equal_abcd}
use Rattle.whiteboard.specs.RefusalInstances.{refusal_7, refusal_8, refused_runs, accepted_disguised, accepted_columns}
use Rattle.whiteboard.specs.RefusalInstances.{accepted_abcd, accepted_words, accepted_word_abcd, accepted_runs, five_abc, five_abcd}
use Rattle.whiteboard.specs.Samples.{abc, abcd, plan_abc, plan_abcd, words_abc}
use Rattle.whiteboard.specs.Tests.{below, agree_at}

-- a plan that starts from its first run, and not from another
pub start_disguised : (of_runs 4 1 disguised).start 3
start_disguised = refl

pub not_start : (of_runs 4 1 disguised).start 0 → ⊥
not_start e = omega (arith, e)

-- a number and a value: the resolution of ABC, of no words, and of AB, which is refused
pub gives_resolution : ResolutionOf 4 (of_words 4 1 (7 ∷ []) 0) 0 3
gives_resolution = record {
  number = accepted_words;
  refused = λ h. absurd (omega arith);
  result = λ e. resolution_agree 4 (Generated 4 1 (7 ∷ [])) (Fraction 4 1 (7 ∷ []) 0) (fraction_plus 4 1 (7 ∷ [])) 3 words_abc.resolution;
}

pub gives_refused : ResolutionOf 3 (of_words 3 1 (3 ∷ []) 0) 7 0
gives_refused = record { number = refusal_7; refused = λ h. refl; result = λ e. absurd (omega arith) }

-- a lent list: the pattern of ABC in the first four of five places, and a list too short
pattern_first : (n : ℕ) (s : Runs) (p q : List ℕ) → ((i : ℕ) → i < n → get_or p i 0 ≡ get_or q i 0) → Pattern n s p → Pattern n s q
pattern_first n s p q e h = record { counts = λ l a b. subst (Count (λ w. Word n s w × (letters w ≡ l))) (e (l - 1) (omega arith)) (h.counts l a b) }

abbrev pub five : List ℕ
five = 9 ∷ 9 ∷ 9 ∷ 9 ∷ 9 ∷ []

abbrev by_bytes : List ℕ → Runs
by_bytes c = (of_columns 4 1 c).plan

abc_agrees : Agree (plan_of 4 3 abc) (by_bytes plan_abc)
abc_agrees = bytes_plan 4 3 abc plan_abc equal_abc refl

abcd_agrees : Agree (plan_of 4 3 abcd) (by_bytes plan_abcd)
abcd_agrees = bytes_plan 4 3 abcd plan_abcd equal_abcd refl

pub fills_pattern : PatternInto 4 (of_columns 4 1 plan_abc) five (0 ∷ 0 ∷ 1 ∷ 0 ∷ 9 ∷ []) 0
unfolding below
fills_pattern = record {
  number = lowest_then (columns_faults 4 1 plan_abc) (LentFault 4 five) 0 accepted_columns (lent_fits 4 five (omega arith));
  refused = λ h. absurd (omega arith);
  result = λ e. pattern_first 4 (by_bytes plan_abc) (0 ∷ 0 ∷ 1 ∷ 0 ∷ []) (0 ∷ 0 ∷ 1 ∷ 0 ∷ 9 ∷ [])
      (agree_at (λ i. get_or (0 ∷ 0 ∷ 1 ∷ 0 ∷ []) i 0) (λ i. get_or (0 ∷ 0 ∷ 1 ∷ 0 ∷ 9 ∷ []) i 0) 4 refl)
      (pattern_agree 4 (plan_of 4 3 abc) (by_bytes plan_abc) abc_agrees (0 ∷ 0 ∷ 1 ∷ 0 ∷ []) pattern_abc);
  past = λ e. refl;
  size = refl;
}

pub fills_refused : PatternInto 4 (of_columns 4 1 plan_abc) (9 ∷ 9 ∷ []) (9 ∷ 9 ∷ []) 8
fills_refused = record {
  number = lowest_then (columns_faults 4 1 plan_abc) (LentFault 4 (9 ∷ 9 ∷ [])) 8 accepted_columns (lent_short 4 (9 ∷ 9 ∷ []) (omega arith));
  refused = λ h. refl;
  result = λ e. absurd (omega arith);
  past = λ e. refl;
  size = refl;
}

-- the better of two lists of words: ABCD after ABC is chosen, ABC after ABCD is not, AB is refused. They have the patterns of the plans that they generate
less_agree : (n m : ℕ) (t t2 s s2 : Runs) → Agree t t2 → Agree s s2 → LessAberration n m t s → LessAberration n m t2 s2
less_agree n m t t2 s s2 a b l = record {
  p = l.p;
  q = l.q;
  of_t = pattern_agree n t t2 a l.p l.of_t;
  of_s = pattern_agree n s s2 b l.q l.of_s;
  better = l.better;
}

abbrev plus : ℕ → Runs
plus w = Fraction 4 1 (w ∷ []) 0

less_plus : LessAberration 4 3 (plus 15) (plus 7)
less_plus =
    less_agree 4 3 (Generated 4 1 (15 ∷ [])) (plus 15) (Generated 4 1 (7 ∷ [])) (plus 7) (fraction_plus 4 1 (15 ∷ [])) (fraction_plus 4 1 (7 ∷ [])) less_abcd

not_less_plus : LessAberration 4 3 (plus 7) (plus 15) → ⊥
not_less_plus l =
    not_less (less_agree 4 3 (plus 7) (Generated 4 1 (7 ∷ [])) (plus 15) (Generated 4 1 (15 ∷ []))
    (agree_sym (Generated 4 1 (7 ∷ [])) (plus 7) (fraction_plus 4 1 (7 ∷ [])))
    (agree_sym (Generated 4 1 (15 ∷ [])) (plus 15) (fraction_plus 4 1 (15 ∷ []))) l)

pub chooses_second : ChoosesLess 4 3 (of_words 4 1 (7 ∷ []) 0) (of_words 4 1 (15 ∷ []) 0) 2
chooses_second = Chooses.second (lowest_then (words_faults 4 1 (7 ∷ []) 0) (words_faults 4 1 (15 ∷ []) 0) 0 accepted_words accepted_word_abcd) less_plus

pub chooses_first : ChoosesLess 4 3 (of_words 4 1 (15 ∷ []) 0) (of_words 4 1 (7 ∷ []) 0) 1
chooses_first = Chooses.first (lowest_then (words_faults 4 1 (15 ∷ []) 0) (words_faults 4 1 (7 ∷ []) 0) 0 accepted_word_abcd accepted_words) not_less_plus

-- two arguments with one list of faults
twice : (F : ℕ → Type 0) (r : ℕ) → 0 < r → Lowest F r → Lowest (either F F) r
twice F r h l = lowest_first F F r h l (λ k f. (l.least k f).1)

pub chooses_refused : ChoosesLess 3 2 (of_words 3 1 (3 ∷ []) 0) (of_words 3 1 (3 ∷ []) 0) 0
chooses_refused = Chooses.refused 7 (omega arith) (twice (words_faults 3 1 (3 ∷ []) 0) 7 (omega arith) refusal_7)

-- a list lent from a place
abbrev lent_at : ℕ → List ℕ → Bor (List ℕ)
lent_at place list = record { ref_ptr = (place, 0); now = list }

pub hands_second : HandsBackLess 4 3 (of_words 4 1 (7 ∷ []) 0) (of_words 4 1 (15 ∷ []) 0) (lent_at 1 (7 ∷ [])) (lent_at 2 (15 ∷ [])) (lent_at 2 (15 ∷ []))
hands_second = record {
  better = λ l b. refl;
  otherwise = λ l n. absurd (n less_plus);
  refused = λ k h l. absurd (omega (arith, lowest_unique both k 0 l accepted));
  start = λ k h l. absurd (omega (arith, lowest_unique both k 0 l accepted));
}
  where
    both : ℕ → Type 0
    both = either (words_faults 4 1 (7 ∷ []) 0) (words_faults 4 1 (15 ∷ []) 0)

    accepted : Lowest both 0
    accepted = lowest_then (words_faults 4 1 (7 ∷ []) 0) (words_faults 4 1 (15 ∷ []) 0) 0 accepted_words accepted_word_abcd

pub hands_empty : HandsBackLess 3 2 (of_words 3 1 (3 ∷ []) 0) (of_words 3 1 (3 ∷ []) 0) (lent_at 1 (3 ∷ [])) (lent_at 2 (3 ∷ [])) (lent_at 1 [])
hands_empty = record {
  better = λ l b. absurd (omega (arith, lowest_unique both 0 7 l refused));
  otherwise = λ l n. absurd (omega (arith, lowest_unique both 0 7 l refused));
  refused = λ k h l. refl;
  start = λ k h l. refl;
}
  where
    both : ℕ → Type 0
    both = either (words_faults 3 1 (3 ∷ []) 0) (words_faults 3 1 (3 ∷ []) 0)

    refused : Lowest both 7
    refused = twice (words_faults 3 1 (3 ∷ []) 0) 7 (omega arith) refusal_7

-- the comparison: ABC and its disguise are the same, ABC and ABCD different from length 3 on, a witness of 4 for 5 factors is refused
alike_first : (k : ℕ) → 1 ≤ k → k < 3 → of_length (0 ∷ 0 ∷ 1 ∷ 0 ∷ []) k ≡ of_length (0 ∷ 0 ∷ 0 ∷ 1 ∷ []) k
unfolding below
alike_first k h l = agree_at (λ i. get_or (0 ∷ 0 ∷ 1 ∷ 0 ∷ []) i 0) (λ i. get_or (0 ∷ 0 ∷ 0 ∷ 1 ∷ []) i 0) 2 refl (k - 1) (omega arith)

pub differ_at : Differ 4 (plan_of 4 3 abc) (plan_of 4 3 abcd) 3
differ_at = Differ.at 3 (0 ∷ 0 ∷ 1 ∷ 0 ∷ []) (0 ∷ 0 ∷ 0 ∷ 1 ∷ []) pattern_abc pattern_abcd (omega arith) (omega arith) alike_first (λ e. omega arith)

abbrev pub names_of_five : List ℕ
names_of_five = 1 ∷ 2 ∷ 3 ∷ 0 ∷ 9 ∷ []

abbrev pub given_abc : Given
given_abc = of_runs 4 1 runs_abc

abbrev pub given_disguised : Given
given_disguised = of_runs 4 1 disguised

accepted_tables : Lowest (either (runs_faults 4 1 runs_abc) (runs_faults 4 1 disguised)) 0
accepted_tables = lowest_then (runs_faults 4 1 runs_abc) (runs_faults 4 1 disguised) 0 accepted_runs accepted_disguised

pub compares_same : Compares 4 given_abc given_disguised five names_of_five (Compared.Same 9)
unfolding below
compares_same =
    Compares.same 9
    (lowest_then (either (runs_faults 4 1 runs_abc) (runs_faults 4 1 disguised)) (LentFault 4 five) 0 accepted_tables (lent_fits 4 five (omega arith)))
    (carries_names 4 (runs_of runs_abc) (runs_of disguised) (1 ∷ 2 ∷ 3 ∷ 0 ∷ []) names_of_five 9
    (agree_at (λ f. get_or names_of_five f 0) (λ f. get_or (1 ∷ 2 ∷ 3 ∷ 0 ∷ []) f 0) 4 refl) witness_disguised.carries)
    (λ from to. absurd (omega (arith, to))) refl refl

pub compares_different : Compares 4 (of_columns 4 1 plan_abc) (of_columns 4 1 plan_abcd) five five (Compared.Different 3)
compares_different =
    Compares.different 3
    (lowest_then (either (columns_faults 4 1 plan_abc) (columns_faults 4 1 plan_abcd)) (LentFault 4 five) 0
    (lowest_then (columns_faults 4 1 plan_abc) (columns_faults 4 1 plan_abcd) 0 accepted_columns accepted_abcd) (lent_fits 4 five (omega arith)))
    (λ k. different_abc_abcd (same_agree 4 (by_bytes plan_abc) (plan_of 4 3 abc) (by_bytes plan_abcd) (plan_of 4 3 abcd)
    (agree_sym (plan_of 4 3 abc) (by_bytes plan_abc) abc_agrees) (agree_sym (plan_of 4 3 abcd) (by_bytes plan_abcd) abcd_agrees) k))
    (Differ.at 3 (0 ∷ 0 ∷ 1 ∷ 0 ∷ []) (0 ∷ 0 ∷ 0 ∷ 1 ∷ [])
    (pattern_agree 4 (plan_of 4 3 abc) (by_bytes plan_abc) abc_agrees (0 ∷ 0 ∷ 1 ∷ 0 ∷ []) pattern_abc)
    (pattern_agree 4 (plan_of 4 3 abcd) (by_bytes plan_abcd) abcd_agrees (0 ∷ 0 ∷ 0 ∷ 1 ∷ []) pattern_abcd)
    (omega arith) (omega arith) alike_first (λ e. omega arith)) refl

pub compares_refused : Compares 5 (of_columns 5 1 five_abc) (of_columns 5 1 five_abcd) (0 ∷ 0 ∷ 0 ∷ 0 ∷ []) (0 ∷ 0 ∷ 0 ∷ 0 ∷ []) (Compared.Refused 8)
compares_refused = Compares.refused 8 (omega arith) refusal_8 refl

-- the check of a witness: with its mask, without it, and between runs that are not regular
abbrev pub Claimed : ℕ → Type 0
Claimed = Witness 4 (runs_of runs_abc) (runs_of disguised) (1 ∷ 2 ∷ 3 ∷ 0 ∷ [])

pub checks_yes : ChecksWitness 4 given_abc given_disguised (1 ∷ 2 ∷ 3 ∷ 0 ∷ []) 9 Checked.Yes
checks_yes = Checks.yes accepted_tables witness_disguised

pub checks_no : Checks (either (runs_faults 4 1 runs_abc) (runs_faults 4 1 disguised)) (Claimed 0) Checked.No
unfolding among moved
checks_no = Checks.no accepted_tables (λ w. not_among 0 disguised refl (w.carries.into 0 (inl refl)))

pub checks_refused : Checks (either (runs_faults 3 1 (0 ∷ 1 ∷ 2 ∷ 4 ∷ [])) (runs_faults 3 1 (0 ∷ 1 ∷ 2 ∷ 4 ∷ []))) (Claimed 9) (Checked.Refused 6)
checks_refused = Checks.refused 6 (omega arith) (twice (runs_faults 3 1 (0 ∷ 1 ∷ 2 ∷ 4 ∷ [])) 6 (omega arith) refused_runs)

-- the same as plain numbers
pub told_same : Told (Compares 4 given_abc given_disguised five names_of_five) compared_number 65545
told_same = record { answer = Compared.Same 9; says = compares_same; is = refl }

pub told_no : Told (Checks (either (runs_faults 4 1 runs_abc) (runs_faults 4 1 disguised)) (Claimed 0)) checked_number 131072
told_no = record { answer = Checked.No; says = checks_no; is = refl }
