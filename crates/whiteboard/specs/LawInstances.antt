-- Instances of what the laws ask for beyond the definitions: generators, a run to count distances from, a match of columns and none, and the steps of
-- the walk through a catalogue.
use Rattle.std.specs.Prelude.{◌≡◌, refl, ◌⊎◌, true, false, List, [], ◌∷◌, ℕ, suc, ◌^◌, ◌<◌, ltb, get_or, replicate}
use Rattle.std.proofs.Common.{sym, subst, inl, inr, ⊎_elim, arith, ltb-true}
use Rattle.std.proofs.Math.Logic.{by_cases}
use Rattle.std.proofs.lemmas.Bool.{false≢true}
use Rattle.std.proofs.Math.Decide.{ℕ_discrete}
use Rattle.std.specs.Int.Count.{ones, ones_in}
use Rattle.gf2.specs.Counts.{Count}
use Rattle.gf2.specs.DigitLaws.{bit_other}
use Rattle.gf2.specs.Digits.{bit, odd}
use Rattle.gf2.specs.Lists.{list_to}
use Rattle.gf2.specs.Truth.{clash}
use Rattle.isomorphism_laws.specs.MatchLaws.{match_carries, carries_match}
use Rattle.regular.specs.Runs.{runs_of}
use Rattle.regular.specs.Words.{Word, Generated}
use Rattle.regular.specs.Columns.{plan_of, run_of, Below, Column}
use Rattle.regular.specs.Pattern.{Distances}
use Rattle.regular.specs.RefusalLaws.{Lower}
use Rattle.regular.specs.Same.{moved, Within, Carries}
use Rattle.regular.specs.Smallest.{Equal, Entry}
use Rattle.standard.specs.Model.{run_table}
use Rattle.standard.specs.Form.{units_before}
use Rattle.words.specs.Generators.{Generators}
use Rattle.words.specs.Switches.{agree_sym, distances_agree}
use Rattle.counts.specs.Distances.{distances_any_run}
use Rattle.counts.specs.GivenWords.{given_generators}
use Rattle.counts.specs.PlanCounts.{plan_words}
use Rattle.signs.specs.Masks.{MaskOf}
use Rattle.signs.specs.SignLetter.{Solvable}
use Rattle.isomorphism_laws.specs.Masks.{plan_within}
use Rattle.isomorphism_laws.specs.Match.{Match, Places}
use Rattle.isomorphism_laws.specs.SamePlan.{carries_agree}
use Rattle.smallest_laws.specs.Value.{value, value_same}
use Rattle.catalogue_laws.specs.Demand.{plan_runs}
use Rattle.catalogue_laws.specs.Steps.{EntryHeld, FirstEntry, StepFrom, Place, one}
use Rattle.catalogue_laws.specs.Walk.{first}
use Rattle.catalogue_laws.specs.Walked.{Begun, Ended}
use Rattle.whiteboard.specs.ListTests.{among, all, distinct, carried_witness}
use Rattle.whiteboard.specs.PlanInstances.{runs_abc, record_abc, record_abcd, holds_abc, holds_abcd, past_front, table_abc_lem, distances_abc, bcd}
use Rattle.whiteboard.specs.PlanInstances.{below_abc, distinct_abc, units_abc, different_abc_abcd, standard_form_abc, independent_abc, long_words}
use Rattle.whiteboard.specs.Samples.{abc, abcd, catalogue_4, words_abc}
use Rattle.whiteboard.specs.Tests.{below, below_at}

-- no run past factor n; the word ABC generates the plan's words; the plan has 2^1 - 1 of them
pub within_abc : Within 4 (plan_of 4 3 abc)
within_abc = plan_within 4 3 abc

pub generators_abc : Generators 4 1 (Generated 4 1 (7 ∷ [])) (7 ∷ [])
unfolding below
generators_abc = given_generators 4 1 (7 ∷ []) (record {
  few = omega arith;
  less = omega arith;
  within = λ i h. ltb-true (get_or (7 ∷ []) i 0) 16 (below_at (λ j. ltb (get_or (7 ∷ []) j 0) 16) 1 refl i h);
  independent = independent_abc;
})

pub one_word_abc : Count (Word 4 (Generated 4 1 (7 ∷ []))) 1
one_word_abc = plan_words 4 3 (Generated 4 1 (7 ∷ [])) abc standard_form_abc

-- ABC with a minus can be solved for a run; from the run with A low, its mask is C
pub solvable_abc : Solvable 4 1 (7 ∷ [])
solvable_abc = record {
  most = omega arith;
  less = omega arith;
  basics = omega arith;
  within = generators_abc.within;
  independent = independent_abc;
  long = long_words (1 ∷ 0 ∷ []) words_abc.pattern;
}

pub mask_of_abc : MaskOf 4 abc 1 4
unfolding run_of odd ones ones_in units_before
mask_of_abc = record { run = 1; below = omega arith; is = refl; high = high }
  where
    high : (f : ℕ) → f < 4 → get_or abc f 0 ≡ 2 ^ units_before abc f → bit f 4 ≡ 0
    high f h u = by_cases (ℕ_discrete f 2) (λ e. absurd (omega (arith, subst (λ (i : ℕ). get_or abc i 0 ≡ 2 ^ units_before abc i) e u))) (bit_other f 2)

-- distance counts from the run AC, the same as from the first (004: the distance distribution)
pub distances_from_ac : Distances 4 (runs_of runs_abc) 5 (1 ∷ 1 ∷ 3 ∷ 3 ∷ 0 ∷ [])
unfolding list_to run_of odd ones ones_in
distances_from_ac =
    distances_any_run (runs_of runs_abc) table_abc_lem.regular 0 5 (inl refl) (inr (inl refl)) 4 (1 ∷ 1 ∷ 3 ∷ 3 ∷ 0 ∷ [])
    (distances_agree 4 (plan_of 4 3 abc) (runs_of runs_abc) (plan_runs 4 3 abc) 0 (1 ∷ 1 ∷ 3 ∷ 3 ∷ 0 ∷ []) distances_abc)

-- of two plans' numbers the lower
pub lower_of : Lower 7 4 4
lower_of = record { one = inr refl; first = λ h. (omega arith, omega arith); second = λ h. (omega arith, omega arith) }

-- a match of the columns of ABC with those of BCD; none with those of ABCD
below_bcd : Below 4 3 bcd
unfolding below
below_bcd f h = ltb-true (get_or bcd f 0) 8 (below_at (λ i. ltb (get_or bcd i 0) 8) 4 refl f h)

pub carries_bcd : Carries 4 (plan_of 4 3 abc) (plan_of 4 3 bcd) (1 ∷ 2 ∷ 3 ∷ 0 ∷ []) 0
unfolding below among all distinct moved list_to run_of odd ones ones_in
carries_bcd =
    carries_agree 4 (runs_of runs_abc) (plan_of 4 3 abc) (runs_of (run_table 4 3 bcd)) (plan_of 4 3 bcd) (1 ∷ 2 ∷ 3 ∷ 0 ∷ []) 0
    (agree_sym (plan_of 4 3 abc) (runs_of runs_abc) (plan_runs 4 3 abc)) (agree_sym (plan_of 4 3 bcd) (runs_of (run_table 4 3 bcd)) (plan_runs 4 3 bcd))
    (carried_witness 4 runs_abc (run_table 4 3 bcd) (1 ∷ 2 ∷ 3 ∷ 0 ∷ []) 0 refl).carries

pub match_bcd : (t : List ℕ) × (Match (Column 4 abc) 3 4 bcd t × Places 4 abc bcd t (1 ∷ 2 ∷ 3 ∷ 0 ∷ []))
match_bcd = carries_match 4 3 abc bcd below_abc below_bcd (1 ∷ 2 ∷ 3 ∷ 0 ∷ []) 0 units_abc carries_bcd

pub no_match : (t : List ℕ) → Match (Column 4 abc) 3 4 abcd t → ⊥
no_match t h =
    let r = match_carries 4 3 abc abcd below_abc (catalogue_4.sound 1 (omega arith)).smallest.columns.below t distinct_abc h in
    different_abc_abcd (record { names = r.0; mask = 0; carries = r.1 })

-- the walk: an entry in sixteen places, the first place, the first entry, the next one and none after it
abbrev pub held : ℕ → List ℕ
held i = get_or (record_abc.columns ∷ record_abcd.columns ∷ []) i []

pub held_abc : EntryHeld 4 3 3 record_abc.columns
held_abc = record { size = refl; rest = past_front abc 12; entry = holds_abc.columns }

held_abcd : EntryHeld 4 3 3 record_abcd.columns
held_abcd = record { size = refl; rest = past_front abcd 12; entry = holds_abcd.columns }

pub place_one : Place 4 3 3 0 one
place_one = (first 4 3 3 (omega arith) (omega arith)).at

-- an entry's number is that of ABC or of ABCD
number_of : (e : List ℕ) → Entry 4 3 3 e → (value 4 e ≡ value 4 abc) ⊎ (value 4 e ≡ value 4 abcd)
number_of e h =
    let r = catalogue_4.complete e h in
    by_cases (ℕ_discrete r.0 0)
    (λ z. inl (sym (value_same 4 abc e (subst (λ (i : ℕ). Equal 4 (get_or (abc ∷ abcd ∷ []) i []) e) z r.1.1))))
    (λ ne. let o : r.0 ≡ 1 = omega (arith, r.1.0) in
    inr (sym (value_same 4 abcd e (subst (λ (i : ℕ). Equal 4 (get_or (abc ∷ abcd ∷ []) i []) e) o r.1.1))))

pub first_abc : FirstEntry 4 3 3 0 record_abc.columns
unfolding value
first_abc = record { held = held_abc; since = omega arith; least = λ e h l. ⊎_elim (λ v. omega arith) (λ v. omega arith) (number_of e h) }

pub first_abcd : FirstEntry 4 3 3 (suc (value 4 record_abc.columns)) record_abcd.columns
unfolding value
first_abcd = record { held = held_abcd; since = omega arith; least = λ e h l. ⊎_elim (λ v. omega arith) (λ v. omega arith) (number_of e h) }

pub next_some : StepFrom 4 3 3 0 true record_abc.columns
next_some = record { some = λ _. first_abc; none = λ e. absurd (clash refl e) }

pub next_none : StepFrom 4 3 3 (suc (value 4 record_abcd.columns)) false (replicate 16 0)
unfolding value
next_none = record { some = λ e. absurd (false≢true e); none = λ _ e h l. ⊎_elim (λ v. omega arith) (λ v. omega arith) (number_of e h) }

pub begun_4 : Begun 4 3 3 2 held
begun_4 j h =
    by_cases (ℕ_discrete j 0) (λ e. rw e first_abc) (λ ne. let e : j ≡ 1 = omega arith in rw e first_abcd)

pub ended_4 : Ended 4 3 3 2 held
ended_4 = next_none.none refl
