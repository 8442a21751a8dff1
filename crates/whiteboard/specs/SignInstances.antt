-- Instances of words with signs: their runs, their columns and mask, their run table, and the reduced words with their signs. ABC with a minus in N 3,
-- G 1, which avoids the run with everything high; ABDE and CDE in N 5, G 2. And the whiteboard's P and Q, with any signs.
use Rattle.std.specs.Prelude.{ℕ, zero, suc, ◌+◌, ◌%◌, ◌<◌, ◌≡◌, refl, List, [], ◌∷◌, ◌++◌, get_or, replicate}
use Rattle.std.proofs.Common.{ap, subst, ◌∙◌, arith}
use Rattle.std.specs.Int.Bits.{bit_xor}
use Rattle.std.specs.Int.Count.{ones, ones_in}
use Rattle.gf2.specs.Digits.{bit, odd}
use Rattle.gf2.specs.Parity.{odd_lin_r}
use Rattle.regular.specs.Columns.{run_of, Basic, Allowed, Standard, ListedWith, RunTableWith}
use Rattle.regular.specs.Given.{of_words}
use Rattle.regular.specs.Runs.{Runs}
use Rattle.regular.specs.Same.{Same}
use Rattle.regular.specs.Smallest.{ReachesOne}
use Rattle.regular.specs.Words.{Generated, Fraction, SignedWords, total}
use Rattle.standard.specs.Form.{units_before}
use Rattle.standard.specs.Units.{spread, units_at}
use Rattle.words.specs.Model.{word_columns, pivots_at, free_before, reduced, last_of}
use Rattle.words.proofs.ReducedWords.{words_columns_words}
use Rattle.words.specs.WordList.{words_to}
use Rattle.counts.specs.GivenWords.{WordsGiven}
use Rattle.signs.specs.SignLaws.{no_all_high, fraction_words}
use Rattle.catalogue_laws.specs.SignedPlans.{signed_reaches_one}
use Rattle.whiteboard.specs.PlanInstances.{past_front, sized_4, long_words}
use Rattle.whiteboard.specs.RowLaws.{is_given}
use Rattle.whiteboard.specs.Samples.{abc, abcd, catalogue_4, words_abc}
use Rattle.whiteboard.specs.Switching.{signs_same}
use Rattle.whiteboard.specs.Tests.{below, agree_at}
use Rattle.whiteboard.specs.Whiteboard.{words_p, words_q}

abbrev pub minus : Runs
minus = Fraction 3 1 (7 ∷ []) 1

abbrev pub three : List ℕ
three = 1 ∷ 2 ∷ 3 ∷ []

-- the run with everything high is none of its runs
pub not_all_high : minus 0 → ⊥
not_all_high = no_all_high 3 1 (7 ∷ []) 1 0 (omega arith) refl

-- the runs with C low, or A, alone
pub run_minus : minus 4
unfolding odd ones ones_in below
run_minus = record { within = omega arith; product = agree_at (λ i. odd 4 (get_or (7 ∷ []) i 0)) (λ i. bit i 1) 1 refl }

run_a : minus 1
unfolding odd ones ones_in below
run_a = record { within = omega arith; product = agree_at (λ i. odd 1 (get_or (7 ∷ []) i 0)) (λ i. bit i 1) 1 refl }

basic_minus_a : Basic 3 minus 0
unfolding odd ones ones_in
basic_minus_a w word last =
    let one : w ≡ 1 = omega (arith, last) in
    omega (arith, subst (λ (v : ℕ). odd 4 v ≡ odd 1 v) one (word.constant 4 1 run_minus run_a))

pub barred_a : Allowed 3 minus 1 → ⊥
barred_a a = omega (arith, a 0 basic_minus_a)

-- without its mask they are not its columns
pub not_standard : Standard 3 2 minus three 0 → ⊥
unfolding run_of odd ones ones_in
not_standard k = not_all_high (k.columns.plan.onto 0 (0, (omega arith, refl)))

pub not_start_minus : (of_words 3 1 (7 ∷ []) 1).start 1 → ⊥
not_start_minus k = barred_a k.1

pub not_listed : ListedWith 3 2 three 4 (0 ∷ 5 ∷ 6 ∷ 3 ∷ []) → ⊥
unfolding run_of odd ones ones_in
not_listed k = omega (arith, k 0 (omega arith))

pub run_table_minus : RunTableWith 3 2 three 4 ((4 ∷ 1 ∷ 2 ∷ 7 ∷ []) ++ replicate 124 0)
unfolding below run_of odd ones ones_in
run_table_minus = record {
  places = refl;
  run = agree_at (λ j. get_or ((4 ∷ 1 ∷ 2 ∷ 7 ∷ []) ++ replicate 124 0) j 0) (λ j. bit_xor (run_of three 3 j) 4) 4 refl;
  unused = past_front (4 ∷ 1 ∷ 2 ∷ 7 ∷ []) 124;
}

-- the mask in an unused place
pub not_run_table : RunTableWith 3 2 three 4 ((4 ∷ 1 ∷ 2 ∷ 7 ∷ []) ++ replicate 124 4) → ⊥
not_run_table k = omega (arith, k.unused 4 (omega arith))

-- ABDE minus and CDE plus, and the other way round: their product, ABC, is minus in both
abbrev pub five_columns : List ℕ
five_columns = 1 ∷ 2 ∷ 3 ∷ 4 ∷ 7 ∷ []

abbrev pub first_minus : Runs
first_minus = Fraction 5 2 (27 ∷ 28 ∷ []) 1

-- the reduced words are ABC and ABDE, with their own signs
abbrev pub reduced_words : List ℕ
reduced_words = 7 ∷ 27 ∷ []

given_reduced : WordsGiven 5 2 reduced_words
unfolding total below
given_reduced = is_given 5 2 reduced_words refl

product_digit : (a b s t : ℕ) → a ≡ s → b ≡ t → (a + b) % 2 ≡ (s + t) % 2
product_digit a b s t p q = ap (λ (x : ℕ). (x + b) % 2) p ∙ ap (λ (x : ℕ). (s + x) % 2) q

pub signed_first : SignedWords 5 2 first_minus reduced_words 3
unfolding words_to word_columns pivots_at free_before reduced last_of total units_before spread units_at
signed_first = record {
  words = words_columns_words 5 2 reduced_words (omega arith) (omega arith) given_reduced.within given_reduced.independent;
  within = omega arith;
  plan = record { into = into; onto = onto };
}
  where
    into : (x : ℕ) → first_minus x → Fraction 5 2 reduced_words 3 x
    into x h = record { within = h.within; product = product }
      where
        product : (i : ℕ) → i < 2 → odd x (get_or reduced_words i 0) ≡ bit i 3
        product zero l = odd_lin_r x 27 28 ∙ product_digit (odd x 27) (odd x 28) 1 0 (h.product 0 (omega arith)) (h.product 1 (omega arith))
        product (suc zero) l = h.product 0 (omega arith)
        product (suc (suc i)) l = absurd (omega arith)

    onto : (x : ℕ) → Fraction 5 2 reduced_words 3 x → first_minus x
    onto x h = record { within = h.within; product = product }
      where
        product : (i : ℕ) → i < 2 → odd x (get_or (27 ∷ 28 ∷ []) i 0) ≡ bit i 1
        product zero l = h.product 1 (omega arith)
        product (suc zero) l = odd_lin_r x 7 27 ∙ product_digit (odd x 7) (odd x 27) 1 1 (h.product 0 (omega arith)) (h.product 1 (omega arith))
        product (suc (suc i)) l = absurd (omega arith)

-- the signs of the words as given are not theirs
pub not_signed : SignedWords 5 2 first_minus reduced_words 1 → ⊥
unfolding odd ones ones_in below
not_signed k =
    let run : first_minus 20 = record { within = omega arith; product = agree_at (λ i. odd 20 (get_or (27 ∷ 28 ∷ []) i 0)) (λ i. bit i 1) 2 refl } in
    omega (arith, (k.plan.into 20 run).product 1 (omega arith))

-- demand 3: ABC with a minus, of four factors, reaches one entry
given_abc_lem : WordsGiven 4 1 (7 ∷ [])
unfolding total below
given_abc_lem = is_given 4 1 (7 ∷ []) refl

run_abc_minus : Fraction 4 1 (7 ∷ []) 1 4
unfolding odd ones ones_in below
run_abc_minus = record { within = omega arith; product = agree_at (λ i. odd 4 (get_or (7 ∷ []) i 0)) (λ i. bit i 1) 1 refl }

pub reaches_signed : ReachesOne 4 3 2 (λ i. get_or (abc ∷ abcd ∷ []) i []) (Fraction 4 1 (7 ∷ []) 1)
reaches_signed =
    signed_reaches_one 4 1 3 2 (λ i. get_or (abc ∷ abcd ∷ []) i []) catalogue_4 sized_4 (7 ∷ []) 1 given_abc_lem.within given_abc_lem.independent
    (λ w h. long_words (1 ∷ 0 ∷ []) words_abc.pattern w (fraction_words 4 1 (7 ∷ []) 1 4 run_abc_minus w h))

-- P and Q of the whiteboard with every choice of signs are the same as themselves without
given_p : WordsGiven 9 3 words_p
unfolding total below
given_p = is_given 9 3 words_p refl

given_q : WordsGiven 9 3 words_q
unfolding total below
given_q = is_given 9 3 words_q refl

pub signs_p : (signs : ℕ) → Same 9 (Fraction 9 3 words_p signs) (Generated 9 3 words_p)
signs_p = signs_same 9 3 words_p given_p.few given_p.less given_p.within given_p.independent

pub signs_q : (signs : ℕ) → Same 9 (Fraction 9 3 words_q signs) (Generated 9 3 words_q)
signs_q = signs_same 9 3 words_q given_q.few given_q.less given_q.within given_q.independent
