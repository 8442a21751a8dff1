-- The words of standard columns are the reduced words of the plan, and generate all its words: each word is a sum of some of them, in one way.
-- Words to columns to words gives the reduced words of the same plan. That a plan has one reduced list is proved in ReducedUnique.
use Rattle.std.specs.Prelude.{◌≡◌, refl, ◌≢◌, List, ℕ, ◌+◌, ◌-◌, ◌%◌, ◌^◌, ◌<◌, ◌/◌, eqb, length, get_or}
use Rattle.std.proofs.Common.{sym, ap, ap₂, ◌∙◌, subst, arith, eq-eqb, ne_eqb, pow_pos}
use Rattle.std.proofs.Math.Logic.{by_cases}
use Rattle.std.proofs.Math.Decide.{ℕ_discrete, dec_lt}
use Rattle.std.specs.Int.Bits.{bit_xor}
use Rattle.std.proofs.lemmas.Nat.{xor_lt}
use Rattle.gf2.specs.Digits.{bit, odd, pick}
use Rattle.gf2.specs.DigitLaws.{bit_xor_lem, bit_none, bit_ext, xor_none}
use Rattle.gf2.specs.Lists.{list_to, to_at}
use Rattle.gf2.specs.Parity.{odd_comm, odd_bit, odd_zero_l, odd_zero_r}
use Rattle.regular.specs.Runs.{Runs, Agree}
use Rattle.regular.specs.Columns.{run_of, plan_of}
use Rattle.regular.specs.Words.{total, Word, Last, Generated, Independent, Reduced}
use Rattle.standard.specs.Form.{units_before, StandardFor}
use Rattle.standard.specs.Plans.{word_cancels, cancels_word}
use Rattle.standard.specs.Units.{standard_below}
use Rattle.standard.specs.Runs.{run_lt, run_bit, run_zero, total_lt}
use Rattle.standard.specs.Total.{total_xor, total_none}
use Rattle.words.specs.Model.{last_of}
use Rattle.words.specs.Pivots.{last_bit, last_is}
use Rattle.words.specs.ToWords.{word_at, words_of, word_last, words_into, basic_last_of_none, other_last_of_one}
use Rattle.words.specs.Generators.{Generators}
use Rattle.words.specs.Letters.{last_unique, letter_one, total_cancels}
use Rattle.words.specs.WordList.{is_unit, others_to, words_to, WordsListed, listed, word_letters}

-- a word of a plan is a word of any part of it
word_same : (n : ℕ) (s t : Runs) (w : ℕ) → ((x : ℕ) → t x → s x) → Word n s w → Word n t w
word_same n s t w h p = record { some = p.some; within = p.within; constant = λ x y a b. p.constant x y (h x a) (h y b) }

module _ (n m : ℕ) (s : Runs) (a : List ℕ) (st : StandardFor n m s a) where
  abbrev g : ℕ
  g = n - m

  abbrev ws : List ℕ
  ws = words_to a n

  -- the last letter of the i-th word
  abbrev letter : ℕ → ℕ
  letter i = get_or (others_to a n) i 0

  L : WordsListed a n (others_to a n) ws
  L = listed a n

  size : length (others_to a n) ≡ g
  size = omega (arith, L.count, st.form.units)

  letter_lt : (i : ℕ) → i < g → letter i < n
  letter_lt i h = L.below i (omega (arith, size))

  letter_other : (i : ℕ) → i < g → is_unit a (letter i) → ⊥
  letter_other i h = L.other i (omega (arith, size))

  letter_differs : (i j : ℕ) → i < g → j < g → j ≢ i → letter i ≢ letter j
  letter_differs i j h l ne q =
      by_cases (dec_lt i j)
      (λ k. omega (arith, L.rising i j k (omega (arith, size))))
      (λ k. omega (arith, L.rising j i (omega arith) (omega (arith, size))))

  word_at_lem : (i : ℕ) → i < g → get_or ws i 0 ≡ word_at a (letter i)
  word_at_lem i h = L.word i (omega (arith, size))

  last_at : (i : ℕ) → i < g → Last (letter i) (get_or ws i 0)
  last_at i h = ap (λ (x : ℕ). x / 2 ^ letter i) (word_at_lem i h) ∙ word_last a (letter i)

  last_of_lem : (i f : ℕ) → i < g → Last f (get_or ws i 0) → f ≡ letter i
  last_of_lem i f h p = last_unique f (letter i) (get_or ws i 0) p (last_at i h)

  own : (i : ℕ) → i < g → bit (letter i) (get_or ws i 0) ≡ 1
  own i h = last_bit (letter i) (get_or ws i 0) (last_at i h)

  apart : (i j : ℕ) → i < g → j < g → j ≢ i → bit (letter i) (get_or ws j 0) ≡ 0
  apart i j h l ne =
      ap (λ (x : ℕ). bit (letter i) x) (word_at_lem j l) ∙ word_letters a (letter j) (letter i) (letter_other i h) (letter_differs i j h l ne)

  -- the plan's words, and those of its columns
  of_plan : (w : ℕ) → Word n s w → Word n (plan_of n m a) w
  of_plan w p = word_same n s (plan_of n m a) w st.plan.onto p

  in_plan : (w : ℕ) → Word n (plan_of n m a) w → Word n s w
  in_plan w p = word_same n (plan_of n m a) s w st.plan.into p

  cancels : (w : ℕ) → Word n s w → total a n w ≡ 0
  cancels w p = word_cancels n m a (standard_below n m a st.form) w (of_plan w p)

  word : (i : ℕ) → i < g → Word n s (get_or ws i 0)
  word i h =
      subst (λ (w : ℕ). Word n s w) (sym (word_at_lem i h))
      (in_plan (word_at a (letter i)) (other_last_of_one n m a st.form (letter i) (letter_lt i h) (letter_other i h)).0)

  word_even : (w x : ℕ) → Word n s w → s x → odd x w ≡ 0
  word_even w x p q =
      (of_plan w p).constant x (run_of a n 0) (st.plan.into x q) (0, (pow_pos m, refl))
      ∙ ap (λ (r : ℕ). odd r w) (run_zero a n) ∙ odd_zero_l w

  -- words that are even in x: every place of the list with 0 at the basics is
  even_all : (x : ℕ) → ((i : ℕ) → i < g → odd x (get_or ws i 0) ≡ 0) → (f : ℕ) → f < n → odd x (get_or (words_of a n) f 0) ≡ 0
  even_all x h f l =
      ap (odd x) (to_at (λ e. pick (eqb (get_or a e 0) (2 ^ units_before a e)) 0 (word_at a e)) n f l)
      ∙ by_cases (ℕ_discrete (get_or a f 0) (2 ^ units_before a f))
      (λ e. rw (eq-eqb (get_or a f 0) (2 ^ units_before a f) e) (odd_zero_r x))
      (λ ne. rw (ne_eqb (get_or a f 0) (2 ^ units_before a f) ne)
      (let r = L.found f l ne in
      let k : r.0 < g = omega (arith, size, r.1.0) in
      ap (λ (e : ℕ). odd x (word_at a e)) (sym r.1.1) ∙ ap (odd x) (sym (word_at_lem r.0 k)) ∙ h r.0 k))

  plan : Agree s (Generated n g ws)
  plan = record {
    into = λ x p. record {
      within = let q = st.plan.into x p in subst (λ (y : ℕ). y < 2 ^ n) (sym q.1.1) (run_lt a n q.0);
      even = λ i h. word_even (get_or ws i 0) x (word i h) p;
    };
    onto = λ x p. st.plan.onto x (words_into n m a st.form x (record { within = p.within; even = even_all x p.even }));
  }

  pub reduced_words_lem : Reduced n g s ws
  reduced_words_lem = record {
    word = word;
    plan = plan;
    rising = λ i j e f h l p q.
        omega (arith, L.rising i j h (omega (arith, size)), last_of_lem i e (omega arith) p, last_of_lem j f l q);
    apart = λ i j f h l ne p. ap (λ (e : ℕ). bit e (get_or ws i 0)) (last_of_lem j f l p) ∙ apart j i l h ne;
  }

  -- a set of basics whose columns cancel is empty: its last letter would be that of a word
  none_left : (v : ℕ) → v < 2 ^ n → total a n v ≡ 0 → ((f : ℕ) → f < n → (is_unit a f → ⊥) → bit f v ≡ 0) → v ≡ 0
  none_left v h e z =
      by_cases (ℕ_discrete v 0) (λ q. q)
      (λ ne.
      let r = last_is n v h ne in
      let f = last_of n v in
      absurd (by_cases (ℕ_discrete (get_or a f 0) (2 ^ units_before a f))
      (λ b. basic_last_of_none n m a st.form f r.0 b v (cancels_word n m a v (omega arith) h e) r.1)
      (λ b. omega (arith, z f r.0 b, last_bit f v r.1))))

  sum_letter : (i t : ℕ) → i < g → bit (letter i) (total ws g t) ≡ bit i t
  sum_letter i t h = letter_one ws (letter i) i g t h (own i h) (λ j l ne. apart i j h l ne)

  independent : Independent g ws
  independent t h e =
      bit_ext g t 0 h (pow_pos g)
      (λ i l. sym (sum_letter i t l) ∙ ap (λ (x : ℕ). bit (letter i) x) e ∙ bit_none (letter i) ∙ sym (bit_none i))

  sum_lt : (t : ℕ) → total ws g t < 2 ^ n
  sum_lt t = total_lt ws g n t (λ i h. (word i h).within)

  sum_cancels : (t : ℕ) → total a n (total ws g t) ≡ 0
  sum_cancels t = total_cancels a n ws g t (λ i h. cancels (get_or ws i 0) (word i h))

  -- which last letters stand in w, as a number
  abbrev lasts : ℕ → ℕ
  lasts w = run_of (list_to (λ i. 2 ^ letter i) g) g w

  lasts_bit : (w i : ℕ) → i < g → bit i (lasts w) ≡ bit (letter i) w
  lasts_bit w i h =
      run_bit (list_to (λ j. 2 ^ letter j) g) g w i h
      ∙ ap (odd w) (to_at (λ j. 2 ^ letter j) g i h) ∙ odd_comm w (2 ^ letter i) ∙ odd_bit (letter i) w

  -- a word is the sum of the words whose last letters stand in it
  word_sum : (w : ℕ) → Word n s w → w ≡ total ws g (lasts w)
  word_sum w p =
      let t = lasts w in
      let v = total ws g t in
      xor_none w v (none_left (bit_xor w v) (xor_lt n w v p.within (sum_lt t))
      (total_xor a n w v ∙ ap₂ bit_xor (cancels w p) (sum_cancels t))
      (λ f h ne.
      let r = L.found f h ne in
      let i = r.0 in
      let k : i < g = omega (arith, size, r.1.0) in
      let e : bit (letter i) v ≡ bit (letter i) w = sum_letter i t k ∙ lasts_bit w i k in
      ap (λ (d : ℕ). bit d (bit_xor w v)) (sym r.1.1) ∙ bit_xor_lem (letter i) w v ∙ ap (λ (d : ℕ). (bit (letter i) w + d) % 2) e ∙ omega arith))

  pub words_generators : Generators n g s ws
  words_generators = record {
    within = λ i h. (word i h).within;
    independent = independent;
    word = λ t h l. in_plan (total ws g t) (cancels_word n m a (total ws g t)
        (by_cases (ℕ_discrete (total ws g t) 0) (λ e. absurd (omega (arith, independent t l e))) (λ ne. omega arith)) (sum_lt t) (sum_cancels t));
    all = λ w p. let t = lasts w in (
      t,
      (
        by_cases (ℕ_discrete t 0) (λ e. absurd (omega (arith, p.some, word_sum w p ∙ ap (total ws g) e ∙ total_none ws g))) (λ ne. omega arith),
        (run_lt (list_to (λ i. 2 ^ letter i) g) g w, word_sum w p),
      ),
    );
  }
