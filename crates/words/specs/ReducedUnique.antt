-- A plan has one list of reduced words: their last letters are those of all its words, and two words with the same such letters are equal.
-- Also: what is said of a list of words reads only its first g places.
use Rattle.std.specs.Prelude.{◌≡◌, List, ℕ, zero, suc, ◌+◌, ◌-◌, ◌*◌, ◌/◌, ◌%◌, ◌^◌, ◌≤◌, ◌<◌, get_or}
use Rattle.std.proofs.Common.{sym, ap, ap₂, ◌∙◌, subst, mod-lt, arith, pow_pos, pow_mono}
use Rattle.std.proofs.Math.Logic.{by_cases}
use Rattle.std.proofs.Math.Decide.{ℕ_discrete, dec_lt}
use Rattle.std.proofs.lemmas.Nat.{xor_shr, xor_lt, xor_comm}
use Rattle.std.specs.Int.Bits.{bit_xor}
use Rattle.std.proofs.Math.Arith.{digits_div}
use Rattle.std.proofs.Math.Pow.{split}
use Rattle.gf2.specs.Digits.{bit, odd}
use Rattle.gf2.specs.DigitLaws.{bit_xor_lem, xor_none}
use Rattle.gf2.specs.Parity.{odd_lin_r}
use Rattle.regular.specs.Runs.{Runs}
use Rattle.regular.specs.Words.{total, Word, Last, Reduced}
use Rattle.standard.specs.Form.{StandardFor}
use Rattle.standard.specs.Runs.{total_lt}
use Rattle.standard.specs.Total.{total_cols, total_more, total_next}
use Rattle.words.specs.Model.{last_of}
use Rattle.words.specs.Pivots.{last_bit, last_lt, last_is}
use Rattle.words.specs.Generators.{Generators}
use Rattle.words.specs.Letters.{last_unique}
use Rattle.words.specs.WordList.{words_to}
use Rattle.words.specs.ReducedWords.{reduced_words_lem, words_generators}

-- a rising relation that gives each number below g one of them gives it itself
module _ (g : ℕ) (R : ℕ → ℕ → Type 0) (some : (i : ℕ) → i < g → (j : ℕ) × ((j < g) × R i j))
    (rising : (i k j l : ℕ) → i < k → k < g → j < g → l < g → R i j → R k l → j < l) where
  rises : (i j : ℕ) → i < g → j < g → R i j → i ≤ j
  rises zero j h l r = omega arith
  rises (suc i) j h l r =
      let q = some i (omega arith) in
      omega (arith, rises i q.0 (omega arith) q.1.0 q.1.1, rising i (suc i) q.0 j (omega arith) h q.1.0 l q.1.1 r)

  stays : (d i j : ℕ) → i + suc d ≡ g → j < g → R i j → j + suc d ≤ g
  stays zero i j h l r = omega arith
  stays (suc d) i j h l r =
      let q = some (suc i) (omega arith) in
      omega (arith, stays d (suc i) q.0 (omega arith) q.1.0 q.1.1, rising i (suc i) j q.0 (omega arith) (omega arith) l q.1.0 r q.1.1)

  rising_is : (i : ℕ) → i < g → R i i
  rising_is i h =
      let q = some i h in
      let j = q.0 in
      let e : i + suc (g - suc i) ≡ g = omega arith in
      let z : j ≡ i = omega (arith, rises i j h q.1.0 q.1.1, stays (g - suc i) i j e q.1.0 q.1.1) in
      subst (R i) z q.1.1

-- the last letter of a word
abbrev pub LastOf : ℕ → ℕ → Type 0
LastOf n w = (f : ℕ) × ((f < n) × Last f w)

word_has_last : (n : ℕ) (s : Runs) (w : ℕ) → Word n s w → LastOf n w
word_has_last n s w p = let r = last_is n w p.within (λ e. omega (arith, p.some)) in (last_of n w, r)

-- sums of words by rising last letter: the last letter of the last word taken
module _ (n g : ℕ) (s : Runs) (ws : List ℕ) (word : (i : ℕ) → i < g → Word n s (get_or ws i 0))
    (rising : (i j e f : ℕ) → i < j → j < g → Last e (get_or ws i 0) → Last f (get_or ws j 0) → e < f) where
  earlier_lt : (i e : ℕ) → i < g → Last e (get_or ws i 0) → (j : ℕ) → j < i → get_or ws j 0 < 2 ^ e
  earlier_lt i e h p j l =
      let r = word_has_last n s (get_or ws j 0) (word j (omega arith)) in
      omega (arith, last_lt r.0 (get_or ws j 0) r.1.1, pow_mono {i = suc r.0} {j = e} (rising j i r.0 e l h r.1.1 p))

  sum_last : (t i e : ℕ) → i < g → Last i t → Last e (get_or ws i 0) → Last e (total ws g t)
  sum_last t i e h q p =
      let x = get_or ws i 0 in
      let r = t % 2 ^ i in
      let A = total ws i r in
      let la : A < 2 ^ e = total_lt ws i e r (earlier_lt i e h p) in
      let lr : r < 2 ^ i = mod-lt t (pow_pos i) in
      let d : t ≡ 1 * 2 ^ i + r = sym (split t i) ∙ ap (λ (k : ℕ). k * 2 ^ i + r) q in
      let o : x * 1 ≡ x = omega arith in
      let b : total ws g t ≡ bit_xor x A =
      total_more ws (suc i) g t h (last_lt i t q) ∙ ap (total ws (suc i)) d ∙ total_next ws i 1 r (omega arith) lr ∙ ap (bit_xor A) o ∙ xor_comm A x in
      ap (λ (y : ℕ). y / 2 ^ e) b ∙ xor_shr x A e ∙ ap₂ bit_xor p (below A e la)
    where
      below : (y k : ℕ) → y < 2 ^ k → y / 2 ^ k ≡ 0
      below y k l = let z : y ≡ 0 * 2 ^ k + y = omega arith in ap (λ (v : ℕ). v / 2 ^ k) z ∙ digits_div 0 {m = 2 ^ k} {r = y} l

-- the last letter of every word is that of a generator
module _ (n g : ℕ) (s : Runs) (ws : List ℕ) (gen : Generators n g s ws) (red : Reduced n g s ws) where
  last_among : (w f : ℕ) → Word n s w → Last f w → (i : ℕ) × ((i < g) × Last f (get_or ws i 0))
  last_among w f p q =
      let c = gen.all w p in
      let t = c.0 in
      let r = last_is g t c.1.1.0 (λ e. omega (arith, c.1.0)) in
      let i = last_of g t in
      let k = word_has_last n s (get_or ws i 0) (red.word i r.0) in
      let e : f ≡ k.0 = last_unique f k.0 w q
      (subst (λ (y : ℕ). Last k.0 y) (sym c.1.1.1) (sum_last n g s ws red.word red.rising t i k.0 r.0 r.1 k.1.1)) in
      (i, (r.0, subst (λ (d : ℕ). Last d (get_or ws i 0)) (sym e) k.1.1))

  -- two words that have the same last letters of generators
  same_word : (w v : ℕ) → Word n s w → Word n s v → ((i f : ℕ) → i < g → Last f (get_or ws i 0) → bit f w ≡ bit f v) → w ≡ v
  same_word w v p q h =
      by_cases (ℕ_discrete (bit_xor w v) 0) (λ e. xor_none w v e)
      (λ ne.
      let x = bit_xor w v in
      let word : Word n s x = record {
        some = omega arith;
        within = xor_lt n w v p.within q.within;
        constant = λ y z a b. odd_lin_r y w v ∙ ap₂ (λ (c d : ℕ). (c + d) % 2) (p.constant y z a b) (q.constant y z a b) ∙ sym (odd_lin_r z w v);
      } in
      let l = word_has_last n s x word in
      let f = l.0 in
      let r = last_among x f word l.1.1 in
      let e : bit f x ≡ (bit f w + bit f v) % 2 = bit_xor_lem f w v in
      absurd (omega (arith, last_bit f x l.1.1, h r.0 f r.1.0 r.1.1)))

  module _ (vs : List ℕ) (other : Reduced n g s vs) where
    -- a word of each list with the same last letter
    abbrev Met : ℕ → ℕ → Type 0
    Met i j = (f : ℕ) × (Last f (get_or vs i 0) × Last f (get_or ws j 0))

    met : (i : ℕ) → i < g → (j : ℕ) × ((j < g) × Met i j)
    met i h =
        let w = other.word i h in
        let l = word_has_last n s (get_or vs i 0) w in
        let r = last_among (get_or vs i 0) l.0 w l.1.1 in
        (r.0, (r.1.0, (l.0, (l.1.1, r.1.1))))

    met_rises : (i k j l : ℕ) → i < k → k < g → j < g → l < g → Met i j → Met k l → j < l
    met_rises i k j l h hk hj hl p q =
        let up : p.0 < q.0 = other.rising i k p.0 q.0 h hk p.1.0 q.1.0 in
        by_cases (dec_lt j l) (λ z. z)
        (λ z. absurd (by_cases (ℕ_discrete l j)
        (λ e. omega (arith, last_unique p.0 q.0 (get_or ws j 0) p.1.1 (subst (λ (d : ℕ). Last q.0 (get_or ws d 0)) e q.1.1)))
        (λ ne. omega (arith, red.rising l j q.0 p.0 (omega arith) hj q.1.1 p.1.1))))

    same_last : (i f : ℕ) → i < g → Last f (get_or ws i 0) → Last f (get_or vs i 0)
    same_last i f h p =
        let r = rising_is g Met met met_rises i h in
        subst (λ (d : ℕ). Last d (get_or vs i 0)) (last_unique r.0 f (get_or ws i 0) r.1.1 p) r.1.0

    -- the theorem
    pub reduced_unique : (i : ℕ) → i < g → get_or ws i 0 ≡ get_or vs i 0
    reduced_unique i h =
        same_word (get_or ws i 0) (get_or vs i 0) (red.word i h) (other.word i h)
        (λ j f l p.
        let q = same_last j f l p in
        by_cases (ℕ_discrete i j)
        (λ e. last_bit f (get_or ws i 0) (subst (λ (d : ℕ). Last f (get_or ws d 0)) (sym e) p)
        ∙ sym (last_bit f (get_or vs i 0) (subst (λ (d : ℕ). Last f (get_or vs d 0)) (sym e) q)))
        (λ ne. red.apart i j f h l ne p ∙ sym (other.apart i j f h l ne q)))

-- only the first g places count
module _ (n g : ℕ) (s : Runs) (ws vs : List ℕ) (same : (i : ℕ) → i < g → get_or ws i 0 ≡ get_or vs i 0) where
  to_ws : (i f : ℕ) → i < g → Last f (get_or vs i 0) → Last f (get_or ws i 0)
  to_ws i f h p = subst (λ (x : ℕ). Last f x) (sym (same i h)) p

  reduced_same : Reduced n g s ws → Reduced n g s vs
  reduced_same r = record {
    word = λ i h. subst (λ (x : ℕ). Word n s x) (same i h) (r.word i h);
    plan = record {
      into = λ x p. let q = r.plan.into x p in record { within = q.within; even = λ i h. ap (odd x) (sym (same i h)) ∙ q.even i h };
      onto = λ x p. r.plan.onto x (record { within = p.within; even = λ i h. ap (odd x) (same i h) ∙ p.even i h });
    };
    rising = λ i j e f h l p q. r.rising i j e f h l (to_ws i e (omega arith) p) (to_ws j f l q);
    apart = λ i j f h l ne p. ap (λ (x : ℕ). bit f x) (sym (same i h)) ∙ r.apart i j f h l ne (to_ws j f l p);
  }

  generators_same : Generators n g s ws → Generators n g s vs
  generators_same r =
      let e : (t : ℕ) → total ws g t ≡ total vs g t = λ t. total_cols ws vs g t same in
      record {
        within = λ i h. subst (λ (x : ℕ). x < 2 ^ n) (same i h) (r.within i h);
        independent = λ t h z. r.independent t h (e t ∙ z);
        word = λ t h l. subst (λ (x : ℕ). Word n s x) (e t) (r.word t h l);
        all = λ w p. let c = r.all w p in (c.0, (c.1.0, (c.1.1.0, c.1.1.1 ∙ e c.0)));
      }

-- a list with the words of standard columns in its first places
module _ (n m : ℕ) (s : Runs) (a r : List ℕ) (st : StandardFor n m s a) (same : (i : ℕ) → i < n - m → get_or r i 0 ≡ get_or (words_to a n) i 0) where
  pub generators_reduced : Reduced n (n - m) s r
  generators_reduced = reduced_same n (n - m) s (words_to a n) r (λ i h. sym (same i h)) (reduced_words_lem n m s a st)

  pub generators_generators : Generators n (n - m) s r
  generators_generators = generators_same n (n - m) s (words_to a n) r (λ i h. sym (same i h)) (words_generators n m s a st)
