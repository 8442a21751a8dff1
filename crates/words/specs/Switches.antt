-- What a plan keeps under switching levels, and between plans with the same runs: words, pattern, resolution, short words; distance counts
-- move their first run.
use Rattle.std.specs.Prelude.{◌≡◌, List, ℕ, get_or}
use Rattle.std.proofs.Common.{sym, ap, subst, ◌∙◌}
use Rattle.std.specs.Int.Bits.{bit_xor, xor_zero_r}
use Rattle.std.specs.Int.Count.{ones}
use Rattle.gf2.specs.Counts.{count_same, count_image}
use Rattle.gf2.specs.DigitLaws.{xor_back, sum_cancel, xor_cancel}
use Rattle.gf2.specs.Digits.{odd}
use Rattle.gf2.specs.Parity.{odd_lin_l, odd_lt}
use Rattle.regular.specs.Pattern.{Pattern, Resolution, Distances, of_length}
use Rattle.regular.specs.Refusals.{Short}
use Rattle.regular.specs.Runs.{Runs, Agree, switched}
use Rattle.regular.specs.Words.{Word, NoShort, letters}

-- every word of s is a word of t
abbrev pub WordsOf : ℕ → Runs → Runs → Type 0
WordsOf n s t = (w : ℕ) → Word n s w → Word n t w

-- two plans with the same words
module _ (n : ℕ) (s t : Runs) (into : WordsOf n s t) (onto : WordsOf n t s) where
  pub words_pattern : (p : List ℕ) → Pattern n s p → Pattern n t p
  words_pattern p c =
      record {
        counts = λ l low high. count_same (λ w. Word n s w × (letters w ≡ l)) (λ w. Word n t w × (letters w ≡ l)) (of_length p l)
            (λ w h. (into w h.0, h.1)) (λ w h. (onto w h.0, h.1)) (c.counts l low high);
      }

  words_resolution : (k : ℕ) → Resolution n s k → Resolution n t k
  words_resolution k (Resolution.full h) = Resolution.full (λ w p. h w (onto w p))
  words_resolution k (Resolution.shortest w p h) = Resolution.shortest w (into w p) (λ v q. h v (onto v q))

words_short : (n r : ℕ) (s t : Runs) → WordsOf n s t → Short n r s → Short n r t
words_short n r s t into h = record { word = h.word; is = into h.word h.is; few = h.few }

words_no_short : (n r : ℕ) (s t : Runs) → WordsOf n t s → NoShort n r s → NoShort n r t
words_no_short n r s t onto h w p = h w (onto w p)

-- the same runs
pub agree_refl : (s : Runs) → Agree s s
agree_refl s = record { into = λ x p. p; onto = λ x p. p }

pub agree_sym : (s t : Runs) → Agree s t → Agree t s
agree_sym s t a = record { into = a.onto; onto = a.into }

pub agree_trans : (s t u : Runs) → Agree s t → Agree t u → Agree s u
agree_trans s t u a b = record { into = λ x p. b.into x (a.into x p); onto = λ x p. a.onto x (b.onto x p) }

pub word_agree : (n : ℕ) (s t : Runs) → Agree s t → (w : ℕ) → Word n s w → Word n t w
word_agree n s t a w h = record { some = h.some; within = h.within; constant = λ x y p q. h.constant x y (a.onto x p) (a.onto y q) }

module _ (n : ℕ) (s t : Runs) (a : Agree s t) where
  pub pattern_agree : (p : List ℕ) → Pattern n s p → Pattern n t p
  pattern_agree = words_pattern n s t (word_agree n s t a) (word_agree n t s (agree_sym s t a))

  pub resolution_agree : (k : ℕ) → Resolution n s k → Resolution n t k
  resolution_agree = words_resolution n s t (word_agree n s t a) (word_agree n t s (agree_sym s t a))

  pub short_agree : (r : ℕ) → Short n r s → Short n r t
  short_agree r = words_short n r s t (word_agree n s t a)

  pub no_short_agree : (r : ℕ) → NoShort n r s → NoShort n r t
  no_short_agree r = words_no_short n r s t (word_agree n t s (agree_sym s t a))

  pub distances_agree : (r : ℕ) (d : List ℕ) → Distances n s r d → Distances n t r d
  distances_agree r d c =
      record {
        counts = λ i h. count_same (λ x. s x × (letters (bit_xor x r) ≡ i)) (λ x. t x × (letters (bit_xor x r) ≡ i)) (get_or d i 0)
            (λ x p. (a.into x p.0, p.1)) (λ x p. (a.onto x p.0, p.1)) (c.counts i h);
      }

-- switching twice
pub switched_twice : (mask : ℕ) (s : Runs) → Agree (switched mask (switched mask s)) s
switched_twice mask s = record { into = λ x p. subst s (xor_back x mask) p; onto = λ x p. subst s (sym (xor_back x mask)) p }

-- switching keeps the words
pub word_switched : (n mask : ℕ) (s : Runs) (w : ℕ) → Word n s w → Word n (switched mask s) w
word_switched n mask s w h =
    record {
      some = h.some;
      within = h.within;
      constant = λ x y p q. sum_cancel (odd x w) (odd y w) (odd mask w) (odd_lt x w) (odd_lt y w)
          (sym (odd_lin_l x mask w) ∙ h.constant (bit_xor x mask) (bit_xor y mask) p q ∙ odd_lin_l y mask w);
    }

pub word_switched_back : (n mask : ℕ) (s : Runs) (w : ℕ) → Word n (switched mask s) w → Word n s w
word_switched_back n mask s w h =
    word_agree n (switched mask (switched mask s)) s (switched_twice mask s) w (word_switched n mask (switched mask s) w h)

module _ (n mask : ℕ) (s : Runs) where
  pub pattern_switched : (p : List ℕ) → Pattern n (switched mask s) p → Pattern n s p
  pattern_switched = words_pattern n (switched mask s) s (word_switched_back n mask s) (word_switched n mask s)

  pub resolution_switched : (k : ℕ) → Resolution n (switched mask s) k → Resolution n s k
  resolution_switched = words_resolution n (switched mask s) s (word_switched_back n mask s) (word_switched n mask s)

  pub short_switched : (r : ℕ) → Short n r (switched mask s) → Short n r s
  short_switched r = words_short n r (switched mask s) s (word_switched_back n mask s)

  pub no_short_switched : (r : ℕ) → NoShort n r (switched mask s) → NoShort n r s
  no_short_switched r = words_no_short n r (switched mask s) s (word_switched n mask s)

  -- distances from run 0 of the switched plan are those from the run `mask`
  pub distances_switched : (d : List ℕ) → Distances n (switched mask s) 0 d → Distances n s mask d
  distances_switched d c =
      record {
        counts = λ i h. count_image (λ x. switched mask s x × (letters (bit_xor x 0) ≡ i)) (λ x. s x × (letters (bit_xor x mask) ≡ i)) (get_or d i 0)
            (λ x. bit_xor x mask)
            (λ x p. (p.0, ap ones (xor_back x mask ∙ sym (xor_zero_r x)) ∙ p.1))
            (λ y q. (bit_xor y mask, ((subst s (sym (xor_back y mask)) q.0, ap ones (xor_zero_r (bit_xor y mask)) ∙ q.1), sym (xor_back y mask))))
            (λ x y p q. xor_cancel x y mask)
            (c.counts i h);
      }
