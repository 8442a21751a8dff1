-- Words with signs: with no minus the fraction is the plan that the words generate; any fraction is that plan switched by one of its runs; so the words
-- of a plan do not depend on the signs. With a minus, no run has everything high.
use Rattle.std.specs.Prelude.{ℕ, ◌+◌, ◌%◌, ◌^◌, ◌<◌, ◌≡◌, refl, List, get_or}
use Rattle.std.proofs.Common.{sym, ap, subst, ◌∙◌, arith}
use Rattle.std.specs.Int.Bits.{bit_xor}
use Rattle.std.proofs.lemmas.Nat.{xor_lt}
use Rattle.gf2.specs.Digits.{bit, odd}
use Rattle.gf2.specs.DigitLaws.{bit_none, xor_back, sum_cancel}
use Rattle.gf2.specs.Parity.{odd_lin_l, odd_lt, odd_zero_l}
use Rattle.regular.specs.Runs.{Runs, Agree, switched}
use Rattle.regular.specs.Words.{Word, Generated, Fraction}
use Rattle.words.specs.Switches.{agree_sym, agree_trans, switched_twice, word_agree, word_switched, word_switched_back}

-- no minus
pub fraction_plus : (n g : ℕ) (ws : List ℕ) → Agree (Generated n g ws) (Fraction n g ws 0)
fraction_plus n g ws = record {
  into = λ x h. record { within = h.within; product = λ i l. h.even i l ∙ sym (bit_none i) };
  onto = λ x h. record { within = h.within; even = λ i l. h.product i l ∙ bit_none i };
}

-- two signs are equal exactly if their sum is even
sum_even : (a b : ℕ) → a ≡ b → (a + b) % 2 ≡ 0
sum_even a b e = let z : (b + b) % 2 ≡ 0 = omega arith in ap (λ (x : ℕ). (x + b) % 2) e ∙ z

pub even_sum : (a b : ℕ) → a < 2 → b < 2 → (a + b) % 2 ≡ 0 → a ≡ b
even_sum a b h l e = sum_cancel a b b h l (e ∙ sym (sum_even b b refl))

-- switching plans with the same runs
pub switched_agree : (mask : ℕ) (s t : Runs) → Agree s t → Agree (switched mask s) (switched mask t)
switched_agree mask s t a = record { into = λ x h. a.into (bit_xor x mask) h; onto = λ x h. a.onto (bit_xor x mask) h }

-- from one of its runs
module _ (n g : ℕ) (ws : List ℕ) (signs r : ℕ) (q : Fraction n g ws signs r) where
  pub fraction_switched : Agree (Fraction n g ws signs) (switched r (Generated n g ws))
  fraction_switched = record {
    into = λ x h. record {
      within = xor_lt n x r h.within q.within;
      even = λ i l. odd_lin_l x r (get_or ws i 0) ∙ sum_even (odd x (get_or ws i 0)) (odd r (get_or ws i 0)) (h.product i l ∙ sym (q.product i l));
    };
    onto = λ x h. record {
      within = subst (λ (y : ℕ). y < 2 ^ n) (xor_back x r) (xor_lt n (bit_xor x r) r h.within q.within);
      product = λ i l.
          even_sum (odd x (get_or ws i 0)) (odd r (get_or ws i 0)) (odd_lt x (get_or ws i 0)) (odd_lt r (get_or ws i 0))
          (sym (odd_lin_l x r (get_or ws i 0)) ∙ h.even i l)
          ∙ q.product i l;
    };
  }

  pub fraction_back : Agree (switched r (Fraction n g ws signs)) (Generated n g ws)
  fraction_back =
      agree_trans (switched r (Fraction n g ws signs)) (switched r (switched r (Generated n g ws))) (Generated n g ws)
      (switched_agree r (Fraction n g ws signs) (switched r (Generated n g ws)) fraction_switched) (switched_twice r (Generated n g ws))

  -- the words of a fraction are those of the plan without signs
  pub fraction_words : (w : ℕ) → Word n (Fraction n g ws signs) w → Word n (Generated n g ws) w
  fraction_words w h =
      word_switched_back n r (Generated n g ws) w (word_agree n (Fraction n g ws signs) (switched r (Generated n g ws)) fraction_switched w h)

  pub words_fraction : (w : ℕ) → Word n (Generated n g ws) w → Word n (Fraction n g ws signs) w
  words_fraction w h =
      word_agree n (switched r (Generated n g ws)) (Fraction n g ws signs)
      (agree_sym (Fraction n g ws signs) (switched r (Generated n g ws)) fraction_switched) w (word_switched n r (Generated n g ws) w h)

-- where a word is minus, no run has everything high
pub no_all_high : (n g : ℕ) (ws : List ℕ) (signs i : ℕ) → i < g → bit i signs ≡ 1 → Fraction n g ws signs 0 → ⊥
no_all_high n g ws signs i h e q = omega (arith, q.product i h, odd_zero_l (get_or ws i 0))
