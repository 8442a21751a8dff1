-- Reduced words with signs: a plan has them, by its mask, and one only. Words and signs to a record to words gives the reduced words and their signs of
-- the same set of runs.
use Rattle.std.specs.Prelude.{ℕ, ◌^◌, ◌≤◌, ◌<◌, ◌≡◌, List, get_or}
use Rattle.std.proofs.Common.{sym, ap, ◌∙◌, arith, pow_pos}
use Rattle.gf2.specs.Digits.{bit, odd}
use Rattle.gf2.specs.DigitLaws.{bit_ext, bit_none}
use Rattle.regular.specs.Runs.{Runs, Agree, switched}
use Rattle.regular.specs.Words.{Last, Generated, Independent, Reduced, Fraction, SignedWords}
use Rattle.regular.specs.Columns.{plan_of, plan_with, run_of, Standard}
use Rattle.standard.specs.Runs.{run_lt, run_bit}
use Rattle.words.specs.Letters.{letter_one}
use Rattle.words.specs.Model.{last_of}
use Rattle.words.specs.Pivots.{last_bit, last_is}
use Rattle.words.specs.ReducedUnique.{reduced_unique}
use Rattle.words.specs.Switches.{agree_sym, agree_trans, word_agree, switched_twice}
use Rattle.signs.specs.FractionLaws.{words_generate}
use Rattle.signs.specs.SignLaws.{switched_agree, fraction_switched, fraction_back}

-- the reduced words of a plan are those of every plan with the same runs
reduced_agree : (n g : ℕ) (s t : Runs) (ws : List ℕ) → Agree s t → Reduced n g s ws → Reduced n g t ws
reduced_agree n g s t ws a r = record {
  word = λ i h. word_agree n s t a (get_or ws i 0) (r.word i h);
  plan = agree_trans t s (Generated n g ws) (agree_sym s t a) r.plan;
  rising = r.rising;
  apart = r.apart;
}

-- columns to words: the reduced words of the plan switched by its mask, or by any run of it; word i is minus if it has an odd number of low levels there
pub signed_words : (n g : ℕ) (s : Runs) (ws : List ℕ) (mask : ℕ) → mask < 2 ^ n → Reduced n g (switched mask s) ws → SignedWords n g s ws (run_of ws g mask)
signed_words n g s ws mask l r =
    let G = Generated n g ws in
    let signs = run_of ws g mask in
    let own : Fraction n g ws signs mask = record { within = l; product = λ i h. sym (run_bit ws g mask i h) } in
    record {
      words = reduced_agree n g (switched mask s) G ws r.plan r;
      within = run_lt ws g mask;
      plan = agree_trans s (switched mask (switched mask s)) (Fraction n g ws signs) (agree_sym (switched mask (switched mask s)) s (switched_twice mask s))
          (agree_trans (switched mask (switched mask s)) (switched mask G) (Fraction n g ws signs) (switched_agree mask (switched mask s) G r.plan)
          (agree_sym (Fraction n g ws signs) (switched mask G) (fraction_switched n g ws signs mask own)));
    }

-- reduced words are independent: each has a letter that no other has
reduced_independent : (n g : ℕ) (s : Runs) (ws : List ℕ) → Reduced n g s ws → Independent g ws
reduced_independent n g s ws r t h e =
    bit_ext g t 0 h (pow_pos g)
    (λ i l.
    let w = r.word i l in
    let f = last_of n (get_or ws i 0) in
    let last : Last f (get_or ws i 0) = (last_is n (get_or ws i 0) w.within (λ z. omega (arith, w.some))).1 in
    sym (letter_one ws f i g t l (last_bit f (get_or ws i 0) last) (λ j k ne. r.apart j i f k l ne last))
    ∙ ap (λ (x : ℕ). bit f x) e ∙ bit_none f ∙ sym (bit_none i))

-- a plan with a run has one list of reduced words, and one choice of signs for them
module _ (n g : ℕ) (s : Runs) (ws vs : List ℕ) (signs other : ℕ) (hn : n ≤ 16) (hg : g ≤ n) (p : SignedWords n g s ws signs)
    (q : SignedWords n g s vs other) (x : ℕ) (run : s x) where
  pub signed_words_unique : (i : ℕ) → i < g → get_or ws i 0 ≡ get_or vs i 0
  signed_words_unique =
      let G = Generated n g ws in
      let H = Generated n g vs in
      let same : Agree H G =
      agree_trans H (switched x s) G (agree_sym (switched x s) H (signed_switched vs other q)) (signed_switched ws signs p) in
      let gen = words_generate n g ws hn hg (λ i h. (p.words.word i h).within) (reduced_independent n g G ws p.words) in
      reduced_unique n g G ws gen p.words vs (reduced_agree n g H G vs same q.words)
    where
      signed_switched : (us : List ℕ) (a : ℕ) → SignedWords n g s us a → Agree (switched x s) (Generated n g us)
      signed_switched us a k =
          agree_trans (switched x s) (switched x (Fraction n g us a)) (Generated n g us)
          (switched_agree x s (Fraction n g us a) k.plan) (fraction_back n g us a x (k.plan.into x run))

  pub signs_unique : signs ≡ other
  signs_unique =
      bit_ext g signs other p.within q.within
      (λ i h. sym ((p.plan.into x run).product i h) ∙ ap (odd x) (signed_words_unique i h) ∙ (q.plan.into x run).product i h)

-- the plan of a plan's record is the plan
pub standard_with : (n m : ℕ) (s : Runs) (c : List ℕ) (mask : ℕ) → Standard n m s c mask → Agree s (plan_with n m c mask)
standard_with n m s c mask k =
    agree_trans s (switched mask (switched mask s)) (plan_with n m c mask) (agree_sym (switched mask (switched mask s)) s (switched_twice mask s))
    (switched_agree mask (switched mask s) (plan_of n m c) k.columns.plan)

-- words and signs to a record to words: the reduced words and their signs of the same runs
pub signed_there_and_back : (n m g : ℕ) (us : List ℕ) (minus : ℕ) (c : List ℕ) (mask : ℕ) (ws : List ℕ) (signs : ℕ)
    → Standard n m (Fraction n g us minus) c mask → SignedWords n g (plan_with n m c mask) ws signs → SignedWords n g (Fraction n g us minus) ws signs
signed_there_and_back n m g us minus c mask ws signs k p = record {
  words = p.words;
  within = p.within;
  plan = agree_trans (Fraction n g us minus) (plan_with n m c mask) (Fraction n g ws signs) (standard_with n m (Fraction n g us minus) c mask k) p.plan;
}
