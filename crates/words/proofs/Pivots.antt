-- Elimination, on: what holds after one more word, and where the words are independent.
use Rattle.std.specs.Prelude.{◌≡◌, refl, ◌≢◌, List, ℕ, zero, suc, ◌+◌, ◌*◌, ◌/◌, ◌%◌, ◌^◌, ◌≤◌, ◌<◌, get_or, set}
use Rattle.std.proofs.Common.{sym, ap, ap₂, ◌∙◌, subst, inl, inr, ⊎_elim, mod-lt}
use Rattle.std.proofs.Common.{one-add, arith, pow_pos, pow_mono, shr_lt, length-set, get_or-set_same, get_or-set_other}
use Rattle.std.proofs.Math.Logic.{by_cases}
use Rattle.std.proofs.Math.Nat.{two-pow-succ}
use Rattle.std.proofs.Math.Decide.{ℕ_discrete}
use Rattle.std.specs.Int.Bits.{bit_xor, xor_self, xor_zero_l, xor_zero_r}
use Rattle.std.proofs.lemmas.Nat.{xor_lt}
use Rattle.std.proofs.Math.Pow.{split}
use Rattle.gf2.specs.DigitLaws.{xor_move, xor_none}
use Rattle.gf2.specs.Digits.{bit}
use Rattle.regular.specs.Words.{total, Independent}
use Rattle.standard.specs.Total.{InSpan, total_next, total_more, span_none, span_xor, span_at, span_total, span_more}
use Rattle.words.specs.Model.{reduced, last_of, pivots_at, Pivots}
use Rattle.words.specs.Pivots.{last_bit, Lasts, sum_lt, sum_none, Cleared, reduced_is, last_is, free_less, apart_bits, pivots_none}

-- one more word
module _ (n i : ℕ) (ws piv : List ℕ) (P : Pivots n i ws piv) (hw : get_or ws i 0 < 2 ^ n) where
  abbrev w : ℕ
  w = get_or ws i 0

  abbrev r : ℕ
  r = reduced piv n w

  red : Cleared n piv w r
  red = reduced_is n piv P.last w

  -- the part that was taken away
  abbrev rest : ℕ
  rest = total piv n red.by

  rest_in : InSpan ws i rest
  rest_in = span_total ws i piv n red.by P.from

  pub reduced_lt : r < 2 ^ n
  reduced_lt = subst (λ (y : ℕ). y < 2 ^ n) (sym red.is) (xor_lt n w rest hw (sum_lt n piv P.last red.by))

  word_is : w ≡ bit_xor r rest
  word_is = xor_move w rest r (sym red.is)

  -- nothing is left: the words depend
  pub depends : r ≡ 0 → (s : ℕ) × ((s < 2 ^ suc i) × ((total ws (suc i) s ≡ 0) × (s ≡ 0 → ⊥)))
  depends z =
      let q = rest_in in
      let e : w ≡ rest = word_is ∙ ap (λ (y : ℕ). bit_xor y rest) z ∙ xor_zero_l rest in
      let o : w * 1 ≡ w = omega arith in (
        1 * 2 ^ i + q.0,
        (
          omega (arith, two-pow-succ i, q.1.0),
          (
            total_next ws i 1 q.0 (omega arith) q.1.0 ∙ ap₂ bit_xor q.1.1 (o ∙ e) ∙ xor_self rest,
            λ k. omega (arith, pow_pos i),
          ),
        ),
      )

  module _ (ne : r ≡ 0 → ⊥) where
    abbrev p : ℕ
    p = last_of n r

    abbrev piv2 : List ℕ
    piv2 = set piv p r

    p_lt : p < n
    p_lt = (last_is n r reduced_lt ne).0

    p_last : r / 2 ^ p ≡ 1
    p_last = (last_is n r reduced_lt ne).1

    -- its last letter was no pivot's
    was_free : get_or piv p 0 ≡ 0
    was_free = ⊎_elim (λ e. e) (λ e. apart_bits (bit p r) (get_or piv p 0 ≡ 0) (red.clear p p_lt e) (last_bit p r p_last)) (P.last p p_lt)

    at_p : get_or piv2 p 0 ≡ r
    at_p = get_or-set_same piv p r 0 (omega (arith, P.room, p_lt))

    off_p : (f : ℕ) → f ≢ p → get_or piv2 f 0 ≡ get_or piv f 0
    off_p f h = get_or-set_other piv p f r 0 h

    lasts2 : Lasts n piv2
    lasts2 f l =
        by_cases (ℕ_discrete f p)
        (λ e. inr (rw e (ap (λ (x : ℕ). x / 2 ^ p) at_p ∙ p_last)))
        (λ nq. ⊎_elim (λ e. inl (off_p f nq ∙ e)) (λ e. inr (ap (λ (x : ℕ). x / 2 ^ f) (off_p f nq) ∙ e)) (P.last f l))

    r_from : InSpan ws (suc i) r
    r_from = subst (InSpan ws (suc i)) (sym red.is) (span_xor ws (suc i) w rest (span_at ws (suc i) i (omega arith)) (span_more ws i rest rest_in))

    old_in : (f : ℕ) → f < n → InSpan piv2 n (get_or piv f 0)
    old_in f l =
        by_cases (ℕ_discrete f p)
        (λ e. subst (InSpan piv2 n) (sym (ap (λ (g : ℕ). get_or piv g 0) e ∙ was_free)) (span_none piv2 n))
        (λ nq. subst (InSpan piv2 n) (off_p f nq) (span_at piv2 n f l))

    -- a product that is empty
    none_empty : (d s : ℕ) → d < 2 → s < 2 ^ i → total ws (suc i) (d * 2 ^ i + s) ≡ 0 → d * 2 ^ i + s ≡ 0
    none_empty zero s hd hs e =
        let o : w * 0 ≡ 0 = omega arith in
        omega (arith, P.free s hs (sym (total_next ws i 0 s hd hs ∙ ap (bit_xor (total ws i s)) o ∙ xor_zero_r (total ws i s)) ∙ e))
    none_empty (suc zero) s hd hs e =
        let o : w * 1 ≡ w = omega arith in
        let A = total ws i s in
        let z : bit_xor A w ≡ 0 = ap (bit_xor A) (sym o) ∙ sym (total_next ws i 1 s hd hs) ∙ e in
        let wa : w ≡ A = sym (xor_none A w z) in
        let k : InSpan piv n r = subst (InSpan piv n) (sym red.is)
        (span_xor piv n w rest (subst (InSpan piv n) (sym wa) (span_total piv n ws i s P.back)) (red.by, (red.by_lt, refl))) in
        absurd (ne (sym k.1.1 ∙ sum_none n piv k.0 P.last (λ f l q. ap (λ (y : ℕ). bit f y) k.1.1 ∙ red.clear f l q)))
    none_empty (suc (suc d)) s hd hs e = absurd (omega arith)

    pub pivots_more : Pivots n (suc i) ws piv2
    pivots_more =
        record {
          room = omega (arith, length-set piv p r, P.room);
          last = lasts2;
          from = λ f l. by_cases (ℕ_discrete f p)
              (λ e. subst (InSpan ws (suc i)) (sym (ap (λ (g : ℕ). get_or piv2 g 0) e ∙ at_p)) r_from)
              (λ nq. subst (InSpan ws (suc i)) (sym (off_p f nq)) (span_more ws i (get_or piv f 0) (P.from f l)));
          back = λ g l. by_cases (ℕ_discrete g i)
              (λ e. subst (InSpan piv2 n) (sym (ap (λ (h : ℕ). get_or ws h 0) e ∙ word_is))
              (span_xor piv2 n r rest (subst (InSpan piv2 n) at_p (span_at piv2 n p p_lt)) (span_total piv2 n piv n red.by old_in)))
              (λ nq. let b = P.back g (omega arith) in subst (InSpan piv2 n) b.1.1 (span_total piv2 n piv n b.0 old_in));
          count = omega (arith, P.count, free_less piv piv2 p n p_lt was_free (λ e. ne (sym at_p ∙ e)) (λ f l nq. sym (off_p f nq)));
          free = λ s l e.
              let g : s < 2 ^ (1 + i) = subst (λ (k : ℕ). s < 2 ^ k) (sym (one-add i)) l in
              let t : s / 2 ^ i * 2 ^ i + s % 2 ^ i ≡ s = split s i in
              sym t ∙ none_empty (s / 2 ^ i) (s % 2 ^ i) (shr_lt 1 i g) (mod-lt s (pow_pos i)) (ap (total ws (suc i)) t ∙ e);
        }

-- a word of the list that reduces to nothing
pub empty_word : (n g i : ℕ) (ws piv : List ℕ) → i < g → Pivots n i ws piv → get_or ws i 0 < 2 ^ n → Independent g ws → reduced piv n (get_or ws i 0) ≡ 0 → ⊥
empty_word n g i ws piv hi P hw ind e =
    let d = depends n i ws piv P hw e in
    d.1.1.1 (ind d.0
    (omega (arith, d.1.0, pow_mono {i = suc i} {j = g} hi))
    (total_more ws (suc i) g d.0 hi d.1.0 ∙ d.1.1.0))

-- independent words: the elimination goes through
pub eliminates : (n g : ℕ) (ws : List ℕ) → n ≤ 16 → ((i : ℕ) → i < g → get_or ws i 0 < 2 ^ n) → Independent g ws → (i : ℕ) → i ≤ g
    → Pivots n i ws (pivots_at ws n i)
unfolding pivots_at
eliminates n g ws hn hw ind zero h = pivots_none n ws hn
eliminates n g ws hn hw ind (suc i) h =
    let P = eliminates n g ws hn hw ind i (omega arith) in
    pivots_more n i ws (pivots_at ws n i) P (hw i h) (empty_word n g i ws (pivots_at ws n i) h P (hw i h) ind)
