-- Signs as a letter. The words with their signs in the place of letter A differ from the words in A alone; no word having one letter, they are
-- independent too, and A alone is no word of theirs. So A is basic, and the other basic factors stay. Run 1 of their standard columns, which is low at A
-- and at no other basic factor, with A switched is the run of the words with signs that is allowed as a mask.
use Prim.Native.Nat.{ℕ, zero, suc, ◌+◌, ◌*◌, ◌-◌, ◌/◌, ◌%◌, ◌^◌, ◌≤◌, ◌<◌}
use Rattle.std.specs.Prelude.{◌≡◌, Bool, List, get_or}
use Rattle.std.proofs.Math.Path.{refl, sym, ap₂}
use Rattle.std.proofs.Common.{ap, subst, ◌∙◌, ⊎_elim, mod-lt, arith, pow_pos, pow_mono, shr-shr}
use Rattle.std.proofs.Math.Logic.{by_cases}
use Rattle.std.proofs.Math.Decide.{ℕ_discrete, dec_lt}
use Rattle.std.specs.Int.Bits.{bit_xor, xor_zero_r}
use Rattle.std.proofs.lemmas.Nat.{xor_lt}
use Rattle.std.proofs.Math.Pow.{pow-lt}
use Rattle.gf2.specs.Digits.{bit, odd}
use Rattle.gf2.specs.DigitLaws.{xor_half, bit_none, bit_xor_lem, bit_over, bit_other}
use Rattle.gf2.specs.Letters.{ones_unit}
use Rattle.gf2.specs.Parity.{odd_lin_l, odd_lin_r, odd_bit, odd_comm, odd_zero_l, odd_zero_r}
use Rattle.gf2.specs.Truth.{told}
use Rattle.regular.specs.Words.{Generated, Independent, Fraction, total, letters}
use Rattle.regular.specs.Columns.{run_of, Basic, Allowed}
use Rattle.standard.specs.Form.{StandardFor, units_before}
use Rattle.standard.specs.Finding.{StandardFound}
use Rattle.standard.specs.Runs.{run_bit}
use Rattle.standard.specs.Total.{total_none}
use Rattle.standard.specs.Units.{units_zero, units_next, units_mono}
use Rattle.words.specs.Standards.{basic_unit}
use Rattle.signs.specs.FractionLaws.{sum_word, all_words}
use Rattle.signs.specs.SignLaws.{even_sum, words_fraction}
use Rattle.signs.specs.SignLetter.{Solvable, SignedAtA}

-- a bit is below 2, and half of it is 0
bit_lt : (i x : ℕ) → bit i x < 2
bit_lt i x = mod-lt (x / 2 ^ i) (omega arith)

bit_half : (i x : ℕ) → bit i x / 2 ≡ 0
bit_half i x = omega (arith, bit_lt i x)

-- a digit and a run in which A is low
odd_digit : (y d : ℕ) → bit 0 y ≡ 1 → d < 2 → odd y d ≡ d
odd_digit y zero e h = odd_zero_r y
odd_digit y (suc zero) e h = odd_comm y 1 ∙ odd_bit 0 y ∙ e
odd_digit y (suc (suc d)) e h = absurd (omega arith)

-- the words of v are those of ws but for letter A
module _ (g : ℕ) (ws v : List ℕ) (signs : ℕ) (is : SignedAtA g ws signs v) where
  half_word : (i : ℕ) → i < g → get_or v i 0 / 2 ≡ get_or ws i 0 / 2
  half_word i h =
      let w = get_or ws i 0 in
      ap (λ (x : ℕ). x / 2) (is i h) ∙ xor_half (bit_xor w (bit 0 w)) (bit i signs)
      ∙ ap₂ bit_xor (xor_half w (bit 0 w) ∙ ap (bit_xor (w / 2)) (bit_half 0 w) ∙ xor_zero_r (w / 2)) (bit_half i signs) ∙ xor_zero_r (w / 2)

  half_part : (i d : ℕ) → i < g → d < 2 → get_or v i 0 * d / 2 ≡ get_or ws i 0 * d / 2
  half_part i zero h l = omega arith
  half_part i (suc zero) h l = omega (arith, half_word i h)
  half_part i (suc (suc d)) h l = absurd (omega arith)

  -- so are their products
  half_total : (k t : ℕ) → k ≤ g → total v k t / 2 ≡ total ws k t / 2
  unfolding total
  half_total zero t h = refl
  half_total (suc k) t h =
      xor_half (total v k t) (get_or v k 0 * bit k t)
      ∙ ap₂ bit_xor (half_total k t (omega arith)) (half_part k (bit k t) h (bit_lt k t))
      ∙ sym (xor_half (total ws k t) (get_or ws k 0 * bit k t))

module _ (n g : ℕ) (ws v : List ℕ) (signs : ℕ) (o : Solvable n g ws) (is : SignedAtA g ws signs v) where
  pub signed_within : (i : ℕ) → i < g → get_or v i 0 < 2 ^ n
  signed_within i h =
      let w = get_or ws i 0 in
      let p : 2 ^ 1 ≤ 2 ^ n = pow_mono {i = 1} {j = n} (omega arith) in
      let q : bit_xor w (bit 0 w) < 2 ^ n = xor_lt n w (bit 0 w) (o.within i h) (omega (arith, bit_lt 0 w)) in
      rw (is i h) (xor_lt n (bit_xor w (bit 0 w)) (bit i signs) q (omega (arith, bit_lt i signs)))

  -- no product is A alone
  low_none : (t : ℕ) → t < 2 ^ g → total v g t / 2 ≡ 0 → t ≡ 0
  low_none t l e =
      let w = total ws g t in
      let low : w / 2 ≡ 0 = sym (half_total g ws v signs is g t (omega arith)) ∙ e in
      by_cases (ℕ_discrete w 0) (λ z. o.independent t l z)
      (λ ne. by_cases (ℕ_discrete t 0) (λ z. z) (λ nz.
      let one : w ≡ 1 = omega arith in
      let long : 3 ≤ letters w = o.long w (sum_word n g ws o.most (omega (arith, o.less)) o.within o.independent t (omega arith) l) in
      absurd (omega (arith, ap letters one ∙ ones_unit 0))))

  pub signed_independent : Independent g v
  signed_independent t l e = low_none t l (ap (λ (x : ℕ). x / 2) e)

  -- so their standard columns are found
  pub signed_found : (k : ℕ) (ok : Bool) (a : List ℕ) → k ≡ g → StandardFound n (n - k) (Independent k v) (Generated n k v) ok a
      → StandardFor n (n - g) (Generated n g v) a
  signed_found k ok a e f =
      let q = subst (λ (i : ℕ). StandardFound n (n - i) (Independent i v) (Generated n i v) ok a) e f in
      ⊎_elim (λ t. q.standard t) (λ t. absurd (q.impossible t signed_independent)) (told ok)

  module _ (a : List ℕ) (st : StandardFor n (n - g) (Generated n g v) a) where
    -- A is basic
    first_unit : get_or a 0 0 ≡ 1
    first_unit =
        basic_unit n (n - g) (Generated n g v) a st 0 (omega (arith, o.less))
        (λ w word last.
        let q = all_words n g v o.most (omega (arith, o.less)) signed_within signed_independent w word in
        let one : total v g q.0 ≡ 1 = omega (arith, q.1.1, last) in
        let z : q.0 ≡ 0 = low_none q.0 q.1.0 (ap (λ (x : ℕ). x / 2) one) in
        omega (arith, ap (total v g) z ∙ total_none v g))
        ∙ ap (λ (k : ℕ). 2 ^ k) (units_zero a)

    -- a run in which A is low: with A switched it has the signs
    flipped : (y i : ℕ) → Generated n g v y → bit 0 y ≡ 1 → i < g → odd (bit_xor y 1) (get_or ws i 0) ≡ bit i signs
    flipped y i run low h =
        let w = get_or ws i 0 in
        let b = bit 0 w in
        let s = bit i signs in
        let own : odd y (bit_xor w b) ≡ (odd y w + b) % 2 = odd_lin_r y w b ∙ ap (λ (p : ℕ). (odd y w + p) % 2) (odd_digit y b low (bit_lt 0 w)) in
        let sum : odd y (get_or v i 0) ≡ ((odd y w + b) % 2 + s) % 2 =
        ap (odd y) (is i h) ∙ odd_lin_r y (bit_xor w b) s ∙ ap₂ (λ (p q : ℕ). (p + q) % 2) own (odd_digit y s low (bit_lt i signs)) in
        odd_lin_l y 1 w ∙ ap (λ (p : ℕ). (odd y w + p) % 2) (odd_bit 0 w)
        ∙ even_sum ((odd y w + b) % 2) s (mod-lt (odd y w + b) (omega arith)) (bit_lt i signs) (sym sum ∙ run.even i h)

    -- run 1 of the columns
    first_low : (y : ℕ) → y ≡ run_of a n 1 → bit 0 y ≡ 1
    first_low y e = ap (bit 0) e ∙ run_bit a n 1 0 (omega (arith, o.less)) ∙ ap (odd 1) first_unit ∙ odd_bit 0 1

    signed_run : (y : ℕ) → y ≡ run_of a n 1 → Fraction n g ws signs (bit_xor y 1)
    signed_run y e =
        let up : 2 ^ 1 ≤ 2 ^ (n - g) = pow_mono {i = 1} {j = n - g} (omega (arith, o.less)) in
        let wide : 2 ^ 1 ≤ 2 ^ n = pow_mono {i = 1} {j = n} (omega (arith, o.less)) in
        let run : Generated n g v y = st.plan.onto y (1, (omega arith, e)) in
        record { within = xor_lt n y 1 run.within (omega arith); product = λ i h. flipped y i run (first_low y e) h }

    -- the last letters of the words stay, but for A
    last_letter : (t f : ℕ) → 0 < f → total ws g t / 2 ^ f ≡ total v g t / 2 ^ f
    last_letter t f h =
        let e : 1 + (f - 1) ≡ f = omega arith in
        let by : (x : ℕ) → x / 2 ^ f ≡ x / 2 / 2 ^ (f - 1) = λ x. ap (λ (k : ℕ). x / 2 ^ k) (sym e) ∙ sym (shr-shr x 1 (f - 1)) in
        by (total ws g t) ∙ ap (λ (x : ℕ). x / 2 ^ (f - 1)) (sym (half_total g ws v signs is g t (omega arith))) ∙ sym (by (total v g t))

    basic_signed : (x f : ℕ) → Fraction n g ws signs x → 0 < f → Basic n (Fraction n g ws signs) f → Basic n (Generated n g v) f
    basic_signed x f q h b w word last =
        let r = all_words n g v o.most (omega (arith, o.less)) signed_within signed_independent w word in
        let t = r.0 in
        let some : 0 < t = by_cases (ℕ_discrete t 0)
        (λ z. absurd (omega (arith, word.some, r.1.1 ∙ ap (total v g) z ∙ total_none v g)))
        (λ ne. omega arith) in
        let own = sum_word n g ws o.most (omega (arith, o.less)) o.within o.independent t some r.1.0 in
        b (total ws g t) (words_fraction n g ws signs x q (total ws g t) own)
        (last_letter t f h ∙ ap (λ (y : ℕ). y / 2 ^ f) (sym r.1.1) ∙ last)

    -- so that run is high at every basic factor
    high : (y f : ℕ) → y ≡ run_of a n 1 → f < n → 0 < f → Basic n (Generated n g v) f → bit f y ≡ 0
    high y f e h p b =
        let first : units_before a 1 ≡ units_before a 0 + 1 = units_next a 0 (first_unit ∙ ap (λ (k : ℕ). 2 ^ k) (sym (units_zero a))) in
        let z : f - 1 + 1 ≡ f = omega arith in
        let later : 0 < units_before a f = omega (arith, units_mono a 1 (f - 1), ap (units_before a) z) in
        ap (bit f) e ∙ run_bit a n 1 f h ∙ ap (odd 1) (basic_unit n (n - g) (Generated n g v) a st f h b)
        ∙ odd_bit 0 (2 ^ units_before a f) ∙ bit_other 0 (units_before a f) (λ q. omega arith)

    pub signed_mask : (y : ℕ) → y ≡ run_of a n 1 → Fraction n g ws signs (bit_xor y 1) × Allowed n (Fraction n g ws signs) (bit_xor y 1)
    signed_mask y e =
        let x = bit_xor y 1 in
        let q = signed_run y e in
        let at : (f : ℕ) → bit f y ≡ bit f 1 → bit f x ≡ 0 = λ f h.
        let z : (bit f 1 + bit f 1) % 2 ≡ 0 = omega arith in bit_xor_lem f y 1 ∙ ap (λ (d : ℕ). (d + bit f 1) % 2) h ∙ z in (
          q,
          (λ f b. by_cases (dec_lt f n)
              (λ h. by_cases (ℕ_discrete f 0)
              (λ z. ap (λ (k : ℕ). bit k x) z ∙ at 0 (first_low y e))
              (λ ne. at f (high y f e h (omega arith) (basic_signed x f q (omega arith) b) ∙ sym (bit_over f 1 (pow-lt {i = 0} {j = f} (omega arith))))))
              (λ h. bit_over f x (omega (arith, q.within, pow_mono {i = n} {j = f} (omega arith))))),
        )

-- no minus: no mask
pub plus_mask : (n g : ℕ) (ws : List ℕ) (signs : ℕ) → signs ≡ 0 → Fraction n g ws signs 0 × Allowed n (Fraction n g ws signs) 0
plus_mask n g ws signs e = (
  record { within = pow_pos n; product = λ i h. odd_zero_l (get_or ws i 0) ∙ sym (ap (bit i) e ∙ bit_none i) },
  (λ f b. bit_none f),
)
