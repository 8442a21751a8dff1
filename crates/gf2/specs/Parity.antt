-- Laws of the parity of shared digits: by digits, symmetric, linear in each argument, and every linear function of k digits is one.
use Rattle.std.specs.Prelude.{◌≡◌, ℕ, zero, suc, ◌+◌, ◌*◌, ◌/◌, ◌%◌, ◌^◌, ◌<◌, min}
use Rattle.std.proofs.Common.{sym, ap, ap₂, ◌∙◌, mod-lt, arith, pow_pos}
use Rattle.std.proofs.Math.Nat.{min-zero, two-pow-succ}
use Rattle.std.specs.Int.Bits.{bit_xor, bit_and, and_step, and_zero_l, xor_shifted, shifted_half, shifted_even}
use Rattle.std.proofs.lemmas.Nat.{and_comm}
use Rattle.std.proofs.Math.Arith.{lt-one, bin_ind}
use Rattle.std.proofs.Math.Pow.{pow-lt, split}
use Rattle.std.specs.Int.Count.{ones, ones_step}
use Rattle.gf2.specs.Digits.{bit, odd}
use Rattle.gf2.specs.DigitLaws.{xor_low, xor_half, same_by_half, bit_suc, bit_ext, bit_top, mod_sum}

pub and_low : (a b : ℕ) → bit_and a b % 2 ≡ min (a % 2) (b % 2)
and_low a b = omega (arith, and_step a b)

and_half : (a b : ℕ) → bit_and a b / 2 ≡ bit_and (a / 2) (b / 2)
and_half a b = omega (arith, and_step a b)

-- the lowest digit, and the parity of the rest
odd_step : (j c : ℕ) → odd j c ≡ (min (j % 2) (c % 2) + odd (j / 2) (c / 2)) % 2
unfolding odd
odd_step j c = omega (arith, ones_step (bit_and j c), and_low j c, ap ones (and_half j c))

pub odd_lt : (j c : ℕ) → odd j c < 2
unfolding odd
odd_lt j c = omega arith

pub odd_comm : (a b : ℕ) → odd a b ≡ odd b a
unfolding odd
odd_comm a b = ap (λ (x : ℕ). ones x % 2) (and_comm a b)

-- zero shares nothing
pub odd_zero_l : (c : ℕ) → odd 0 c ≡ 0
unfolding odd ones
odd_zero_l c = ap (λ (x : ℕ). ones x % 2) (and_zero_l c)

pub odd_zero_r : (j : ℕ) → odd j 0 ≡ 0
odd_zero_r j = odd_comm j 0 ∙ odd_zero_l j

-- linear in each argument
sum_4 : (x y p q : ℕ) → ((x + y) % 2 + (p + q) % 2) % 2 ≡ ((x + p) % 2 + (y + q) % 2) % 2
sum_4 x y p q =
    mod_sum (x + y) (p + q) ∙ ap (λ (n : ℕ). n % 2) (omega arith) ∙ sym (mod_sum (x + p) (y + q))

lin : (x y z p q : ℕ) → x < 2 → y < 2 → z < 2 → (min ((x + y) % 2) z + (p + q) % 2) % 2 ≡ ((min x z + p) % 2 + (min y z + q) % 2) % 2
lin x y zero p q hx hy hz = simp min-zero (omega arith)
lin x y (suc zero) p q hx hy hz =
    let e : min ((x + y) % 2) 1 ≡ (x + y) % 2 = omega arith in
    let f : min x 1 ≡ x = omega arith in
    let g : min y 1 ≡ y = omega arith in
    rw (e, f, g) (sum_4 x y p q)
lin x y (suc (suc z)) p q hx hy hz = absurd (omega arith)

pub odd_lin_r : (c a b : ℕ) → odd c (bit_xor a b) ≡ (odd c a + odd c b) % 2
odd_lin_r = bin_ind (λ (c : ℕ). (a b : ℕ) → odd c (bit_xor a b) ≡ (odd c a + odd c b) % 2)
    (λ a b. odd_zero_l (bit_xor a b) ∙ sym (ap₂ (λ (x y : ℕ). (x + y) % 2) (odd_zero_l a) (odd_zero_l b)))
    (λ c ih a b. lin_step c a b (ih (a / 2) (b / 2)))
  where
    min_comm : (x y : ℕ) → min x y ≡ min y x
    min_comm x y = omega arith

    lin_step : (c a b : ℕ) → odd (c / 2) (bit_xor (a / 2) (b / 2)) ≡ (odd (c / 2) (a / 2) + odd (c / 2) (b / 2)) % 2
        → odd c (bit_xor a b) ≡ (odd c a + odd c b) % 2
    lin_step c a b ih =
        odd_step c (bit_xor a b)
        ∙ ap₂ (λ (x y : ℕ). (x + y) % 2) (min_comm (c % 2) (bit_xor a b % 2) ∙ ap (λ (z : ℕ). min z (c % 2)) (xor_low a b))
        (ap (odd (c / 2)) (xor_half a b) ∙ ih)
        ∙ lin (a % 2) (b % 2) (c % 2) (odd (c / 2) (a / 2)) (odd (c / 2) (b / 2)) (omega arith) (omega arith) (omega arith)
        ∙ sym (ap₂ (λ (x y : ℕ). (x + y) % 2)
        (odd_step c a ∙ ap (λ (z : ℕ). (z + odd (c / 2) (a / 2)) % 2) (min_comm (c % 2) (a % 2)))
        (odd_step c b ∙ ap (λ (z : ℕ). (z + odd (c / 2) (b / 2)) % 2) (min_comm (c % 2) (b % 2))))

pub odd_lin_l : (a b c : ℕ) → odd (bit_xor a b) c ≡ (odd a c + odd b c) % 2
odd_lin_l a b c = odd_comm (bit_xor a b) c ∙ odd_lin_r c a b ∙ ap₂ (λ (x y : ℕ). (x + y) % 2) (odd_comm c a) (odd_comm c b)

-- one digit against a number
pub odd_shift : (n d w : ℕ) → d < 2 → odd (d * 2 ^ n) w ≡ min d (bit n w)
odd_shift zero d w e =
    let z : d * 1 / 2 ≡ 0 = omega arith in
    odd_step (d * 1) w ∙ omega (arith, ap (λ (y : ℕ). odd y (w / 2)) z ∙ odd_zero_l (w / 2))
odd_shift (suc n) d w e =
    odd_step (d * 2 ^ suc n) w
    ∙ omega (arith, shifted_even d n, ap (λ (y : ℕ). odd y (w / 2)) (shifted_half d n) ∙ odd_shift n d (w / 2) e, bit_suc n w)

pub odd_bit : (i j : ℕ) → odd (2 ^ i) j ≡ bit i j
odd_bit i j =
    let e : 2 ^ i ≡ 1 * 2 ^ i = omega arith in
    ap (λ (k : ℕ). odd k j) e ∙ odd_shift i 1 j (omega arith) ∙ omega arith

-- numbers whose digits lie apart share nothing
odd_apart : (l d k : ℕ) → k < 2 ^ l → odd (d * 2 ^ l) k ≡ 0
odd_apart zero d k h = ap (odd (d * 1)) (lt-one h) ∙ odd_zero_r (d * 1)
odd_apart (suc l) d k h =
    odd_step (d * 2 ^ suc l) k
    ∙ omega (arith, shifted_even d l, ap (λ (y : ℕ). odd y (k / 2)) (shifted_half d l) ∙ odd_apart l d (k / 2) (omega (arith, two-pow-succ l)))

odd_unit : (l d : ℕ) → d < 2 → odd (d * 2 ^ l) (2 ^ l) ≡ d
odd_unit l d h =
    let e : d * 2 ^ l + 0 ≡ d * 2 ^ l = omega arith in
    odd_comm (d * 2 ^ l) (2 ^ l) ∙ odd_bit l (d * 2 ^ l) ∙ ap (λ (x : ℕ). bit l x) (sym e) ∙ bit_top l d 0 h (pow_pos l)

-- one more digit changes no parity with a number below it, and its own unit reads it
pub odd_keep : (l d c k : ℕ) → c < 2 ^ l → k < 2 ^ l → odd (d * 2 ^ l + c) k ≡ odd c k
odd_keep l d c k hc hk =
    ap (λ (i : ℕ). odd i k) (sym (xor_shifted d l c hc))
    ∙ odd_lin_l (d * 2 ^ l) c k
    ∙ omega (arith, odd_apart l d k hk, odd_lt c k)

pub odd_fresh : (l d c : ℕ) → d < 2 → c < 2 ^ l → odd (d * 2 ^ l + c) (2 ^ l) ≡ d
odd_fresh l d c hd hc =
    let e : odd c (2 ^ l) ≡ 0 = odd_comm c (2 ^ l) ∙ ap (λ (i : ℕ). odd i c) (omega arith) ∙ odd_apart l 1 c hc in
    ap (λ (i : ℕ). odd i (2 ^ l)) (sym (xor_shifted d l c hc))
    ∙ odd_lin_l (d * 2 ^ l) c (2 ^ l)
    ∙ omega (arith, odd_unit l d hd)

-- only the low digits of j meet a number below 2^u
pub odd_mod : (u j k : ℕ) → k < 2 ^ u → odd j k ≡ odd (j % 2 ^ u) k
odd_mod u j k h = ap (λ (i : ℕ). odd i k) (sym (split j u)) ∙ odd_keep u (j / 2 ^ u) (j % 2 ^ u) k (mod-lt j (pow_pos u)) h

-- a number times a digit
pub odd_times : (j c d : ℕ) → d < 2 → odd j (c * d) ≡ min (odd j c) d
odd_times j c zero h = let e : c * 0 ≡ 0 = omega arith in rw e (odd_zero_r j ∙ omega arith)
odd_times j c (suc zero) h = let e : c * 1 ≡ c = omega arith in rw e (omega (arith, odd_lt j c))
odd_times j c (suc (suc d)) h = absurd (omega arith)

-- equal numbers, from parity with every number
pub by_parity : (m a b : ℕ) → a < 2 ^ m → b < 2 ^ m → ((j : ℕ) → j < 2 ^ m → odd j a ≡ odd j b) → a ≡ b
by_parity m a b ha hb h =
    bit_ext m a b ha hb (λ i l. sym (odd_bit i a) ∙ h (2 ^ i) (pow-lt {i = i} {j = m} l) ∙ odd_bit i b)

-- a linear function of k digits is the parity with one number
unfoldable pub number_of : ℕ → (ℕ → ℕ) → ℕ
number_of zero φ = 0
number_of (suc k) φ = φ 1 + 2 * number_of k (λ j. φ (j * 2))

pub number_lt : (k : ℕ) (φ : ℕ → ℕ) → ((j : ℕ) → φ j < 2) → number_of k φ < 2 ^ k
unfolding number_of
number_lt zero φ h = omega arith
number_lt (suc k) φ h = omega (arith, two-pow-succ k, number_lt k (λ j. φ (j * 2)) (λ j. h (j * 2)), h 1)

xor_double : (a b : ℕ) → bit_xor (a * 2) (b * 2) ≡ bit_xor a b * 2
xor_double a b =
    let p : a * 2 / 2 ≡ a = omega arith in
    let q : b * 2 / 2 ≡ b = omega arith in
    same_by_half _ _
    (xor_low (a * 2) (b * 2) ∙ omega arith)
    (xor_half (a * 2) (b * 2) ∙ ap₂ bit_xor p q ∙ omega arith)

split_low : (j : ℕ) → j ≡ bit_xor (j / 2 * 2) (j % 2)
split_low j = sym (xor_shifted (j / 2) 1 (j % 2) (omega arith) ∙ omega arith)

at_low : (φ : ℕ → ℕ) (d : ℕ) → d < 2 → φ 0 ≡ 0 → φ 1 < 2 → φ d ≡ min d (φ 1)
at_low φ zero h z b = z ∙ omega arith
at_low φ (suc zero) h z b = omega arith
at_low φ (suc (suc d)) h z b = absurd (omega arith)

pub linear_is_odd : (k : ℕ) (φ : ℕ → ℕ) → ((j : ℕ) → φ j < 2) → ((a b : ℕ) → φ (bit_xor a b) ≡ (φ a + φ b) % 2)
    → (j : ℕ) → j < 2 ^ k → φ j ≡ odd j (number_of k φ)
unfolding number_of
linear_is_odd zero φ b lin j h = ap φ (lt-one h) ∙ omega (arith, lin 0 0, b 0, odd_zero_r j)
linear_is_odd (suc k) φ b lin j h =
    let φ2 : ℕ → ℕ = λ i. φ (i * 2) in
    let c = number_of k φ2 in
    let z : φ 0 ≡ 0 = omega (arith, lin 0 0, b 0) in
    let e1 : φ j ≡ (φ (j / 2 * 2) + φ (j % 2)) % 2 = ap φ (split_low j) ∙ lin (j / 2 * 2) (j % 2) in
    let e2 : φ (j / 2 * 2) ≡ odd (j / 2) c =
    linear_is_odd k φ2 (λ i. b (i * 2)) (λ x y. ap φ (sym (xor_double x y)) ∙ lin (x * 2) (y * 2)) (j / 2) (omega (arith, two-pow-succ k)) in
    let e3 : φ (j % 2) ≡ min (j % 2) (φ 1) = at_low φ (j % 2) (omega arith) z (b 1) in
    let b1 = b 1 in
    let e4 : (φ 1 + 2 * c) % 2 ≡ φ 1 = omega arith in
    let e5 : (φ 1 + 2 * c) / 2 ≡ c = omega arith in
    e1 ∙ ap₂ (λ (p q : ℕ). (p + q) % 2) e2 e3 ∙ ap (λ (s : ℕ). s % 2) (omega arith)
    ∙ sym (odd_step j (φ 1 + 2 * c) ∙ ap₂ (λ (p q : ℕ). (min (j % 2) p + odd (j / 2) q) % 2) e4 e5)
