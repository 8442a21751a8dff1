-- Laws of digits and of exclusive-or: digit by digit, associative, extensional. Parity has its own file.
use Rattle.std.specs.Prelude.{◌≡◌, refl, ℕ, zero, suc, ◌+◌, ◌-◌, ◌*◌, ◌/◌, ◌%◌, ◌^◌, ◌≤◌, ◌<◌, ◌≢◌}
use Rattle.std.proofs.Common.{sym, ap, ◌∙◌, mod-eq_of_lt, arith, one-add, add-one, shr-shr, pow_pos, pow_mono}
use Rattle.std.proofs.Math.Nat.{zero-div, two-pow-succ, div_self}
use Rattle.std.proofs.Math.Decide.{dec_le, dec_lt}
use Rattle.std.proofs.Math.Logic.{by_cases}
use Rattle.std.specs.Int.Bits.{bit_xor, differ, xor_step, xor_self, xor_zero_l, xor_zero_r, xor_shifted, shifted_half, shifted_even}
use Rattle.std.proofs.lemmas.Nat.{xor_shr, xor_lt, xor_comm}
use Rattle.std.proofs.Math.Arith.{bin_ind, digits_div}
use Rattle.std.proofs.Math.Pow.{pow-lt}
use Rattle.gf2.specs.Digits.{bit}

-- the digit of a sum without carry
differ_mod : (x y : ℕ) → x < 2 → y < 2 → differ x y ≡ (x + y) % 2
differ_mod zero y hx hy = omega arith
differ_mod (suc zero) zero hx hy = refl
differ_mod (suc zero) (suc zero) hx hy = refl
differ_mod (suc (suc x)) y hx hy = absurd (omega arith)
differ_mod (suc zero) (suc (suc y)) hx hy = absurd (omega arith)

-- exclusive-or by its lowest digit and its half
pub xor_low : (a b : ℕ) → bit_xor a b % 2 ≡ (a % 2 + b % 2) % 2
xor_low a b = omega (arith, xor_step a b, differ_mod (a % 2) (b % 2) (omega arith) (omega arith))

pub xor_half : (a b : ℕ) → bit_xor a b / 2 ≡ bit_xor (a / 2) (b / 2)
xor_half a b = omega (arith, xor_step a b, differ_mod (a % 2) (b % 2) (omega arith) (omega arith))

-- two numbers with equal lowest digits and equal halves are equal
pub same_by_half : (a b : ℕ) → a % 2 ≡ b % 2 → a / 2 ≡ b / 2 → a ≡ b
same_by_half a b p q = omega arith

sum_assoc : (x y z : ℕ) → ((x + y) % 2 + z) % 2 ≡ (x + (y + z) % 2) % 2
sum_assoc x y z = omega arith

pub xor_assoc : (a b c : ℕ) → bit_xor (bit_xor a b) c ≡ bit_xor a (bit_xor b c)
xor_assoc = bin_ind (λ (n : ℕ). (b c : ℕ) → bit_xor (bit_xor n b) c ≡ bit_xor n (bit_xor b c)) (λ b c. refl)
    (λ n ih b c. same_by_half _ _
    (simp xor_low (sum_assoc (n % 2) (b % 2) (c % 2)))
    (simp xor_half (ih (b / 2) (c / 2))))

-- what was added twice is gone
pub xor_back : (x r : ℕ) → bit_xor (bit_xor x r) r ≡ x
xor_back x r = xor_assoc x r r ∙ ap (bit_xor x) (xor_self r) ∙ xor_zero_r x

-- a term moves to the other side; one on both sides cancels
pub xor_move : (x r v : ℕ) → bit_xor x r ≡ v → x ≡ bit_xor v r
xor_move x r v e = sym (xor_back x r) ∙ ap (λ (y : ℕ). bit_xor y r) e

pub xor_cancel : (x y r : ℕ) → bit_xor x r ≡ bit_xor y r → x ≡ y
xor_cancel x y r e = xor_move x r (bit_xor y r) e ∙ xor_back y r

pub xor_none : (a b : ℕ) → bit_xor a b ≡ 0 → a ≡ b
xor_none a b e = xor_move a b 0 e ∙ xor_zero_l b

-- two sums, regrouped
pub xor_4 : (a b c d : ℕ) → bit_xor (bit_xor a b) (bit_xor c d) ≡ bit_xor (bit_xor a c) (bit_xor b d)
xor_4 a b c d =
    xor_assoc a b (bit_xor c d)
    ∙ ap (bit_xor a) (sym (xor_assoc b c d) ∙ ap (λ (x : ℕ). bit_xor x d) (xor_comm b c) ∙ xor_assoc c b d)
    ∙ sym (xor_assoc a c (bit_xor b d))

-- a digit of an exclusive-or
pub bit_xor_lem : (i a b : ℕ) → bit i (bit_xor a b) ≡ (bit i a + bit i b) % 2
bit_xor_lem i a b = ap (λ (x : ℕ). x % 2) (xor_shr a b i) ∙ xor_low (a / 2 ^ i) (b / 2 ^ i)

pub bit_none : (i : ℕ) → bit i 0 ≡ 0
bit_none i = ap (λ (x : ℕ). x % 2) (zero-div (2 ^ i))

-- a place further is the place of the half
pub bit_suc : (i x : ℕ) → bit (suc i) x ≡ bit i (x / 2)
bit_suc i x = ap (λ (y : ℕ). y % 2) (sym (shr-shr x 1 i ∙ ap (λ (e : ℕ). x / 2 ^ e) (one-add i)))

-- two numbers of k digits with the same digits are equal
pub bit_ext : (k a b : ℕ) → a < 2 ^ k → b < 2 ^ k → ((i : ℕ) → i < k → bit i a ≡ bit i b) → a ≡ b
bit_ext zero a b ha hb h = omega arith
bit_ext (suc k) a b ha hb h =
    same_by_half a b (omega (arith, h zero (omega arith)))
    (bit_ext k (a / 2) (b / 2) (omega arith) (omega arith) (λ i hi. sym (bit_suc i a) ∙ h (suc i) (omega arith) ∙ bit_suc i b))

-- the digits of a number put above n others
bit_past : (f n d : ℕ) → f < n → bit f (d * 2 ^ n) ≡ 0
bit_past f zero d h = absurd (omega arith)
bit_past zero (suc n) d h = omega (arith, shifted_even d n)
bit_past (suc f) (suc n) d h = bit_suc f (d * 2 ^ suc n) ∙ ap (λ (y : ℕ). bit f y) (shifted_half d n) ∙ bit_past f n d (omega arith)

pub low_bit : (f n d r : ℕ) → f < n → r < 2 ^ n → bit f (d * 2 ^ n + r) ≡ bit f r
low_bit f n d r h l =
    ap (λ (y : ℕ). bit f y) (sym (xor_shifted d n r l)) ∙ bit_xor_lem f (d * 2 ^ n) r ∙ omega (arith, bit_past f n d h)

pub bit_top : (n d r : ℕ) → d < 2 → r < 2 ^ n → bit n (d * 2 ^ n + r) ≡ d
bit_top n d r h l = ap (λ (y : ℕ). y % 2) (digits_div d {m = 2 ^ n} {r = r} l) ∙ omega arith

pub bit_over : (n r : ℕ) → r < 2 ^ n → bit n r ≡ 0
bit_over n r l = let e : r ≡ 0 * 2 ^ n + r = omega arith in ap (λ (y : ℕ). bit n y) e ∙ bit_top n 0 r (omega arith) l

-- a digit put at the place f stands there alone
pub bit_unit : (e f d : ℕ) → d < 2 → e ≢ f → bit e (d * 2 ^ f) ≡ 0
bit_unit e f d h ne =
    by_cases (dec_lt e f)
    (λ l. bit_past e f d l)
    (λ l. bit_over e (d * 2 ^ f) (unit_lt d h (pow-lt {i = f} {j = e} (omega arith))))
  where
    unit_lt : (c : ℕ) → c < 2 → 2 ^ f < 2 ^ e → c * 2 ^ f < 2 ^ e
    unit_lt zero k l = omega arith
    unit_lt (suc zero) k l = omega arith
    unit_lt (suc (suc c)) k l = absurd (omega arith)

pub bit_own : (f : ℕ) → bit f (2 ^ f) ≡ 1
bit_own f = ap (λ (y : ℕ). y % 2) (div_self (pow_pos f))

pub bit_other : (e f : ℕ) → e ≢ f → bit e (2 ^ f) ≡ 0
bit_other e f ne = let q : 2 ^ f ≡ 1 * 2 ^ f = omega arith in ap (λ (y : ℕ). bit e y) q ∙ bit_unit e f 1 (omega arith) ne

-- every digit of 2^k - 1 is set
pub bit_full : (k i : ℕ) → i < k → bit i (2 ^ k - 1) ≡ 1
bit_full zero i h = absurd (omega arith)
bit_full (suc k) zero h = omega (arith, pow_pos k)
bit_full (suc k) (suc i) h =
    let e : (2 ^ suc k - 1) / 2 ≡ 2 ^ k - 1 = omega (arith, pow_pos k) in
    bit_suc i (2 ^ suc k - 1) ∙ ap (λ (x : ℕ). bit i x) e ∙ bit_full k i (omega arith)

-- sums of digits; exclusive-or of two digits
pub mod_sum : (a b : ℕ) → (a % 2 + b % 2) % 2 ≡ (a + b) % 2
mod_sum a b = omega arith

pub sum_cancel : (a b c : ℕ) → a < 2 → b < 2 → (a + c) % 2 ≡ (b + c) % 2 → a ≡ b
sum_cancel a b c ha hb e = omega arith

pub xor_digit : (x y : ℕ) → x < 2 → y < 2 → bit_xor x y ≡ (x + y) % 2
xor_digit x y hx hy = sym (mod-eq_of_lt (xor_lt 1 x y hx hy)) ∙ xor_low x y ∙ mod_sum x y

-- powers of two: the number of runs of seven basic factors, half of it, and twice a power
pub pow_most : (m : ℕ) → m ≤ 7 → 2 ^ m ≤ 128
pow_most m h = pow_mono {i = m} {j = 7} h

pub pow_half : (d m : ℕ) → d < m → m ≤ 7 → 2 ^ d ≤ 64
pow_half d m h few = pow_mono {i = d} {j = 6} (omega arith)

pub pow_twice : (d h : ℕ) → h ≡ 2 ^ d → h + h ≡ 2 ^ (d + 1)
pow_twice d h e = rw (add-one d) (omega (arith, two-pow-succ d))

pub pow_le_inv : (a b : ℕ) → 2 ^ a ≤ 2 ^ b → a ≤ b
pow_le_inv a b h = by_cases (dec_le a b) (λ l. l) (λ l. absurd (let g : 2 ^ b < 2 ^ a = pow-lt {i = b} {j = a} (omega arith) in omega arith))

pub pow_inj : (a b : ℕ) → 2 ^ a ≡ 2 ^ b → a ≡ b
pow_inj a b e = let p = pow_le_inv a b (omega arith) in let q = pow_le_inv b a (omega arith) in omega arith
