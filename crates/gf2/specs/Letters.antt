-- Laws of the number of set digits (the letters of a word): of 0, of one digit, of an exclusive-or; a number less one of its digits;
-- what has one digit set, or two.
use Rattle.std.specs.Prelude.{◌≡◌, refl, ℕ, zero, suc, ◌+◌, ◌*◌, ◌/◌, ◌%◌, ◌^◌, ◌≤◌, ◌<◌}
use Rattle.std.proofs.Common.{sym, ap, ap₂, ◌∙◌, arith}
use Rattle.std.proofs.Math.Logic.{by_cases}
use Rattle.std.proofs.Math.Decide.{ℕ_discrete}
use Rattle.std.proofs.Math.Arith.{bin_ind}
use Rattle.std.specs.Int.Bits.{bit_xor, xor_zero_l, xor_zero_r, xor_self}
use Rattle.std.specs.Int.Count.{ones, ones_step}
use Rattle.gf2.specs.DigitLaws.{xor_low, xor_half, same_by_half}

pub ones_zero : ones 0 ≡ 0
unfolding ones
ones_zero = refl

pub ones_unit : (f : ℕ) → ones (2 ^ f) ≡ 1
ones_unit zero = ones_step 1 ∙ ap (λ (k : ℕ). 1 + k) ones_zero
ones_unit (suc f) =
    let p : 2 ^ suc f / 2 ≡ 2 ^ f = omega arith in
    let q : 2 ^ suc f % 2 ≡ 0 = omega arith in
    ones_step (2 ^ suc f) ∙ ap₂ (λ (d k : ℕ). d + k) q (ap ones p ∙ ones_unit f)

-- an exclusive-or has no more digits than its parts
ones_xor_step : (a b : ℕ) → ones (bit_xor (a / 2) (b / 2)) ≤ ones (a / 2) + ones (b / 2) → ones (bit_xor a b) ≤ ones a + ones b
ones_xor_step a b ih =
    omega (arith, ones_step (bit_xor a b), ones_step a, ones_step b, xor_low a b, ap ones (xor_half a b))

ones_xor : (a b : ℕ) → ones (bit_xor a b) ≤ ones a + ones b
ones_xor = bin_ind (λ (a : ℕ). (b : ℕ) → ones (bit_xor a b) ≤ ones a + ones b)
    (λ b. omega (arith, ap ones (xor_zero_l b)))
    (λ a ih b. ones_xor_step a b (ih (b / 2)))

-- two digits
pub ones_pair : (f g : ℕ) → ones (bit_xor (2 ^ f) (2 ^ g)) ≤ 2
ones_pair f g = omega (arith, ones_xor (2 ^ f) (2 ^ g), ones_unit f, ones_unit g)

-- a number of n digits, less one that is set
pub record Less (n w : ℕ) : Type 0 where
  pub factor : ℕ
  pub rest : ℕ
  pub low : factor < n
  pub within : rest < 2 ^ n
  pub sum : w ≡ bit_xor (2 ^ factor) rest
  pub fewer : ones w ≡ suc (ones rest)

odd_less : (w : ℕ) → w % 2 ≡ 1 → w ≡ bit_xor 1 (w / 2 * 2)
odd_less w h =
    let p : w / 2 * 2 % 2 ≡ 0 = omega arith in
    let q : w / 2 * 2 / 2 ≡ w / 2 = omega arith in
    same_by_half w (bit_xor 1 (w / 2 * 2)) (omega (arith, xor_low 1 (w / 2 * 2))) (sym (xor_half 1 (w / 2 * 2) ∙ ap (bit_xor 0) q))

even_less : (w f v : ℕ) → w % 2 ≡ 0 → w / 2 ≡ bit_xor (2 ^ f) v → w ≡ bit_xor (2 ^ suc f) (v * 2)
even_less w f v h e =
    let p : v * 2 % 2 ≡ 0 = omega arith in
    let q : v * 2 / 2 ≡ v = omega arith in
    let a : 2 ^ suc f % 2 ≡ 0 = omega arith in
    let b : 2 ^ suc f / 2 ≡ 2 ^ f = omega arith in
    same_by_half w (bit_xor (2 ^ suc f) (v * 2)) (omega (arith, xor_low (2 ^ suc f) (v * 2))) (e ∙ sym (xor_half (2 ^ suc f) (v * 2) ∙ ap₂ bit_xor b q))

-- twice a number has its digits
ones_double : (v : ℕ) → ones (v * 2) ≡ ones v
ones_double v =
    let q : v * 2 / 2 ≡ v = omega arith in
    omega (arith, ones_step (v * 2), ap ones q)

pub less : (n w : ℕ) → 0 < w → w < 2 ^ n → Less n w
less zero w h l = absurd (omega arith)
less (suc n) w h l =
    by_cases (ℕ_discrete (w % 2) 1)
    (λ e. record {
      factor = 0;
      rest = w / 2 * 2;
      low = omega arith;
      within = omega arith;
      sum = odd_less w e;
      fewer = omega (arith, ones_step w, ones_double (w / 2));
    })
    (λ ne.
    let z : w % 2 ≡ 0 = omega arith in
    let r = less n (w / 2) (omega arith) (omega arith) in
    record {
      factor = suc r.factor;
      rest = r.rest * 2;
      low = omega (arith, r.low);
      within = omega (arith, r.within);
      sum = even_less w r.factor r.rest z r.sum;
      fewer = omega (arith, ones_step w, r.fewer, ones_double r.rest);
    })

-- a number has no digit set exactly if it is 0
pub ones_some : (n w : ℕ) → 0 < w → w < 2 ^ n → 0 < ones w
ones_some n w h l = omega (arith, (less n w h l).fewer)

ones_none : (n w : ℕ) → w < 2 ^ n → ones w ≡ 0 → w ≡ 0
ones_none n w l e = by_cases (ℕ_discrete w 0) (λ z. z) (λ ne. absurd (omega (arith, ones_some n w (omega arith) l)))

ones_pos : (w : ℕ) → 0 < ones w → 0 < w
ones_pos w h = by_cases (ℕ_discrete w 0) (λ z. absurd (omega (arith, ap ones z, ones_zero))) (λ ne. omega arith)

-- one digit set
pub ones_one : (n w : ℕ) → w < 2 ^ n → ones w ≡ 1 → (f : ℕ) × ((f < n) × (w ≡ 2 ^ f))
ones_one n w l e =
    let r = less n w (ones_pos w (omega arith)) l in
    let z = ones_none n r.rest r.within (omega (arith, r.fewer)) in
    (r.factor, (r.low, r.sum ∙ ap (bit_xor (2 ^ r.factor)) z ∙ xor_zero_r (2 ^ r.factor)))

-- two digits set
pub record Pair (n w : ℕ) : Type 0 where
  pub first : ℕ
  pub second : ℕ
  pub first_low : first < n
  pub second_low : second < n
  pub apart : first ≡ second → ⊥
  pub sum : w ≡ bit_xor (2 ^ first) (2 ^ second)

pair_of : (n f r w : ℕ) → f < n → 0 < w → w ≡ bit_xor (2 ^ f) r → (g : ℕ) × ((g < n) × (r ≡ 2 ^ g)) → Pair n w
pair_of n f r w h p e (g, (k, q)) =
    let z : w ≡ bit_xor (2 ^ f) (2 ^ g) = e ∙ ap (bit_xor (2 ^ f)) q in
    record {
      first = f;
      second = g;
      first_low = h;
      second_low = k;
      apart = λ d. omega (arith, z ∙ ap (λ (i : ℕ). bit_xor (2 ^ i) (2 ^ g)) d ∙ xor_self (2 ^ g));
      sum = z;
    }

pub ones_two : (n w : ℕ) → w < 2 ^ n → ones w ≡ 2 → Pair n w
ones_two n w l e =
    let p : 0 < w = ones_pos w (omega arith) in
    let r = less n w p l in
    pair_of n r.factor r.rest w r.low p r.sum (ones_one n r.rest r.within (omega (arith, r.fewer)))
