-- Laws of sums of columns: linear, by places; what some columns reach; independent columns.
use Rattle.std.specs.Prelude.{◌≡◌, refl, List, get_or}
use Rattle.std.proofs.Common.{sym, ap, ap₂, ◌∙◌, subst, add-one, arith, pow_pos, pow_mono}
use Prim.Native.Nat.{ℕ, zero, suc, ◌+◌, ◌-◌, ◌*◌, ◌%◌, ◌^◌, ◌≤◌, ◌<◌}
use Rattle.std.specs.Int.Bits.{bit_xor, xor_self, xor_zero_l, xor_zero_r}
use Rattle.std.proofs.lemmas.Nat.{xor_lt}
use Rattle.std.proofs.Math.Pow.{pow-lt}
use Rattle.gf2.specs.DigitLaws.{bit_xor_lem, low_bit, xor_4, bit_none, bit_top, bit_over, xor_none}
use Rattle.gf2.specs.Digits.{bit}
use Rattle.regular.specs.Words.{total, Independent}

times_xor : (c d e : ℕ) → d < 2 → e < 2 → c * ((d + e) % 2) ≡ bit_xor (c * d) (c * e)
times_xor c zero e hd he =
    let p : (0 + e) % 2 ≡ e = omega arith in
    let q : c * 0 ≡ 0 = omega arith in
    rw (p, q, xor_zero_l)
times_xor c (suc zero) zero hd he =
    let q : c * 0 ≡ 0 = omega arith in
    rw (q, xor_zero_r)
times_xor c (suc zero) (suc zero) hd he =
    let q : c * 0 ≡ 0 = omega arith in
    q ∙ sym (xor_self (c * 1))
times_xor c (suc zero) (suc (suc e)) hd he = absurd (omega arith)
times_xor c (suc (suc d)) e hd he = absurd (omega arith)

pub total_xor : (c : List ℕ) (n s t : ℕ) → total c n (bit_xor s t) ≡ bit_xor (total c n s) (total c n t)
unfolding total
total_xor c zero s t = refl
total_xor c (suc n) s t =
    ap₂ bit_xor (total_xor c n s t) (ap (λ (d : ℕ). get_or c n 0 * d) (bit_xor_lem n s t) ∙ times_xor (get_or c n 0) (bit n s) (bit n t) (omega arith)
    (omega arith))
    ∙ xor_4 (total c n s) (total c n t) (get_or c n 0 * bit n s) (get_or c n 0 * bit n t)

total_bits : (c : List ℕ) (n s t : ℕ) → ((i : ℕ) → i < n → bit i s ≡ bit i t) → total c n s ≡ total c n t
unfolding total
total_bits c zero s t h = refl
total_bits c (suc n) s t h = ap₂ (λ (a d : ℕ). bit_xor a (get_or c n 0 * d)) (total_bits c n s t (λ i l. h i (omega arith))) (h n (omega arith))

pub total_cols : (c d : List ℕ) (n s : ℕ) → ((i : ℕ) → i < n → get_or c i 0 ≡ get_or d i 0) → total c n s ≡ total d n s
unfolding total
total_cols c d zero s h = refl
total_cols c d (suc n) s h = ap₂ (λ (a e : ℕ). bit_xor a (e * bit n s)) (total_cols c d n s (λ i l. h i (omega arith))) (h n (omega arith))

pub total_low : (c : List ℕ) (n d s : ℕ) → s < 2 ^ n → total c n (d * 2 ^ n + s) ≡ total c n s
total_low c n d s h = total_bits c n (d * 2 ^ n + s) s (λ i l. low_bit i n d s l h)

pub total_none : (c : List ℕ) (n : ℕ) → total c n 0 ≡ 0
unfolding total
total_none c zero = refl
total_none c (suc n) =
    ap₂ (λ (a d : ℕ). bit_xor a (get_or c n 0 * d)) (total_none c n) (bit_none n) ∙ (let q : get_or c n 0 * 0 ≡ 0 = omega arith in ap (bit_xor 0) q)

-- one more column
pub total_next : (c : List ℕ) (n d s : ℕ) → d < 2 → s < 2 ^ n → total c (suc n) (d * 2 ^ n + s) ≡ bit_xor (total c n s) (get_or c n 0 * d)
unfolding total
total_next c n d s hd h = ap₂ (λ (a e : ℕ). bit_xor a (get_or c n 0 * e)) (total_low c n d s h) (bit_top n d s hd h)

total_wide : (c : List ℕ) (f d s : ℕ) → s < 2 ^ f → total c (d + f) s ≡ total c f s
unfolding total
total_wide c f zero s h = let e : 0 + f ≡ f = omega arith in ap (λ (n : ℕ). total c n s) e
total_wide c f (suc d) s h =
    let e : suc d + f ≡ suc (d + f) = omega arith in
    let l : s < 2 ^ (d + f) = omega (arith, pow_mono {i = f} {j = d + f} (omega arith)) in
    let q : get_or c (d + f) 0 * 0 ≡ 0 = omega arith in
    ap (λ (n : ℕ). total c n s) e
    ∙ ap₂ (λ (a b : ℕ). bit_xor a (get_or c (d + f) 0 * b)) (total_wide c f d s h) (bit_over (d + f) s l)
    ∙ ap (bit_xor (total c f s)) q ∙ xor_zero_r (total c f s)

pub total_more : (c : List ℕ) (f n s : ℕ) → f ≤ n → s < 2 ^ f → total c n s ≡ total c f s
total_more c f n s h l = let e : n ≡ (n - f) + f = omega arith in ap (λ (k : ℕ). total c k s) e ∙ total_wide c f (n - f) s l

pub total_unit : (c : List ℕ) (f n : ℕ) → f < n → total c n (2 ^ f) ≡ get_or c f 0
total_unit c f n h =
    let e : 2 ^ f ≡ 1 * 2 ^ f + 0 = omega arith in
    let p : get_or c f 0 * 1 ≡ get_or c f 0 = omega arith in
    total_more c (suc f) n (2 ^ f) h (pow-lt {i = f} {j = suc f} (omega arith))
    ∙ ap (total c (suc f)) e ∙ total_next c f 1 0 (omega arith) (pow_pos f) ∙ ap₂ bit_xor (total_none c f) p ∙ xor_zero_l (get_or c f 0)

-- y is a sum of the first n columns
abbrev pub InSpan : List ℕ → ℕ → ℕ → Type 0
InSpan c n y = (s : ℕ) × ((s < 2 ^ n) × (total c n s ≡ y))

module _ (c : List ℕ) (n : ℕ) where
  pub span_none : InSpan c n 0
  span_none = (0, (pow_pos n, total_none c n))

  pub span_xor : (x y : ℕ) → InSpan c n x → InSpan c n y → InSpan c n (bit_xor x y)
  span_xor x y p q =
      (bit_xor p.0 q.0, (xor_lt n p.0 q.0 p.1.0 q.1.0, total_xor c n p.0 q.0 ∙ ap₂ bit_xor p.1.1 q.1.1))

  span_times : (x d : ℕ) → d < 2 → InSpan c n x → InSpan c n (x * d)
  span_times x zero h p = let e : 0 ≡ x * 0 = omega arith in subst (InSpan c n) e span_none
  span_times x (suc zero) h p = let e : x ≡ x * 1 = omega arith in subst (InSpan c n) e p
  span_times x (suc (suc d)) h p = absurd (omega arith)

  pub span_at : (f : ℕ) → f < n → InSpan c n (get_or c f 0)
  span_at f h = (2 ^ f, (pow-lt {i = f} {j = n} h, total_unit c f n h))

  pub span_total : (b : List ℕ) (k s : ℕ) → ((f : ℕ) → f < k → InSpan c n (get_or b f 0)) → InSpan c n (total b k s)
  unfolding total
  span_total b zero s h = span_none
  span_total b (suc k) s h =
      span_xor (total b k s) (get_or b k 0 * bit k s) (span_total b k s (λ f l. h f (omega arith)))
      (span_times (get_or b k 0) (bit k s) (omega arith) (h k (omega arith)))

pub span_more : (c : List ℕ) (n y : ℕ) → InSpan c n y → InSpan c (suc n) y
span_more c n y p =
    (p.0, (omega (arith, p.1.0, pow-lt {i = n} {j = suc n} (omega arith)), total_more c n (suc n) p.0 (omega arith) p.1.0 ∙ p.1.1))

-- independent columns: different choices, different sums
pub independent_once : (r : ℕ) (t : List ℕ) → Independent r t → (i j : ℕ) → i < 2 ^ r → j < 2 ^ r → total t r i ≡ total t r j → i ≡ j
independent_once r t ind i j hi hj e =
    xor_none i j (ind (bit_xor i j) (xor_lt r i j hi hj) (total_xor t r i j ∙ ap (λ (x : ℕ). bit_xor x (total t r j)) e ∙ xor_self (total t r j)))

-- one step of a loop that sums column by column
pub total_turn : (c : List ℕ) (i w t v : ℕ) → t ≡ total c i w → v ≡ bit_xor t (get_or c i 0 * bit i w) → v ≡ total c (i + 1) w
unfolding total
total_turn c i w t v e h = rw (add-one i) (h ∙ ap (λ (y : ℕ). bit_xor y (get_or c i 0 * bit i w)) e)
