-- Columns in standard form: where their units stand, and that they have rank m.
use Rattle.std.specs.Prelude.{◌≡◌, refl, ◌≢◌, Bool, true, false, List, [], ◌∷◌, ℕ, zero, suc, ◌+◌, ◌-◌, ◌*◌, ◌%◌, ◌^◌, ◌≤◌, ◌<◌, eqb, length, get_or}
use Rattle.std.proofs.Common.{sym, ap, ap₂, ◌∙◌, inl, inr, ⊎_elim, mod-eq_of_lt, mod-lt, one-add, arith, pow_pos, pow_mono, eqb-true, eq-eqb, ne_eqb}
use Rattle.std.proofs.Math.Logic.{by_cases}
use Rattle.std.proofs.Math.Decide.{ℕ_discrete, dec_lt}
use Rattle.std.specs.Int.Bits.{bit_xor, xor_shifted}
use Rattle.std.proofs.lemmas.Nat.{xor_lt, xor_comm, mod-pow-add}
use Rattle.std.proofs.Math.Pow.{pow-lt}
use Rattle.gf2.specs.Digits.{bit, odd, pick}
use Rattle.gf2.specs.DigitLaws.{bit_ext, bit_none, pow_most}
use Rattle.gf2.specs.Parity.{odd_comm, odd_bit}
use Rattle.gf2.specs.Members.{In}
use Rattle.regular.specs.Columns.{Below, Spans}
use Rattle.regular.specs.Words.{total}
use Rattle.standard.specs.Model.{choose}
use Rattle.standard.specs.Form.{units_before, StandardForm, ZeroOnce}
use Rattle.standard.specs.Runs.{run_bit}
use Rattle.standard.specs.Total.{total_xor, total_none, total_unit}

-- the set of the basic factors at the bits of k
unfoldable pub spread : List ℕ → ℕ → ℕ
spread [] k = 0
spread (p ∷ bs) k = bit_xor (spread bs k) (bit (length bs) k * 2 ^ p)

digit_pow : (d p n : ℕ) → d < 2 → p < n → d * 2 ^ p < 2 ^ n
digit_pow zero p n h l = omega (arith, pow_pos n)
digit_pow (suc zero) p n h l = omega (arith, pow-lt {i = p} {j = n} l)
digit_pow (suc (suc d)) p n h l = absurd (omega arith)

pub spread_lt : (bs : List ℕ) (n : ℕ) → ((p : ℕ) → In p bs → p < n) → (k : ℕ) → spread bs k < 2 ^ n
unfolding spread
spread_lt [] n h k = pow_pos n
spread_lt (p ∷ bs) n h k =
    xor_lt n (spread bs k) (bit (length bs) k * 2 ^ p) (spread_lt bs n (λ q m. h q (inr m)) k)
    (digit_pow (bit (length bs) k) p n (omega arith) (h p (inl refl)))

-- columns that agree have as many units
pub units_same : (a b : List ℕ) (f : ℕ) → ((g : ℕ) → g < f → get_or a g 0 ≡ get_or b g 0) → units_before a f ≡ units_before b f
unfolding units_before
units_same a b zero h = refl
units_same a b (suc f) h =
    ap₂ (λ (x k : ℕ). k + pick (eqb x (2 ^ k)) 1 0) (h f (omega arith)) (units_same a b f (λ g l. h g (omega arith)))

-- every unit stands among the columns
units_step : (a : List ℕ) (f i : ℕ) (t : Bool) → eqb (get_or a f 0) (2 ^ units_before a f) ≡ t → i < units_before a f + pick t 1 0
    → (i < units_before a f → (p : ℕ) × ((p < f) × (get_or a p 0 ≡ 2 ^ i))) → (p : ℕ) × ((p < suc f) × (get_or a p 0 ≡ 2 ^ i))
units_step a f i true e h ih =
    by_cases (dec_lt i (units_before a f))
    (λ l. let r = ih l in (r.0, (omega (arith, r.1.0), r.1.1)))
    (λ l. let q : units_before a f ≡ i = omega arith in (f, (omega arith, eqb-true _ _ e ∙ ap (λ (k : ℕ). 2 ^ k) q)))
units_step a f i false e h ih = let r = ih (omega arith) in (r.0, (omega (arith, r.1.0), r.1.1))

pub units_found : (a : List ℕ) (f i : ℕ) → i < units_before a f → (p : ℕ) × ((p < f) × (get_or a p 0 ≡ 2 ^ i))
unfolding units_before
units_found a zero i h = absurd (omega arith)
units_found a (suc f) i h = units_step a f i (eqb (get_or a f 0) (2 ^ units_before a f)) refl h (units_found a f i)

pub units_mono : (a : List ℕ) (f d : ℕ) → units_before a f ≤ units_before a (d + f)
unfolding units_before
units_mono a f zero = let e : 0 + f ≡ f = omega arith in rw e (omega arith)
units_mono a f (suc d) = let e : suc d + f ≡ suc (d + f) = omega arith in rw e (omega (arith, units_mono a f d))

-- numbers of m bits have at most m units
pub units_most : (m f : ℕ) (a : List ℕ) → Below f m a → units_before a f ≤ m
units_most m f a h =
    by_cases (dec_lt m (units_before a f))
    (λ l. let o = units_found a f m l in absurd (omega (arith, h o.0 o.1.0, o.1.1)))
    (λ l. omega arith)

-- none before the first column, one more where the column is the next unit, else as many
pub units_zero : (a : List ℕ) → units_before a 0 ≡ 0
unfolding units_before
units_zero a = refl

pub units_next : (a : List ℕ) (f : ℕ) → get_or a f 0 ≡ 2 ^ units_before a f → units_before a (suc f) ≡ units_before a f + 1
unfolding units_before
units_next a f e = rw (eq-eqb (get_or a f 0) (2 ^ units_before a f) e)

pub units_stay : (a : List ℕ) (f : ℕ) → get_or a f 0 ≢ 2 ^ units_before a f → units_before a (suc f) ≡ units_before a f
unfolding units_before
units_stay a f ne = rw (ne_eqb (get_or a f 0) (2 ^ units_before a f) ne) (omega arith)

module _ (n m : ℕ) (a : List ℕ) (s : StandardForm n m a) where
  units_le : (f : ℕ) → f ≤ n → units_before a f ≤ m
  units_le f h =
      let e : (n - f) + f ≡ n = omega arith in
      let g = units_mono a f (n - f) in
      omega (arith, ap (units_before a) e, s.units)

  pub standard_below : Below n m a
  standard_below f h =
      by_cases (ℕ_discrete (get_or a f 0) (2 ^ units_before a f))
      (λ e. omega (arith, pow-lt {i = units_before a f} {j = m} (omega (arith, units_next a f e, units_le (suc f) h))))
      (λ ne. omega (arith, s.next f h, pow_mono {i = units_before a f} {j = m} (units_le f (omega arith))))

  pub standard_apart : ZeroOnce n m a
  standard_apart j hj z =
      bit_ext m j 0 hj (pow_pos m)
      (λ i h.
      let r = units_found a n i (omega (arith, s.units)) in
      let e : bit i j ≡ 0 =
      sym (odd_bit i j) ∙ odd_comm (2 ^ i) j ∙ ap (odd j) (sym r.1.1) ∙ sym (run_bit a n j r.0 r.1.0)
      ∙ ap (λ (x : ℕ). bit r.0 x) z ∙ bit_none r.0 in
      e ∙ sym (bit_none i))

-- the basic factors among the first f, the last first
unfoldable pub units_at : List ℕ → ℕ → List ℕ
units_at a zero = []
units_at a (suc f) = choose (eqb (get_or a f 0) (2 ^ units_before a f)) (f ∷ units_at a f) (units_at a f)

-- every basic has its unit
abbrev pub Based : List ℕ → ℕ → List ℕ → Type 0
Based a f [] = Unit {0}
Based a f (p ∷ bs) = ((p < f) × (get_or a p 0 ≡ 2 ^ length bs)) × Based a f bs

based_more : (a : List ℕ) (f : ℕ) (bs : List ℕ) → Based a f bs → Based a (suc f) bs
based_more a f [] h = tt
based_more a f (p ∷ bs) h = ((omega (arith, h.0.0), h.0.1), based_more a f bs h.1)

pub record Unitary (a : List ℕ) (f : ℕ) : Type 0 where
  pub count : length (units_at a f) ≡ units_before a f
  pub based : Based a f (units_at a f)

unitary_at : (a : List ℕ) (f : ℕ) (t : Bool) → eqb (get_or a f 0) (2 ^ units_before a f) ≡ t → Unitary a f
    → (length (choose t (f ∷ units_at a f) (units_at a f)) ≡ units_before a f + pick t 1 0) × Based a (suc f) (choose t (f ∷ units_at a f) (units_at a f))
unitary_at a f true e u =
    let c = u.count in
    (omega arith, ((omega arith, eqb-true (get_or a f 0) (2 ^ units_before a f) e ∙ ap (λ (k : ℕ). 2 ^ k) (sym c)), based_more a f (units_at a f) u.based))
unitary_at a f false e u = let c = u.count in (omega arith, based_more a f (units_at a f) u.based)

pub unitary : (a : List ℕ) (f : ℕ) → Unitary a f
unfolding units_at units_before
unitary a zero = record { count = refl; based = tt }
unitary a (suc f) =
    let r = unitary_at a f (eqb (get_or a f 0) (2 ^ units_before a f)) refl (unitary a f) in
    record { count = r.0; based = r.1 }

pub based_lt : (a : List ℕ) (f : ℕ) (bs : List ℕ) → Based a f bs → (p : ℕ) → In p bs → p < f
based_lt a f [] h p m = absurd m
based_lt a f (q ∷ bs) h p m = ⊎_elim (λ e. omega (arith, h.0.0)) (λ i. based_lt a f bs h.1 p i) m

total_digit : (a : List ℕ) (f d p : ℕ) → d < 2 → p < f → total a f (d * 2 ^ p) ≡ d * get_or a p 0
total_digit a f zero p hd h = let e : 0 * 2 ^ p ≡ 0 = omega arith in ap (total a f) e ∙ total_none a f ∙ omega arith
total_digit a f (suc zero) p hd h = let e : 1 * 2 ^ p ≡ 2 ^ p = omega arith in ap (total a f) e ∙ total_unit a p f h ∙ omega arith
total_digit a f (suc (suc d)) p hd h = absurd (omega arith)

-- the basics at the bits of k sum to k
pub total_spread : (a : List ℕ) (f : ℕ) (bs : List ℕ) (k : ℕ) → Based a f bs → total a f (spread bs k) ≡ k % 2 ^ length bs
unfolding spread
total_spread a f [] k h = total_none a f ∙ omega arith
total_spread a f (p ∷ bs) k h =
    let l = length bs in
    let d = bit l k in
    total_xor a f (spread bs k) (d * 2 ^ p)
    ∙ ap₂ bit_xor (total_spread a f bs k h.1) (total_digit a f d p (omega arith) h.0.0 ∙ ap (λ (x : ℕ). d * x) h.0.1)
    ∙ xor_comm (k % 2 ^ l) (d * 2 ^ l) ∙ xor_shifted d l (k % 2 ^ l) (mod-lt k (pow_pos l))
    ∙ sym (ap (λ (i : ℕ). k % 2 ^ i) (sym (one-add l)) ∙ mod-pow-add k 1 l)

-- columns in standard form have rank m
pub standard_spans : (n m : ℕ) (a : List ℕ) → StandardForm n m a → Spans n m a
standard_spans n m a s v h =
    let u = unitary a n in
    let bs = units_at a n in
    let e : length bs ≡ m = u.count ∙ s.units in (
      spread bs v,
      (
        spread_lt bs n (based_lt a n bs u.based) v,
        total_spread a n bs v u.based ∙ ap (λ (k : ℕ). v % 2 ^ k) e ∙ mod-eq_of_lt h,
      ),
    )

-- columns of at most seven bits
pub below_128 : (n m : ℕ) (c : List ℕ) → m ≤ 7 → Below n m c → (f : ℕ) → f < n → get_or c f 0 < 128
below_128 n m c h b f l = omega (arith, b f l, pow_most m h)
