-- What a turn of each loop of the walk does.
use Rattle.std.specs.Prelude.{◌≡◌, refl, List, ℕ, ◌+◌, ◌*◌, ◌^◌, ◌<◌, ◌≤◌, length, get_or, set, replicate}
use Rattle.std.proofs.Common.{sym, ap, ap₂, ◌∙◌, arith, below_more, pow_pos, length-set, get_or-set_same, get_or-set_other}
use Rattle.std.proofs.Math.Logic.{by_cases}
use Rattle.std.proofs.Math.Decide.{ℕ_discrete, dec_lt}
use Rattle.std.proofs.Math.Arith.{digits_lt}
use Rattle.std.specs.Int.Bits.{bit_xor, bit_or, or_add_and, xor_self}
use Rattle.std.proofs.lemmas.Nat.{and_le_l, and_le_r}
use Rattle.gf2.specs.Digits.{bit, odd}
use Rattle.gf2.specs.DigitLaws.{low_bit, bit_top, pow_most, xor_none}
use Rattle.gf2.specs.Fill.{zeros}
use Rattle.table_forms.specs.Walk.{diff_at, Latest, Read, LevelsExtended, FitsAt, FitsFrom}

-- the last run with given levels
pub latest_none : (count : ℕ) (coords : List ℕ) → 0 < count → Latest count 0 coords (replicate 128 0)
latest_none count coords h =
    record {
      size = refl;
      within = λ c. omega (arith, zeros 128 c);
      same = λ i l. absurd (omega arith);
      last = λ i l. absurd (omega arith);
    }

pub latest_more : (count k : ℕ) (coords v : List ℕ) → k < count → get_or coords k 0 < 128 → Latest count k coords v
    → Latest count (k + 1) coords (set v (get_or coords k 0) k)
latest_more count k coords v h b l =
    let c = get_or coords k 0 in
    let here : get_or (set v c k) c 0 ≡ k = get_or-set_same v c k 0 (omega (arith, l.size)) in
    let other : (e : ℕ) → (e ≡ c → ⊥) → get_or (set v c k) e 0 ≡ get_or v e 0 = λ e ne. get_or-set_other v c e k 0 ne in
    record {
      size = length-set v c k ∙ l.size;
      within = λ e. by_cases (ℕ_discrete e c)
          (λ p. omega (arith, ap (λ (y : ℕ). get_or (set v c k) y 0) p, here))
          (λ ne. omega (arith, other e ne, l.within e));
      same = λ i s. by_cases (ℕ_discrete (get_or coords i 0) c)
          (λ p. ap (λ (y : ℕ). get_or coords y 0) (ap (λ (y : ℕ). get_or (set v c k) y 0) p ∙ here) ∙ sym p)
          (λ ne. ap (λ (y : ℕ). get_or coords y 0) (other (get_or coords i 0) ne) ∙ l.same i (before i s ne));
      last = λ i s. by_cases (ℕ_discrete (get_or coords i 0) c)
          (λ p. omega (arith, ap (λ (y : ℕ). get_or (set v c k) y 0) p, here))
          (λ ne. omega (arith, other (get_or coords i 0) ne, l.last i (before i s ne)));
    }
  where
    before : (i : ℕ) → i < k + 1 → (get_or coords i 0 ≡ get_or coords k 0 → ⊥) → i < k
    before i s ne = by_cases (ℕ_discrete i k) (λ e. absurd (ne (ap (λ (y : ℕ). get_or coords y 0) e))) (λ n. omega arith)

-- the number of runs
pub count_small : (m k : ℕ) → m ≤ 7 → k ≡ 2 ^ m → (0 < k) × (k ≤ 128)
count_small m k h e = (omega (arith, pow_pos m), omega (arith, pow_most m h))

-- the candidate column: one more bit
pub read_below : (half d k : ℕ) → d < 2 → k < half → d * half + k < half + half
read_below half d k hd hk = omega (arith, digits_lt {q = d} {m = 2} {r = k} {c = half} hd hk)

pub read_more : (t coords : List ℕ) (f i half d k x : ℕ) → half ≡ 2 ^ i → k < half → x < length t → get_or coords x 0 ≡ half → d ≡ bit f (diff_at t x)
    → ((j : ℕ) → j < i → Read t coords f k j) → (j : ℕ) → j < i + 1 → Read t coords f (d * half + k) j
read_more t coords f i half d k x e hk hx ce de read j h =
    let w : d * half + k ≡ d * 2 ^ i + k = ap (λ (y : ℕ). d * y + k) e in
    by_cases (ℕ_discrete j i)
    (λ p. (x, (hx, (ce ∙ e ∙ ap (λ (y : ℕ). 2 ^ y) (sym p), ap₂ bit p w ∙ bit_top i d k (omega arith) (omega arith) ∙ de))))
    (λ ne.
    let r = read j (omega arith) in
    (r.0, (r.1.0, (r.1.1.0, ap (bit j) w ∙ low_bit j i d k (omega arith) (omega arith) ∙ r.1.1.1))))

-- one more basic factor: the levels of one more run
pub extend_none : (t c : List ℕ) (f half : ℕ) → length c ≡ 128 → LevelsExtended t c c f half 0
extend_none t c f half l = record { size = l; made = λ i h. absurd (omega arith); kept = λ i h. refl }

pub extend_more : (t c₀ c : List ℕ) (f half k v : ℕ) → k < 128 → LevelsExtended t c₀ c f half k → v ≡ bit f (diff_at t k) * half + get_or c k 0
    → LevelsExtended t c₀ (set c k v) f half (k + 1)
extend_more t c₀ c f half k v h x e =
    record {
      size = length-set c k v ∙ x.size;
      made = λ i l. by_cases (ℕ_discrete i k)
          (λ p. rw p (get_or-set_same c k v 0 (omega (arith, x.size)) ∙ e ∙ ap (λ (y : ℕ). bit f (diff_at t k) * half + y) (x.kept k (omega arith))))
          (λ ne. get_or-set_other c k i v 0 ne ∙ x.made i (omega arith));
      kept = λ i l. get_or-set_other c k i v 0 (λ p. omega arith) ∙ x.kept i (omega arith);
    }

-- the levels that do not fit: none yet, and one more run
or_none : (a b : ℕ) → bit_or a b ≡ 0 → (a ≡ 0) × (b ≡ 0)
or_none a b e =
    let s = or_add_and a b in
    let l = and_le_l a b in
    let r = and_le_r a b in
    (omega arith, omega arith)

pub fits_none : (t coords : List ℕ) (f k a : ℕ) → FitsFrom t coords f k a a 0
fits_none t coords f k a = record { all = λ e i l h. absurd (omega arith); some = λ ne. absurd (ne refl) }

pub fits_more : (t coords : List ℕ) (f k a b wrong x y : ℕ) → a ≤ b → x ≡ bit f (diff_at t b) → y ≡ odd (get_or coords b 0) k
    → FitsFrom t coords f k a b wrong → FitsFrom t coords f k a (b + 1) (bit_or wrong (bit_xor x y))
fits_more t coords f k a b wrong x y l ex ey h =
    record {
      all = λ e. let p = or_none wrong (bit_xor x y) e in below_more _ _ (h.all p.0) (λ _. sym ex ∙ xor_none x y p.1 ∙ ey);
      some = λ ne. by_cases (ℕ_discrete wrong 0)
          (λ z. (b, (omega arith, (l, λ q. ne (ap₂ bit_or z (ap (λ (v : ℕ). bit_xor v y) (ex ∙ q ∙ sym ey) ∙ xor_self y))))))
          (λ nz. let s = h.some nz in (s.0, (omega (arith, s.1.0), s.1.1)));
    }

-- the runs after those that fit
pub fits_joined : (t coords : List ℕ) (f k a b wrong : ℕ) → ((i : ℕ) → i < a → FitsAt t coords f k i) → FitsFrom t coords f k a b wrong → wrong ≡ 0
    → (i : ℕ) → i < b → FitsAt t coords f k i
fits_joined t coords f k a b wrong before h e i l = by_cases (dec_lt i a) (before i) (λ n. h.all e i l (omega arith))
