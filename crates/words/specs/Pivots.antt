-- Elimination, word by word: what holds of the pivot words. A word that reduces to nothing depends on the others.
use Rattle.std.specs.Prelude.{◌≡◌, refl, ◌≢◌, ◌⊎◌, Bool, true, false, List, ℕ, zero, suc, ◌+◌, ◌*◌, ◌/◌, ◌%◌, ◌^◌, ◌≤◌, ◌<◌, eqb, get_or, replicate}
use Rattle.std.proofs.Common.{sym, ap, ap₂, ◌∙◌, subst, inl, ⊎_elim, mod-lt, one-add, arith, eqb-true, eq-eqb, ne_eqb, pow_pos, shr_lt}
use Rattle.std.proofs.Math.Logic.{by_cases}
use Rattle.std.proofs.Math.Nat.{two-pow-succ}
use Rattle.std.proofs.Math.Decide.{ℕ_discrete}
use Rattle.std.proofs.lemmas.Bool.{eqb-false}
use Rattle.std.specs.Int.Bits.{bit_xor, xor_zero_r}
use Rattle.std.proofs.lemmas.Nat.{xor_comm, xor_lt}
use lib.Arith.{digits_lt}
use Rattle.std.proofs.Math.Pow.{pow-lt, split}
use Rattle.gf2.specs.DigitLaws.{xor_assoc, bit_xor_lem, bit_over}
use Rattle.gf2.specs.Digits.{bit, pick}
use Rattle.regular.specs.Words.{total}
use Rattle.standard.specs.Total.{InSpan, total_none, total_next, span_none}
use Rattle.words.specs.Model.{reduced, last_of, free_before, Pivots}

-- a number with last letter f
pub last_bit : (f x : ℕ) → x / 2 ^ f ≡ 1 → bit f x ≡ 1
last_bit f x e = ap (λ (y : ℕ). y % 2) e

pub last_lt : (f x : ℕ) → x / 2 ^ f ≡ 1 → x < 2 ^ suc f
last_lt f x e =
    let p : x ≡ 1 * 2 ^ f + x % 2 ^ f = sym (split x f) ∙ ap (λ (d : ℕ). d * 2 ^ f + x % 2 ^ f) e in
    omega (arith, two-pow-succ f, mod-lt x (pow_pos f))

abbrev pub Lasts : ℕ → List ℕ → Type 0
Lasts n piv = (f : ℕ) → f < n → (get_or piv f 0 ≡ 0) ⊎ (get_or piv f 0 / 2 ^ f ≡ 1)

lasts_lt : (n : ℕ) (piv : List ℕ) → Lasts n piv → (f : ℕ) → f < n → get_or piv f 0 < 2 ^ suc f
lasts_lt n piv h f l = ⊎_elim (λ e. omega (arith, pow_pos (suc f))) (λ e. last_lt f (get_or piv f 0) e) (h f l)

times_lt : (x d m : ℕ) → d < 2 → x < m → x * d < m
times_lt x zero m h l = omega arith
times_lt x (suc zero) m h l = omega arith
times_lt x (suc (suc d)) m h l = absurd (omega arith)

pub sum_lt : (n : ℕ) (piv : List ℕ) → Lasts n piv → (s : ℕ) → total piv n s < 2 ^ n
unfolding total
sum_lt zero piv h s = omega arith
sum_lt (suc n) piv h s =
    xor_lt (suc n) (total piv n s) (get_or piv n 0 * bit n s)
    (omega (arith, sum_lt n piv (λ f l. h f (omega arith)) s, pow-lt {i = n} {j = suc n} (omega arith)))
    (times_lt (get_or piv n 0) (bit n s) (2 ^ suc n) (omega arith) (lasts_lt (suc n) piv h n (omega arith)))

-- a sum that has no pivot's last letter is 0
pub sum_none : (n : ℕ) (piv : List ℕ) (s : ℕ) → Lasts n piv → ((f : ℕ) → f < n → get_or piv f 0 / 2 ^ f ≡ 1 → bit f (total piv n s) ≡ 0) → total piv n s ≡ 0
unfolding total
sum_none zero piv s h z = refl
sum_none (suc n) piv s h z =
    let A = total piv n s in
    let x = get_or piv n 0 in
    let la : A < 2 ^ n = sum_lt n piv (λ f l. h f (omega arith)) s in
    let clear : x * bit n s ≡ 0 = ⊎_elim
    (λ e. rw e (omega arith))
    (λ e. by_cases (ℕ_discrete (bit n s) 0) (λ q. rw q (omega arith))
    (λ ne.
    let q : bit n s ≡ 1 = omega arith in
    let p : bit n (bit_xor A (x * bit n s)) ≡ 1 =
    bit_xor_lem n A (x * bit n s) ∙ ap₂ (λ (a b : ℕ). (a + b) % 2) (bit_over n A la)
    (ap (λ (d : ℕ). bit n (x * d)) q ∙ (let o : x * 1 ≡ x = omega arith in ap (λ (y : ℕ). bit n y) o) ∙ last_bit n x e) in
    absurd (omega (arith, z n (omega arith) e))))
    (h n (omega arith)) in
    let same : bit_xor A (x * bit n s) ≡ A = ap (bit_xor A) clear ∙ xor_zero_r A in
    same ∙ sum_none n piv s (λ f l. h f (omega arith)) (λ f l e. ap (λ (y : ℕ). bit f y) (sym same) ∙ z f (omega arith) e)

-- reducing
pub record Cleared (n : ℕ) (piv : List ℕ) (w r : ℕ) : Type 0 where
  pub by : ℕ
  pub by_lt : by < 2 ^ n
  pub is : r ≡ bit_xor w (total piv n by)
  pub clear : (f : ℕ) → f < n → get_or piv f 0 / 2 ^ f ≡ 1 → bit f r ≡ 0

cleared : (d x : ℕ) (f w : ℕ) → bit f w ≡ d → d < 2 → bit f x ≡ 1 → bit f (bit_xor w (x * d)) ≡ 0
cleared zero x f w e h l =
    let o : x * 0 ≡ 0 = omega arith in
    ap (λ (y : ℕ). bit f (bit_xor w y)) o ∙ ap (λ (y : ℕ). bit f y) (xor_zero_r w) ∙ e
cleared (suc zero) x f w e h l =
    let o : x * 1 ≡ x = omega arith in
    ap (λ (y : ℕ). bit f (bit_xor w y)) o ∙ bit_xor_lem f w x ∙ ap₂ (λ (a b : ℕ). (a + b) % 2) e l
cleared (suc (suc d)) x f w e h l = absurd (omega arith)

pub reduced_is : (n : ℕ) (piv : List ℕ) → Lasts n piv → (w : ℕ) → Cleared n piv w (reduced piv n w)
unfolding reduced
reduced_is zero piv h w =
    record { by = 0; by_lt = omega arith; is = sym (ap (bit_xor w) (total_none piv 0) ∙ xor_zero_r w); clear = λ f l e. absurd (omega arith) }
reduced_is (suc n) piv h w =
    let x = get_or piv n 0 in
    let d = bit n w in
    let v = bit_xor w (x * d) in
    let hn : Lasts n piv = λ f l. h f (omega arith) in
    let r = reduced_is n piv hn v in
    let q = r.by in
    let A = total piv n q in
    let ql = r.by_lt in
    record {
      by = d * 2 ^ n + q;
      by_lt = omega (arith, two-pow-succ n, digits_lt {q = d} {m = 2} {r = q} {c = 2 ^ n} (omega arith) ql);
      is = r.is ∙ xor_assoc w (x * d) A ∙ ap (bit_xor w) (xor_comm (x * d) A ∙ sym (total_next piv n d q (omega arith) ql));
      clear = λ f l e. by_cases (ℕ_discrete f n)
          (λ s. rw s
          (ap (λ (y : ℕ). bit n y) r.is ∙ bit_xor_lem n v A
          ∙ ap₂ (λ (a b : ℕ). (a + b) % 2) (cleared d x n w refl (omega arith) (last_bit n x (subst (λ (g : ℕ). get_or piv g 0 / 2 ^ g ≡ 1) s e)))
          (bit_over n A (sum_lt n piv hn q))))
          (λ ne. r.clear f (omega arith) e);
    }

-- the last letter
last_at : (f w : ℕ) (t : Bool) (k : ℕ) → eqb (bit f w) 1 ≡ t → w < 2 ^ suc f → (w < 2 ^ f → (k < f) × (w / 2 ^ k ≡ 1))
    → (pick t f k < suc f) × (w / 2 ^ pick t f k ≡ 1)
last_at f w true k e h ih =
    let b : bit f w ≡ 1 = eqb-true (bit f w) 1 e in
    let g : w < 2 ^ (1 + f) = subst (λ (i : ℕ). w < 2 ^ i) (sym (one-add f)) h in
    (omega arith, omega (arith, shr_lt 1 f g))
last_at f w false k e h ih =
    let ne = eqb-false (bit f w) 1 e in
    let g : w < 2 ^ (1 + f) = subst (λ (i : ℕ). w < 2 ^ i) (sym (one-add f)) h in
    let d : w / 2 ^ f ≡ 0 = omega (arith, shr_lt 1 f g) in
    let p : w ≡ 0 * 2 ^ f + w % 2 ^ f = sym (split w f) ∙ ap (λ (a : ℕ). a * 2 ^ f + w % 2 ^ f) d in
    let r = ih (omega (arith, mod-lt w (pow_pos f))) in
    (omega (arith, r.0), r.1)

pub last_is : (n w : ℕ) → w < 2 ^ n → (w ≡ 0 → ⊥) → (last_of n w < n) × (w / 2 ^ last_of n w ≡ 1)
unfolding last_of
last_is zero w h ne = absurd (ne (lib.Arith.lt-one h))
last_is (suc f) w h ne = last_at f w (eqb (bit f w) 1) (last_of f w) refl h (λ l. last_is f w l ne)

-- how many are free
free_same : (piv b : List ℕ) (n : ℕ) → ((f : ℕ) → f < n → get_or piv f 0 ≡ get_or b f 0) → free_before piv n ≡ free_before b n
unfolding free_before
free_same piv b zero h = refl
free_same piv b (suc n) h = ap₂ (λ (k x : ℕ). k + pick (eqb x 0) 1 0) (free_same piv b n (λ f l. h f (omega arith))) (h n (omega arith))

-- a place that was 0 is 0 no more
pub free_less : (piv b : List ℕ) (p n : ℕ) → p < n → get_or piv p 0 ≡ 0 → (get_or b p 0 ≡ 0 → ⊥) → ((f : ℕ) → f < n → f ≢ p → get_or piv f 0 ≡ get_or b f 0)
    → free_before piv n ≡ free_before b n + 1
unfolding free_before
free_less piv b p zero h z nz s = absurd (omega arith)
free_less piv b p (suc n) h z nz s =
    by_cases (ℕ_discrete p n)
    (λ e.
    let q : get_or piv n 0 ≡ 0 = ap (λ (i : ℕ). get_or piv i 0) (sym e) ∙ z in
    let r : get_or b n 0 ≡ 0 → ⊥ = λ w. nz (ap (λ (i : ℕ). get_or b i 0) e ∙ w) in
    let t = free_same piv b n (λ f l. s f (omega arith) (λ w. omega arith)) in
    rw (eq-eqb (get_or piv n 0) 0 q, ne_eqb (get_or b n 0) 0 r) (omega arith))
    (λ ne.
    let t = free_less piv b p n (omega arith) z nz (λ f l w. s f (omega arith) w) in
    let u = s n (omega arith) (λ w. ne (sym w)) in
    rw u (omega arith))

pub apart_bits : (d : ℕ) (A : Type 0) → d ≡ 0 → d ≡ 1 → A
apart_bits d A p q = absurd (omega arith)

zeros_of : (k f z : ℕ) → z ≡ 0 → get_or (replicate k z) f 0 ≡ 0
zeros_of zero f z e = refl
zeros_of (suc k) zero z e = e
zeros_of (suc k) (suc f) z e = zeros_of k f z e

abbrev none16 : List ℕ
none16 = replicate 16 0

zeros : (f : ℕ) → get_or none16 f 0 ≡ 0
zeros f = zeros_of 16 f 0 refl

free_all : (n : ℕ) → free_before none16 n ≡ n
unfolding free_before
free_all zero = refl
free_all (suc n) = rw (eq-eqb (get_or none16 n 0) 0 (zeros n)) (omega (arith, free_all n))

pub pivots_none : (n : ℕ) (ws : List ℕ) → n ≤ 16 → Pivots n 0 ws none16
pivots_none n ws hn =
    record {
      room = hn;
      last = λ f l. inl (zeros f);
      from = λ f l. subst (InSpan ws 0) (sym (zeros f)) (span_none ws 0);
      back = λ g l. absurd (omega arith);
      count = omega (arith, free_all n);
      free = λ s l e. lib.Arith.lt-one l;
    }
