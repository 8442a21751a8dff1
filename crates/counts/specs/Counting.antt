-- More laws of Count (gf2): nothing, one more, either of two, the numbers below k, the set digits of a number; a count of 0 has no members and a
-- count above 0 has one.
use Rattle.std.specs.Prelude.{◌≡◌, refl, ◌⊎◌, List, [], ◌∷◌, ℕ, zero, suc, ◌+◌, ◌/◌, ◌%◌, ◌<◌, length}
use Rattle.std.proofs.Common.{sym, ap, subst, ◌∙◌, inl, inr, ⊎_elim, arith}
use Rattle.std.proofs.Math.Logic.{by_cases}
use Rattle.std.proofs.Math.Decide.{ℕ_discrete}
use Rattle.std.proofs.Math.Arith.{bin_ind}
use Rattle.std.specs.Int.Count.{ones, ones_step}
use Rattle.gf2.specs.Counts.{Count, count_same, count_image}
use Rattle.gf2.specs.DigitLaws.{bit_none, bit_suc}
use Rattle.gf2.specs.Digits.{bit}
use Rattle.gf2.specs.Letters.{ones_zero}
use Rattle.gf2.specs.Lists.{upto, upto_lt, upto_in, upto_length, upto_different}
use Rattle.gf2.specs.Members.{In, Different}

-- no number has the property
pub count_none : (P : ℕ → Type 0) → ((x : ℕ) → P x → ⊥) → Count P 0
count_none P h = record { members = []; different = tt; each = λ x m. absurd m; all = λ x p. h x p; number = refl }

-- one number more
pub count_add : (P : ℕ → Type 0) (k y : ℕ) → Count P k → (P y → ⊥) → Count (λ x. (x ≡ y) ⊎ P x) (suc k)
count_add P k y c h =
    record {
      members = y ∷ c.members;
      different = ((λ m. h (c.each y m)), c.different);
      each = λ x m. ⊎_elim (λ e. inl e) (λ i. inr (c.each x i)) m;
      all = λ x p. ⊎_elim (λ e. inl e) (λ q. inr (c.all x q)) p;
      number = ap suc c.number;
    }

-- different numbers that do not have the property
count_list : (Q : ℕ → Type 0) (b : ℕ) (xs : List ℕ) → Different xs → ((x : ℕ) → In x xs → Q x → ⊥) → Count Q b → Count (λ x. In x xs ⊎ Q x) (length xs + b)
count_list Q b [] d h c =
    let e : 0 + b ≡ b = omega arith in
    rw e (count_same Q (λ x. In x [] ⊎ Q x) b (λ x q. inr q) (λ x p. ⊎_elim (λ m. absurd m) (λ q. q) p) c)
count_list Q b (y ∷ xs) d h c =
    let e : suc (length xs) + b ≡ suc (length xs + b) = omega arith in
    rw e (count_same (λ x. (x ≡ y) ⊎ (In x xs ⊎ Q x)) (λ x. In x (y ∷ xs) ⊎ Q x) (suc (length xs + b))
    (λ x p. ⊎_elim (λ e. inl (inl e)) (λ r. ⊎_elim (λ m. inl (inr m)) (λ q. inr q) r) p)
    (λ x p. ⊎_elim (λ r. ⊎_elim (λ e. inl e) (λ m. inr (inl m)) r) (λ q. inr (inr q)) p)
    (count_add (λ x. In x xs ⊎ Q x) (length xs + b) y (count_list Q b xs d.1 (λ x m q. h x (inr m) q) c)
    (λ p. ⊎_elim (λ m. d.0 m) (λ q. h y (inl refl) q) p)))

-- either of two properties that no number has both of
pub count_or : (P Q : ℕ → Type 0) (a b : ℕ) → ((x : ℕ) → P x → Q x → ⊥) → Count P a → Count Q b → Count (λ x. P x ⊎ Q x) (a + b)
count_or P Q a b h c d =
    subst (λ (k : ℕ). Count (λ x. P x ⊎ Q x) (k + b)) c.number
    (count_same (λ x. In x c.members ⊎ Q x) (λ x. P x ⊎ Q x) (length c.members + b)
    (λ x p. ⊎_elim (λ m. inl (c.each x m)) (λ q. inr q) p)
    (λ x p. ⊎_elim (λ m. inl (c.all x m)) (λ q. inr q) p)
    (count_list Q b c.members c.different (λ x m q. h x (c.each x m) q) d))

-- the numbers below k, and those from 1 to k
count_below : (k : ℕ) → Count (λ x. x < k) k
count_below k = record { members = upto k; different = upto_different k; each = upto_lt k; all = upto_in k; number = upto_length k }

pub count_from_one : (k : ℕ) → Count (λ x. (0 < x) × (x < suc k)) k
count_from_one k =
    count_image (λ x. x < k) (λ x. (0 < x) × (x < suc k)) k suc (λ x h. (omega arith, omega arith))
    (λ y h. from_suc y h.0 h.1)
    (λ x y p q e. omega arith) (count_below k)
  where
    from_suc : (y : ℕ) → 0 < y → y < suc k → (x : ℕ) × ((x < k) × (y ≡ suc x))
    from_suc zero p q = absurd (omega arith)
    from_suc (suc x) p q = (x, (omega arith, refl))

-- a count of 0 has no members
pub count_zero : (P : ℕ → Type 0) (k : ℕ) → k ≡ 0 → Count P k → (x : ℕ) → P x → ⊥
count_zero P k e c x p = none c.members (c.number ∙ e) (c.all x p)
  where
    none : (xs : List ℕ) → length xs ≡ 0 → In x xs → ⊥
    none [] e m = m
    none (y ∷ ys) e m = omega arith

-- a count above 0 has one
pub count_some : (P : ℕ → Type 0) (k : ℕ) → 0 < k → Count P k → (x : ℕ) × P x
count_some P k h c = first c.members (omega (arith, c.number)) c.each
  where
    first : (xs : List ℕ) → 0 < length xs → ((x : ℕ) → In x xs → P x) → (x : ℕ) × P x
    first [] h e = absurd (omega arith)
    first (y ∷ ys) h e = (y, e y (inl refl))

-- the set digits of a number: those of its half, moved up, and its lowest
module _ (w : ℕ) (half : Count (λ i. bit i (w / 2) ≡ 1) (ones (w / 2))) where
  upper : Count (λ i. (0 < i) × (bit i w ≡ 1)) (ones (w / 2))
  upper =
      count_image (λ i. bit i (w / 2) ≡ 1) (λ i. (0 < i) × (bit i w ≡ 1)) (ones (w / 2)) suc (λ i e. (omega arith, bit_suc i w ∙ e))
      (λ i p. from i p.0 p.1)
      (λ i j p q e. omega arith) half
    where
      from : (i : ℕ) → 0 < i → bit i w ≡ 1 → (j : ℕ) × ((bit j (w / 2) ≡ 1) × (i ≡ suc j))
      from zero l e = absurd (omega arith)
      from (suc i) l e = (i, (sym (bit_suc i w) ∙ e, refl))

  digits_more : Count (λ i. bit i w ≡ 1) (ones w)
  digits_more =
      by_cases (ℕ_discrete (w % 2) 1)
      (λ o. subst (Count (λ i. bit i w ≡ 1)) (omega (arith, ones_step w))
      (count_same (λ i. (i ≡ 0) ⊎ ((0 < i) × (bit i w ≡ 1))) (λ i. bit i w ≡ 1) (suc (ones (w / 2)))
      (λ i p. ⊎_elim (λ e. ap (λ (j : ℕ). bit j w) e ∙ lowest ∙ o) (λ q. q.1) p)
      (λ i e. by_cases (ℕ_discrete i 0) (λ z. inl z) (λ ne. inr (omega arith, e)))
      (count_add (λ i. (0 < i) × (bit i w ≡ 1)) (ones (w / 2)) 0 upper (λ p. omega (arith, p.0)))))
      (λ n. subst (Count (λ i. bit i w ≡ 1)) (omega (arith, ones_step w))
      (count_same (λ i. (0 < i) × (bit i w ≡ 1)) (λ i. bit i w ≡ 1) (ones (w / 2))
      (λ i p. p.1)
      (λ i e. by_cases (ℕ_discrete i 0) (λ z. absurd (n (sym lowest ∙ ap (λ (j : ℕ). bit j w) (sym z) ∙ e))) (λ ne. (omega arith, e)))
      upper))
    where
      lowest : bit 0 w ≡ w % 2
      lowest = let e : w / 1 ≡ w = omega arith in ap (λ (x : ℕ). x % 2) e

pub count_digits : (w : ℕ) → Count (λ i. bit i w ≡ 1) (ones w)
count_digits =
    bin_ind (λ (w : ℕ). Count (λ i. bit i w ≡ 1) (ones w))
    (subst (Count (λ i. bit i 0 ≡ 1)) (sym ones_zero) (count_none (λ i. bit i 0 ≡ 1) (λ i e. omega (arith, bit_none i))))
    digits_more
