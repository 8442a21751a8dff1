-- Laws of the resolution: the definition fixes it, and it is the first length at which the pattern has a count above 0, or n + 1.
use Rattle.std.specs.Prelude.{◌≡◌, refl, List, ℕ, zero, suc, ◌+◌, ◌-◌, ◌≤◌, ◌<◌, get_or}
use Rattle.std.proofs.Common.{ap, subst, ◌∙◌, arith, eq-eqb, ne_eqb}
use Rattle.std.proofs.Math.Logic.{by_cases}
use Rattle.std.proofs.Math.Decide.{ℕ_discrete, dec_lt}
use Rattle.regular.specs.Pattern.{Pattern, Resolution, of_length}
use Rattle.regular.specs.Runs.{Runs}
use Rattle.regular.specs.Words.{Word, letters}
use Rattle.counts.specs.Counting.{count_zero, count_some}
use Rattle.counts.specs.Models.{first_length}
use Rattle.counts.specs.Patterns.{word_some, word_most}

-- one resolution
pub resolution_unique : (n : ℕ) (s : Runs) (a b : ℕ) → Resolution n s a → Resolution n s b → a ≡ b
resolution_unique n s a b (Resolution.full h) (Resolution.full k) = refl
resolution_unique n s a b (Resolution.full h) (Resolution.shortest w x l) = absurd (h w x)
resolution_unique n s a b (Resolution.shortest w x l) (Resolution.full h) = absurd (h w x)
resolution_unique n s a b (Resolution.shortest w x l) (Resolution.shortest v y m) = omega (arith, l v y, m w x)

module _ (n : ℕ) (s : Runs) (p : List ℕ) (pat : Pattern n s p) where
  -- a word has a length with a count above 0
  pub word_counted : (w : ℕ) → Word n s w → of_length p (letters w) ≡ 0 → ⊥
  word_counted w h e =
      count_zero (λ v. Word n s v × (letters v ≡ letters w)) (of_length p (letters w)) e (pat.counts (letters w) (word_some n s w h) (word_most n s w h)) w
      (h, refl)

  -- no length has a count
  resolution_none : ((l : ℕ) → 1 ≤ l → l ≤ n → of_length p l ≡ 0) → Resolution n s (n + 1)
  resolution_none none = Resolution.full (λ w h. word_counted w h (none (letters w) (word_some n s w h) (word_most n s w h)))

  -- l is the first that has
  resolution_at : (l : ℕ) → 1 ≤ l → l ≤ n → 0 < of_length p l → ((k : ℕ) → 1 ≤ k → k < l → of_length p k ≡ 0) → Resolution n s l
  resolution_at l h k some before =
      let r = count_some (λ w. Word n s w × (letters w ≡ l)) (of_length p l) some (pat.counts l h k) in
      let w = r.0 in
      let e : letters w ≡ l = r.1.1 in
      subst (Resolution n s) e
      (Resolution.shortest w r.1.0
      (λ v y. by_cases (dec_lt (letters v) l) (λ less. absurd (word_counted v y (before (letters v) (word_some n s v y) less))) (λ more. omega arith)))

-- r is the first of the lengths 1 to n with a count above 0, or n + 1
pub record FirstLength (n : ℕ) (p : List ℕ) (r : ℕ) : Type 0 where
  pub some : 1 ≤ r
  pub within : r ≤ n + 1
  pub before : (k : ℕ) → 1 ≤ k → k < r → of_length p k ≡ 0
  pub counted : r ≤ n → 0 < of_length p r

-- there is one such length
module _ {n : ℕ} {p : List ℕ} where
  first_most : {a b : ℕ} → FirstLength n p a → FirstLength n p b → a ≤ b
  first_most {a} {b} f h =
      by_cases (dec_lt b a)
      (λ less. absurd (omega (arith, f.within, h.counted (omega (arith, f.within)), f.before b h.some less)))
      (λ most. omega arith)

  first_unique : {a b : ℕ} → FirstLength n p a → FirstLength n p b → a ≡ b
  first_unique f h = omega (arith, first_most f h, first_most h f)

-- the model of the first length
first_start : (p : List ℕ) → first_length 0 p ≡ 1
unfolding first_length
first_start p = refl

first_none : (n : ℕ) (p : List ℕ) → first_length n p ≡ suc n → get_or p n 0 ≡ 0 → first_length (suc n) p ≡ suc (suc n)
unfolding first_length
first_none n p e z = rw (eq-eqb (first_length n p) (suc n) e, eq-eqb (get_or p n 0) 0 z) (ap suc e)

first_here : (n : ℕ) (p : List ℕ) → first_length n p ≡ suc n → (get_or p n 0 ≡ 0 → ⊥) → first_length (suc n) p ≡ suc n
unfolding first_length
first_here n p e z = rw (eq-eqb (first_length n p) (suc n) e, ne_eqb (get_or p n 0) 0 z) e

first_kept : (n : ℕ) (p : List ℕ) → (first_length n p ≡ suc n → ⊥) → first_length (suc n) p ≡ first_length n p
unfolding first_length
first_kept n p e = rw (ne_eqb (first_length n p) (suc n) e)

first_is : (n : ℕ) (p : List ℕ) → FirstLength n p (first_length n p)
first_is zero p =
    rw first_start
    (record { some = omega arith; within = omega arith; before = λ k a b. absurd (omega arith); counted = λ h. absurd (omega arith) })
first_is (suc n) p =
    let f = first_is n p in
    let last : suc n - 1 ≡ n = omega arith in
    let place : of_length p (suc n) ≡ get_or p n 0 = ap (λ (i : ℕ). get_or p i 0) last in
    by_cases (ℕ_discrete (first_length n p) (suc n))
    (λ e. by_cases (ℕ_discrete (get_or p n 0) 0)
    (λ z. rw (first_none n p e z) (record {
      some = omega arith;
      within = omega arith;
      before = λ k a b. by_cases (ℕ_discrete k (suc n)) (λ q. ap (of_length p) q ∙ place ∙ z) (λ ne. f.before k a (omega arith));
      counted = λ h. absurd (omega arith);
    }))
    (λ z. rw (first_here n p e z) (record {
      some = omega arith;
      within = omega arith;
      before = λ k a b. f.before k a (omega arith);
      counted = λ h. omega arith;
    })))
    (λ e. rw (first_kept n p e) (record {
      some = f.some;
      within = omega (arith, f.within);
      before = f.before;
      counted = λ h. f.counted (omega (arith, f.within));
    }))

-- so the model is the one such length
pub first_length_lem : {n : ℕ} {p : List ℕ} {r : ℕ} → FirstLength n p r → r ≡ first_length n p
first_length_lem {n} {p} f = first_unique f (first_is n p)

-- the theorem
pub resolution_of_pattern : (n : ℕ) (s : Runs) (p : List ℕ) → Pattern n s p → Resolution n s (first_length n p)
resolution_of_pattern n s p pat =
    let f = first_is n p in
    by_cases (dec_lt n (first_length n p))
    (λ past.
    let e : n + 1 ≡ first_length n p = omega (arith, f.within) in
    subst (Resolution n s) e (resolution_none n s p pat (λ l a b. f.before l a (omega arith))))
    (λ few. resolution_at n s p pat (first_length n p) f.some (omega arith) (f.counted (omega arith)) f.before)
