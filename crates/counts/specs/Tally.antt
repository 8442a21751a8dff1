-- Counting over a range: how many of the numbers below k have a given value, as a function that computes, and as a Count.
use Rattle.std.specs.Prelude.{◌≡◌, refl, ◌⊎◌, ℕ, zero, suc, ◌+◌, ◌≤◌, ◌<◌, eqb}
use Rattle.std.proofs.Common.{sym, ap, subst, ◌∙◌, inl, inr, ⊎_elim, arith, eq-eqb, ne_eqb}
use Rattle.std.proofs.Math.Logic.{by_cases}
use Rattle.std.proofs.Math.Decide.{ℕ_discrete}
use Rattle.gf2.specs.Counts.{Count, count_same, count_image}
use Rattle.gf2.specs.Digits.{pick}
use Rattle.counts.specs.Counting.{count_none, count_add}

-- how many i < k have v i ≡ l
unfoldable pub tally : (ℕ → ℕ) → ℕ → ℕ → ℕ
tally v zero l = 0
tally v (suc k) l = tally v k l + pick (eqb (v k) l) 1 0

-- one number more
pub tally_hit : (v : ℕ → ℕ) (k l : ℕ) → v k ≡ l → tally v (suc k) l ≡ tally v k l + 1
unfolding tally
tally_hit v k l e = rw (eq-eqb (v k) l e)

pub tally_miss : (v : ℕ → ℕ) (k l : ℕ) → (v k ≡ l → ⊥) → tally v (suc k) l ≡ tally v k l
unfolding tally
tally_miss v k l e = rw (ne_eqb (v k) l e) (omega arith)

pub tally_start : (v : ℕ → ℕ) (l : ℕ) → tally v 0 l ≡ 0
unfolding tally
tally_start v l = refl

-- at most all
pub tally_le : (v : ℕ → ℕ) (k l : ℕ) → tally v k l ≤ k
tally_le v zero l = omega (arith, tally_start v l)
tally_le v (suc k) l =
    by_cases (ℕ_discrete (v k) l)
    (λ e. omega (arith, tally_hit v k l e, tally_le v k l))
    (λ e. omega (arith, tally_miss v k l e, tally_le v k l))

-- the values matter only below k
pub tally_same : (u v : ℕ → ℕ) (k l : ℕ) → ((i : ℕ) → i < k → u i ≡ v i) → tally u k l ≡ tally v k l
unfolding tally
tally_same u v zero l h = refl
tally_same u v (suc k) l h = rw (tally_same u v k l (λ i p. h i (omega arith)), h k (omega arith))

-- a value that does not occur
pub tally_none : (v : ℕ → ℕ) (k l : ℕ) → ((i : ℕ) → i < k → v i ≡ l → ⊥) → tally v k l ≡ 0
tally_none v zero l h = tally_start v l
tally_none v (suc k) l h = tally_miss v k l (h k (omega arith)) ∙ tally_none v k l (λ i p. h i (omega arith))

-- the tally counts
tally_count : (v : ℕ → ℕ) (k l : ℕ) → Count (λ i. (i < k) × (v i ≡ l)) (tally v k l)
tally_count v zero l =
    subst (Count (λ i. (i < 0) × (v i ≡ l))) (sym (tally_start v l)) (count_none (λ i. (i < 0) × (v i ≡ l)) (λ i p. omega (arith, p.0)))
tally_count v (suc k) l =
    by_cases (ℕ_discrete (v k) l)
    (λ e. subst (Count (λ i. (i < suc k) × (v i ≡ l))) (omega (arith, tally_hit v k l e))
    (count_same (λ i. (i ≡ k) ⊎ ((i < k) × (v i ≡ l))) (λ i. (i < suc k) × (v i ≡ l)) (suc (tally v k l))
    (λ i p. ⊎_elim (λ q. (omega arith, ap v q ∙ e)) (λ q. (omega (arith, q.0), q.1)) p)
    (λ i p. let h = p.0 in by_cases (ℕ_discrete i k) (λ q. inl q) (λ ne. inr (omega arith, p.1)))
    (count_add (λ i. (i < k) × (v i ≡ l)) (tally v k l) k (tally_count v k l) (λ p. omega (arith, p.0)))))
    (λ e. subst (Count (λ i. (i < suc k) × (v i ≡ l))) (sym (tally_miss v k l e))
    (count_same (λ i. (i < k) × (v i ≡ l)) (λ i. (i < suc k) × (v i ≡ l)) (tally v k l)
    (λ i p. (omega (arith, p.0), p.1))
    (λ i p. let h = p.0 in by_cases (ℕ_discrete i k) (λ q. absurd (e (ap v (sym q) ∙ p.1))) (λ ne. (omega arith, p.1)))
    (tally_count v k l)))

-- .. and what a one-to-one map makes of the numbers below k
pub tally_image : (g v : ℕ → ℕ) (k l : ℕ) → ((i j : ℕ) → i < k → j < k → g i ≡ g j → i ≡ j)
    → Count (λ x. (i : ℕ) × ((i < k) × ((v i ≡ l) × (x ≡ g i)))) (tally v k l)
tally_image g v k l once =
    count_image (λ i. (i < k) × (v i ≡ l)) (λ x. (i : ℕ) × ((i < k) × ((v i ≡ l) × (x ≡ g i)))) (tally v k l) g
    (λ i p. (i, (p.0, (p.1, refl))))
    (λ x q. (q.0, ((q.1.0, q.1.1.0), q.1.1.1)))
    (λ i j p q e. once i j p.0 q.0 e)
    (tally_count v k l)
