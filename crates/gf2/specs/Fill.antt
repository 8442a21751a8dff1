-- A list that is filled from its start: place k holds F k below j, and what it held at entry from there on. Nothing filled, one place more;
-- a list set at one place; a table of zeros at entry is zero past what is filled.
use Rattle.std.specs.Prelude.{◌≡◌, refl, List, ℕ, zero, suc, ◌+◌, ◌<◌, ◌≤◌, length, get_or, set, replicate}
use Rattle.std.proofs.Common.{◌∙◌, sym, subst, arith, length-set, get_or-set_same, get_or-set_other}
use Rattle.std.proofs.Math.Logic.{by_cases}
use Rattle.std.proofs.Math.Decide.{ℕ_discrete}

-- t was `entry`, and holds F k at each place k below j
pub record Filled (F : ℕ → ℕ) (entry : List ℕ) (j : ℕ) (t : List ℕ) : Type 0 where
  pub size : length t ≡ length entry
  pub done : (k : ℕ) → k < j → get_or t k 0 ≡ F k
  pub kept : (k : ℕ) → j ≤ k → get_or t k 0 ≡ get_or entry k 0

pub fill_none : (F : ℕ → ℕ) (entry : List ℕ) → Filled F entry 0 entry
fill_none F entry = record { size = refl; done = λ k h. absurd (omega arith); kept = λ k h. refl }

module _ (F : ℕ → ℕ) (entry : List ℕ) (j : ℕ) (t : List ℕ) (f : Filled F entry j t) where
  pub fill_more : (v : ℕ) → j < length entry → v ≡ F j → Filled F entry (j + 1) (set t j v)
  fill_more v h e =
      record {
        size = length-set t j v ∙ f.size;
        done = λ k l. by_cases (ℕ_discrete k j)
            (λ p. rw p (get_or-set_same t j v 0 (omega (arith, f.size)) ∙ e))
            (λ ne. get_or-set_other t j k v 0 ne ∙ f.done k (omega arith));
        kept = λ k l. get_or-set_other t j k v 0 (λ p. omega arith) ∙ f.kept k (omega arith);
      }

-- a list with y set at the place x: what holds at that place and at every other; what is unused past it
pub each_place : (t : List ℕ) (x y : ℕ) → x < length t → (P : ℕ → ℕ → Type 0) → P x y → ((v : ℕ) → (v ≡ x → ⊥) → P v (get_or t v 0)) → (v : ℕ)
    → P v (get_or (set t x y) v 0)
each_place t x y l P here other v = by_cases (ℕ_discrete v x)
    (λ q. subst (λ (z : ℕ). P z (get_or (set t x y) z 0)) (sym q) (subst (λ (z : ℕ). P x z) (sym (get_or-set_same t x y 0 l)) here))
    (λ ne. subst (λ (z : ℕ). P v z) (sym (get_or-set_other t x v y 0 ne)) (other v ne))

pub set_unused : (t : List ℕ) (x y : ℕ) → ((v : ℕ) → x ≤ v → get_or t v 0 ≡ 0) → (v : ℕ) → x + 1 ≤ v → get_or (set t x y) v 0 ≡ 0
set_unused t x y un v h = get_or-set_other t x v y 0 (λ e. omega arith) ∙ un v (omega arith)

-- a table of zeros
pub zeros : (n k : ℕ) → ◌≡◌ {A = ℕ} (get_or (replicate n 0) k 0) 0
zeros zero k = refl
zeros (suc n) zero = refl
zeros (suc n) (suc k) = zeros n k

pub fill_unused : (F : ℕ → ℕ) (n j : ℕ) (t : List ℕ) → Filled F (replicate n 0) j t → (k : ℕ) → j ≤ k → get_or t k 0 ≡ 0
fill_unused F n j t f k h = f.kept k h ∙ zeros n k
