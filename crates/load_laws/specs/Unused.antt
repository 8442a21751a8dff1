-- The first unused column from one upward: it is one of 1 to the last, not used, and only one; which it is when the columns before it, step by step,
-- are used; and that after as many used ones as there are the next is unused.
use Rattle.std.specs.Prelude.{◌≡◌, refl, List, ℕ, zero, suc, ◌+◌, ◌-◌, ◌%◌, ◌≤◌, ◌<◌, get_or}
use Rattle.std.proofs.Common.{sym, ap, subst, ◌∙◌, mod-lt, mod-eq_of_lt, arith}
use Rattle.std.proofs.Math.Logic.{by_cases}
use Rattle.std.proofs.Math.Nat.{mod-eq-sub-mod, mod-add-mod}
use Rattle.std.proofs.Math.Decide.{dec_lt}
use Rattle.gf2.specs.Lists.{upto, upto_lt, upto_length, upto_different, image, image_length, of_image, image_different, fewer, list_to, to_length, in_to}
use Rattle.gf2.specs.Members.{In}
use Rattle.regular.specs.Columns.{Column}
use Rattle.regular.specs.Loads.{FirstUnused, upward}
use Rattle.regular.specs.Smallest.{Equal}

-- the columns before factor f, of lists that agree there
pub column_equal : (f : ℕ) (c d : List ℕ) → Equal f c d → (e : ℕ) → e ≤ f → (v : ℕ) → Column e c v → Column e d v
column_equal f c d same e l v k = (k.0, (k.1.0, sym (same k.0 (omega (arith, k.1.0))) ∙ k.1.1))

-- k steps up from column x + 1
abbrev pub stepped : ℕ → ℕ → ℕ → ℕ
stepped last x k = (x + k) % last + 1

pub step_more : (last x k : ℕ) → upward last (stepped last x k) ≡ stepped last x (k + 1)
step_more last x k = ap (λ (y : ℕ). y + 1) (mod-add-mod (x + k) last 1 ∙ ap (λ (y : ℕ). y % last) (sums x k))
  where
    sums : (x k : ℕ) → x + k + 1 ≡ x + (k + 1)
    sums x k = omega arith

module _ (last : ℕ) (Used : ℕ → Type 0) where
  pub first_unused_lem : (x y : ℕ) → FirstUnused last Used x y → Used y → ⊥
  first_unused_lem x y (FirstUnused.itself _ no-use) = no-use
  first_unused_lem x y (FirstUnused.next _ _ used more) = first_unused_lem (upward last x) y more

  pub first_between : (x y : ℕ) → 0 < last → 0 < x → x ≤ last → FirstUnused last Used x y → (0 < y) × (y ≤ last)
  first_between x y some low high (FirstUnused.itself _ no-use) = (low, high)
  first_between x y some low high (FirstUnused.next _ _ used more) =
      first_between (upward last x) y some (omega arith) (omega (arith, mod-lt x some)) more

  -- it is k steps up if the columns at fewer steps are used and that one is not
  pub steps_first : (k x : ℕ) → ((i : ℕ) → i < k → Used (stepped last x i)) → (Used (stepped last x k) → ⊥)
      → FirstUnused last Used (stepped last x 0) (stepped last x k)
  steps_first zero x used no-use = FirstUnused.itself (stepped last x 0) no-use
  steps_first (suc k) x used no-use =
      let shift : (i : ℕ) → stepped last (x + 1) i ≡ stepped last x (suc i) = λ i. ap (λ (y : ℕ). y % last + 1) (sums x i) in
      let rest = steps_first k (x + 1) (λ i h. subst Used (sym (shift i)) (used (suc i) (omega arith))) (λ u. no-use (subst Used (shift k) u)) in
      FirstUnused.next (stepped last x 0) (stepped last x (suc k)) (used 0 (omega arith))
      (subst (λ (y : ℕ). FirstUnused last Used y (stepped last x (suc k))) (shift 0 ∙ sym (step_more last x 0))
      (subst (FirstUnused last Used (stepped last (x + 1) 0)) (shift k) rest))
    where
      sums : (x i : ℕ) → x + 1 + i ≡ x + suc i
      sums x i = omega arith

-- one column, where the same are used
pub first_one : (last : ℕ) (P Q : ℕ → Type 0) → ((v : ℕ) → P v → Q v) → ((v : ℕ) → Q v → P v) → (x y z : ℕ) → FirstUnused last P x y
    → FirstUnused last Q x z → y ≡ z
first_one last P Q into onto x y z (FirstUnused.itself _ a) (FirstUnused.itself _ b) = refl
first_one last P Q into onto x y z (FirstUnused.itself _ a) (FirstUnused.next _ _ used more) = absurd (a (onto x used))
first_one last P Q into onto x y z (FirstUnused.next _ _ used more) (FirstUnused.itself _ b) = absurd (b (into x used))
first_one last P Q into onto x y z (FirstUnused.next _ _ a p) (FirstUnused.next _ _ b q) = first_one last P Q into onto (upward last x) y z p q

pub first_agree : (last : ℕ) (P Q : ℕ → Type 0) → ((v : ℕ) → P v → Q v) → ((v : ℕ) → Q v → P v) → (x y : ℕ) → FirstUnused last P x y → FirstUnused last Q x y
first_agree last P Q into onto x y (FirstUnused.itself _ a) = FirstUnused.itself x (λ v. a (onto x v))
first_agree last P Q into onto x y (FirstUnused.next _ _ used more) =
    FirstUnused.next x y (into x used) (first_agree last P Q into onto (upward last x) y more)

-- fewer than `last` steps lead to different columns
steps_once : (last x a b : ℕ) → 0 < last → a < last → b < last → (x + a) % last ≡ (x + b) % last → a ≡ b
steps_once q d a b p ha hb e =
    let r = d % q in
    let small : r < q = mod-lt d p in
    let ea : (d + a) % q ≡ (r + a) % q = sym (mod-add-mod d q a) in
    let eb : (d + b) % q ≡ (r + b) % q = sym (mod-add-mod d q b) in
    let z : (r + a) % q ≡ (r + b) % q = sym ea ∙ e ∙ eb in
    by_cases (dec_lt (r + a) q)
    (λ la. by_cases (dec_lt (r + b) q)
    (λ lb. omega (arith, z, mod-eq_of_lt la, mod-eq_of_lt lb))
    (λ lb. absurd (omega (arith, z, mod-eq_of_lt la, over q r b small hb lb))))
    (λ la. by_cases (dec_lt (r + b) q)
    (λ lb. absurd (omega (arith, z, over q r a small ha la, mod-eq_of_lt lb)))
    (λ lb. omega (arith, z, over q r a small ha la, over q r b small hb lb)))
  where
    over : (q r x : ℕ) → r < q → x < q → (r + x < q → ⊥) → (r + x) % q ≡ r + x - q
    over q r x hr hx n = mod-eq-sub-mod (omega arith) ∙ mod-eq_of_lt (omega arith)

-- after f used columns in a row, where f are used, the next is not
pub few_used : (last f x : ℕ) (c : List ℕ) → f < last → ((i : ℕ) → i ≤ f → Column f c (stepped last x i)) → ⊥
few_used last f x c h used =
    let at : ℕ → ℕ = λ i. (x + i) % last + 1 in
    let steps = image at (upto (suc f)) in
    let apart = image_different at (upto (suc f)) (upto_different (suc f))
    (λ a b i j e. steps_once last x a b (omega arith) (omega (arith, upto_lt (suc f) a i)) (omega (arith, upto_lt (suc f) b j)) (less e)) in
    let few = fewer steps (list_to (λ e. get_or c e 0) f) apart
    (λ z i.
    let o = of_image at (upto (suc f)) z i in
    let k = used o.0 (omega (arith, upto_lt (suc f) o.0 o.1.0)) in
    subst (λ (v : ℕ). In v (list_to (λ e. get_or c e 0) f)) (k.1.1 ∙ sym o.1.1) (in_to (λ e. get_or c e 0) f k.0 k.1.0)) in
    omega (arith, few, image_length at (upto (suc f)), upto_length (suc f), to_length (λ e. get_or c e 0) f)
  where
    less : {a b : ℕ} → a + 1 ≡ b + 1 → a ≡ b
    less e = omega arith
