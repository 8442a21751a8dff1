-- A list with other numbers over some of its places: `over at zs v` is v with zs at the places from `at` on. Its laws: one number is `set`, what is
-- put after what was put is put together, the length stays, and over the first places the list begins with what was put.
use Rattle.std.specs.Prelude.{◌≡◌, refl, List, [], ◌∷◌, ◌++◌, ℕ, zero, suc, ◌+◌, ◌≤◌, ◌<◌, length, take, drop, set}
use Rattle.std.proofs.Common.{sym, ap, ◌∙◌, suc-add, zero-add, arith, length-append, length-drop, drop_at, take_at}
use Rattle.std.proofs.Math.Seq.{drop-nil}

unfoldable pub over : ℕ → List ℕ → List ℕ → List ℕ
over zero zs v = zs ++ drop (length zs) v
over (suc at) zs [] = []
over (suc at) zs (x ∷ v) = x ∷ over at zs v

-- nothing put
pub over_none : (at : ℕ) (v : List ℕ) → over at [] v ≡ v
unfolding over
over_none zero v = refl
over_none (suc at) [] = refl
over_none (suc at) (x ∷ v) = ap (λ (l : List ℕ). x ∷ l) (over_none at v)

-- one number
pub over_one : (at y : ℕ) (v : List ℕ) → at < length v → over at (y ∷ []) v ≡ set v at y
unfolding over
over_one at y [] h = absurd (omega arith)
over_one zero y (x ∷ v) h = refl
over_one (suc at) y (x ∷ v) h = ap (λ (l : List ℕ). x ∷ l) (over_one at y v (omega arith))

-- in three parts
pub over_parts : (at : ℕ) (zs v : List ℕ) → at ≤ length v → over at zs v ≡ (take at v ++ zs) ++ drop (at + length zs) v
unfolding over
over_parts zero zs v h = ap (λ (k : ℕ). zs ++ drop k v) (sym (zero-add (length zs)))
over_parts (suc at) zs [] h = absurd (omega arith)
over_parts (suc at) zs (x ∷ v) h =
    ap (λ (l : List ℕ). x ∷ l) (over_parts at zs v (omega arith))
    ∙ ap (λ (k : ℕ). (x ∷ take at v ++ zs) ++ drop k (x ∷ v)) (sym (suc-add at (length zs)))

-- one after the other
after_start : (zs ys v : List ℕ) → over (length zs) ys (zs ++ drop (length zs) v) ≡ (zs ++ ys) ++ drop (length (zs ++ ys)) v
unfolding over
after_start [] ys v = refl
after_start (z ∷ zs) ys [] =
    ap (λ (l : List ℕ). z ∷ l)
    (ap (λ (l : List ℕ). over (length zs) ys (zs ++ l)) (sym (drop-nil (length zs)))
    ∙ after_start zs ys []
    ∙ ap (λ (l : List ℕ). (zs ++ ys) ++ l) (drop-nil (length (zs ++ ys))))
after_start (z ∷ zs) ys (x ∷ v) = ap (λ (l : List ℕ). z ∷ l) (after_start zs ys v)

pub over_then : (at : ℕ) (zs ys v : List ℕ) → over (at + length zs) ys (over at zs v) ≡ over at (zs ++ ys) v
unfolding over
over_then zero zs ys v = ap (λ (k : ℕ). over k ys (zs ++ drop (length zs) v)) (zero-add (length zs)) ∙ after_start zs ys v
over_then (suc at) zs ys [] = ap (λ (k : ℕ). over k ys []) (suc-add at (length zs))
over_then (suc at) zs ys (x ∷ v) =
    ap (λ (k : ℕ). over k ys (x ∷ over at zs v)) (suc-add at (length zs)) ∙ ap (λ (l : List ℕ). x ∷ l) (over_then at zs ys v)

-- .. by the number k of what was put
pub put_then : (at k : ℕ) (zs ys v : List ℕ) → length zs ≡ k → over (at + k) ys (over at zs v) ≡ over at (zs ++ ys) v
put_then at k zs ys v e = ap (λ (j : ℕ). over (at + j) ys (over at zs v)) (sym e) ∙ over_then at zs ys v

-- the length stays where there is room
pub over_length : (at : ℕ) (zs v : List ℕ) → at + length zs ≤ length v → length (over at zs v) ≡ length v
unfolding over
over_length zero zs v h = length-append zs (drop (length zs) v) ∙ omega (arith, length-drop (length zs) v)
over_length (suc at) zs [] h = refl
over_length (suc at) zs (x ∷ v) h = ap suc (over_length at zs v (omega arith))

-- one number more after what was put
pub put_more : (at k x : ℕ) (zs v : List ℕ) → length zs ≡ k → at + k < length v → set (over at zs v) (at + k) x ≡ over at (zs ++ x ∷ []) v
put_more at k x zs v e h =
    sym (over_one (at + k) x (over at zs v) (omega (arith, over_length at zs v (omega arith)))) ∙ put_then at k zs (x ∷ []) v e

-- over the first places
pub over_begins : (zs v : List ℕ) → take (length zs) (over 0 zs v) ≡ zs
unfolding over
over_begins zs v = take_at zs (drop (length zs) v) (length zs) refl

pub over_rest : (zs v : List ℕ) → drop (length zs) (over 0 zs v) ≡ drop (length zs) v
unfolding over
over_rest zs v = drop_at zs (drop (length zs) v) (length zs) refl
