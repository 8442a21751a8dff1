-- A lent list whose first places take over another list: what stands where, and the places past it untouched.
use Rattle.std.specs.Prelude.{◌≡◌, refl, List, [], ◌∷◌, ◌++◌, ℕ, zero, suc, ◌+◌, ◌≤◌, ◌<◌, length, get_or, take, drop, set}
use Rattle.std.proofs.Common.{sym, ap, ◌∙◌, arith, add-one, length-append, length-drop, drop_at}
use Rattle.std.proofs.Math.ListN.{get_or-append}
use Rattle.std.proofs.Math.Seq.{take-length}

-- `exit` has the list xs in its first places and is `entry` past them
abbrev pub Copied : List ℕ → List ℕ → List ℕ → Type 0
Copied xs entry exit = exit ≡ xs ++ drop (length xs) entry

-- one place more
copy_more : (xs ys : List ℕ) (i : ℕ) → i < length xs → length xs ≤ length ys
    → set (take i xs ++ drop i ys) i (get_or xs i 0) ≡ take (suc i) xs ++ drop (suc i) ys
copy_more [] ys i h l = absurd (omega arith)
copy_more (x ∷ xs) [] i h l = absurd (omega arith)
copy_more (x ∷ xs) (y ∷ ys) zero h l = refl
copy_more (x ∷ xs) (y ∷ ys) (suc i) h l = ap (λ (zs : List ℕ). x ∷ zs) (copy_more xs ys i (omega arith) (omega arith))

pub copy_turn : (xs ys zs : List ℕ) (i : ℕ) → i < length xs → length xs ≤ length ys → zs ≡ take i xs ++ drop i ys
    → set zs i (get_or xs i 0) ≡ take (i + 1) xs ++ drop (i + 1) ys
copy_turn xs ys zs i h l e =
    ap (λ (zs : List ℕ). set zs i (get_or xs i 0)) e ∙ copy_more xs ys i h l ∙ ap (λ (k : ℕ). take k xs ++ drop k ys) (sym (add-one i))

-- all of it
pub copy_all : (xs ys zs : List ℕ) (i : ℕ) → i ≤ length xs → length xs ≤ i → zs ≡ take i xs ++ drop i ys → Copied xs ys zs
copy_all xs ys zs i h l e =
    let q : i ≡ length xs = omega arith in
    e ∙ ap (λ (k : ℕ). take k xs ++ drop k ys) q ∙ ap (λ (p : List ℕ). p ++ drop (length xs) ys) (take-length xs)

-- the list zs begins with xs
abbrev pub Starts : List ℕ → List ℕ → Type 0
Starts xs zs = (i : ℕ) → i < length xs → get_or zs i 0 ≡ get_or xs i 0

module _ (xs ys zs : List ℕ) (fits : length xs ≤ length ys) (c : Copied xs ys zs) where
  pub copied_begins : Starts xs zs
  copied_begins i h = ap (λ (l : List ℕ). get_or l i 0) c ∙ get_or-append xs (drop (length xs) ys) 0 i h

  pub copied_past : drop (length xs) zs ≡ drop (length xs) ys
  copied_past = ap (drop (length xs)) c ∙ drop_at xs (drop (length xs) ys) (length xs) refl

  pub copied_size : length zs ≡ length ys
  copied_size = ap length c ∙ length-append xs (drop (length xs) ys) ∙ omega (arith, length-drop (length xs) ys)
