-- Columns in dictionary order, as the library orders lists; and a number's two bytes, as it compares them.
use Rattle.std.specs.Prelude.{ℕ, zero, suc, ◌+◌, ◌-◌, ◌^◌, ◌≤◌, ◌<◌, ◌≡◌, refl, List, [], ◌∷◌, length, get_or, take, drop, Option, Some}
use Rattle.std.specs.declared.cmp.Ordering.{Ordering}
use Rattle.std.specs.declared.cmp.Ordering.TheVariants.{Less, Equal, Greater}
use Rattle.std.specs.Cmp.{ranked}
use Rattle.std.specs.Cmp.Lexicographic.{slice_partial_cmp}
use Rattle.std.specs.Ordering.{MatchOrdering, nat_cmp, as_partial_cmp, partial_ordering_then, is_some_and, is_lt}
use Rattle.std.specs.Int.{w16, to_le_bytes}
use Rattle.std.proofs.Common.{sym, ap, ap₂, ◌∙◌, arith}
use Rattle.std.proofs.lemmas.Slice.Eq.{bytes_eq-Decides}
use Rattle.std.specs.Str.{bytes_eq}
use Rattle.gf2.specs.Answers.{Tells, tells_yes, tells_no}
use Rattle.gf2.specs.Truth.{clash}
use Rattle.regular.specs.Smallest.{Before}
use Rattle.book.specs.PutLaws.{le_bytes_two}
use Rattle.reading.specs.Answers.{NumberAt}
use Rattle.reading.specs.Patterns.{two_bytes}

-- a larger first column does not come before
never : (x y : ℕ) (c d : List ℕ) (at : ℕ) → ((g : ℕ) → g < at → get_or (x ∷ c) g 0 ≡ get_or (y ∷ d) g 0)
    → get_or (x ∷ c) at 0 < get_or (y ∷ d) at 0 → y < x → ⊥
never x y c d zero agree l h = omega arith
never x y c d (suc at) agree l h = omega (arith, agree 0 (omega arith))

-- the columns before the first may be equal; then those after it decide
module _ {n x y : ℕ} {c d : List ℕ} where
  behind : x ≡ y → Before n c d → Before (suc n) (x ∷ c) (y ∷ d)
  behind e b = record { at = suc b.at; within = omega (arith, b.within); agree = agree; smaller = b.smaller }
    where
      agree : (g : ℕ) → g < suc b.at → get_or (x ∷ c) g 0 ≡ get_or (y ∷ d) g 0
      agree zero h = e
      agree (suc g) h = b.agree g (omega arith)

  after : (at : ℕ) → at < suc n → ((g : ℕ) → g < at → get_or (x ∷ c) g 0 ≡ get_or (y ∷ d) g 0) → get_or (x ∷ c) at 0 < get_or (y ∷ d) at 0
      → x ≡ y → Before n c d
  after zero h agree l e = absurd (omega arith)
  after (suc at) h agree l e = record { at = at; within = omega arith; agree = λ g k. agree (suc g) (omega arith); smaller = l }

  -- by the order of the two first
  decided : (o : Ordering) (rest : Option Ordering) → MatchOrdering o (x < y) (x ≡ y) (y < x)
      → Tells (is_some_and is_lt rest) (Before n c d) (Before n c d → ⊥)
      → Tells (is_some_and is_lt (partial_ordering_then (Some o) rest)) (Before (suc n) (x ∷ c) (y ∷ d)) (Before (suc n) (x ∷ c) (y ∷ d) → ⊥)
  decided Less rest l t = tells_yes _ _ (record { at = 0; within = omega arith; agree = λ g h. absurd (omega arith); smaller = l })
  decided Equal rest e t = (λ z. behind e (t.0 z), λ z b. t.1 z (after b.at b.within b.agree b.smaller e))
  decided Greater rest l t = tells_no _ _ (λ b. never x y c d b.at b.agree b.smaller l)

-- the library's test of the first n columns tells which come before
pub order_told : (n : ℕ) (c d : List ℕ) → n ≤ length c → n ≤ length d
    → Tells (is_some_and is_lt (slice_partial_cmp (as_partial_cmp nat_cmp) (take n c) (take n d))) (Before n c d) (Before n c d → ⊥)
order_told zero c d p q = tells_no _ _ (λ b. omega (arith, b.within))
order_told (suc n) [] d p q = absurd (omega arith)
order_told (suc n) (x ∷ c) [] p q = absurd (omega arith)
order_told (suc n) (x ∷ c) (y ∷ d) p q =
    decided (nat_cmp x y) (slice_partial_cmp (as_partial_cmp nat_cmp) (take n c) (take n d)) (ranked x y (nat_cmp x y) refl)
    (order_told n c d (omega arith) (omega arith))

-- the library's comparison of two bytes tells whether a number stands there
pub number_told : (x : ℕ) (book : List ℕ) (at : ℕ) → x < 2 ^ 16 → at + 2 ≤ length book
    → Tells (bytes_eq (take (at + 2 - at) (drop at book)) (to_le_bytes w16 x)) (NumberAt x book at) (NumberAt x book at → ⊥)
number_told x book at h room =
    let two : at + 2 - at ≡ 2 = omega arith in
    let stands : take (at + 2 - at) (drop at book) ≡ get_or book at 0 ∷ get_or book (at + 1) 0 ∷ [] =
    ap (λ (k : ℕ). take k (drop at book)) two ∙ two_bytes book at room in
    let is = bytes_eq-Decides (take (at + 2 - at) (drop at book)) (to_le_bytes w16 x) in
    let low = le_bytes_two x h in (
      λ y. let e = sym stands ∙ is.0 y ∙ low in (ap (λ (l : List ℕ). get_or l 0 0) e, ap (λ (l : List ℕ). get_or l 1 0) e),
      λ y n. clash (is.1 (stands ∙ ap₂ (λ (a b : ℕ). a ∷ b ∷ []) n.0 n.1 ∙ sym low)) y,
    )
