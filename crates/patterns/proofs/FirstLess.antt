-- The order of lists of numbers, which `<` on slices answers, and the first length where two patterns differ. Assumes nothing.
use Rattle.std.specs.Prelude.{◌≡◌, refl, Bool, true, false, List, [], ◌∷◌, Some, ℕ, zero, suc, ◌+◌, ◌-◌, ◌≤◌, ◌<◌, eqb, ltb, cond, length, get_or}
use Rattle.std.specs.Prelude.{max, take, drop}
use Rattle.std.proofs.Common.{sym, ap, subst, ◌∙◌, arith, eq-eqb, ne_eqb, length-drop, length-take-le, get_or-take, get_or-drop}
use Rattle.std.proofs.Math.Logic.{by_cases}
use Rattle.std.proofs.Math.Decide.{ℕ_discrete}
use Rattle.std.proofs.lemmas.Bool.Decides.{nat_tests}
use borrow.Author.Tests.{ltb-true, ltb-false}
use Rattle.std.specs.Ordering.{nat_cmp, is_lt, is_some_and}
use Rattle.std.specs.Cmp.Lexicographic.{slice_partial_cmp}
use Rattle.std.proofs.lemmas.Cmp.{same_from_slice_cmp_tested}
use Rattle.gf2.specs.Answers.{Tells, tells_no}
use Rattle.regular.specs.Pattern.{Better, of_length}

-- the order of lists of one length is that of the first place where they differ
abbrev pub below : List ℕ → List ℕ → Bool
below [] [] = false
below [] (y ∷ ys) = true
below (x ∷ xs) [] = false
below (x ∷ xs) (y ∷ ys) = cond (eqb x y) (below xs ys) (ltb x y)

pub is_below : (xs ys : List ℕ) (r : Bool) → r ≡ is_some_and is_lt (slice_partial_cmp (λ x y. Some (nat_cmp x y)) xs ys) → r ≡ below xs ys
is_below = same_from_slice_cmp_tested nat_cmp is_lt below refl (λ _ _. refl) (λ _ _. refl) (λ x y xs ys o h. grind (arith, nat_tests))

pub record Less (xs ys : List ℕ) : Type 0 where
  pub at : ℕ
  pub within : at < length xs
  pub before : (k : ℕ) → k < at → get_or xs k 0 ≡ get_or ys k 0
  pub less : get_or xs at 0 < get_or ys at 0

less_here : (x y : ℕ) (xs ys : List ℕ) → x < y → Less (x ∷ xs) (y ∷ ys)
less_here x y xs ys h = record { at = 0; within = omega arith; before = λ k l. absurd (omega arith); less = h }

later : (x y : ℕ) (xs ys : List ℕ) → x ≡ y → (a : ℕ) → ((k : ℕ) → k < a → get_or xs k 0 ≡ get_or ys k 0) → (k : ℕ) → k < suc a
    → get_or (x ∷ xs) k 0 ≡ get_or (y ∷ ys) k 0
later x y xs ys e a same zero h = e
later x y xs ys e a same (suc k) h = same k (omega arith)

less_later : (x y : ℕ) (xs ys : List ℕ) → x ≡ y → Less xs ys → Less (x ∷ xs) (y ∷ ys)
less_later x y xs ys e l =
    record { at = suc l.at; within = omega (arith, l.within); before = later x y xs ys e l.at l.before; less = l.less }

less_same : (x y : ℕ) (xs ys : List ℕ) → x ≡ y → Less (x ∷ xs) (y ∷ ys) → Less xs ys
less_same x y xs ys e l = go l.at l.within l.before l.less
  where
    go : (a : ℕ) → a < length (x ∷ xs) → ((k : ℕ) → k < a → get_or (x ∷ xs) k 0 ≡ get_or (y ∷ ys) k 0)
        → get_or (x ∷ xs) a 0 < get_or (y ∷ ys) a 0 → Less xs ys
    go zero w b h = absurd (omega (arith, e, h))
    go (suc a) w b h = record { at = a; within = omega (arith, w); before = λ k l. b (suc k) (omega arith); less = h }

below_less : (xs ys : List ℕ) → length xs ≡ length ys → Tells (below xs ys) (Less xs ys) (Less xs ys → ⊥)
below_less [] [] e = tells_no _ _ (λ l. absurd (omega (arith, l.within)))
below_less [] (y ∷ ys) e = absurd (omega (arith, e))
below_less (x ∷ xs) [] e = absurd (omega (arith, e))
below_less (x ∷ xs) (y ∷ ys) e =
    by_cases (ℕ_discrete x y)
    (λ q.
    let t = below_less xs ys (omega (arith, e)) in
    rw (eq-eqb x y q) ((λ r. less_later x y xs ys q (t.0 r)), (λ r l. t.1 r (less_same x y xs ys q l))))
    (λ ne. rw (ne_eqb x y ne) ((λ r. less_here x y xs ys (ltb-true x y r)), (λ r l. first_more x y xs ys ne (ltb-false x y r) l)))
  where
    first_more : (x y : ℕ) (xs ys : List ℕ) → (x ≡ y → ⊥) → y ≤ x → Less (x ∷ xs) (y ∷ ys) → ⊥
    first_more x y xs ys ne more l = by_cases (ℕ_discrete l.at 0)
        (λ z. omega (arith, subst (λ (k : ℕ). get_or (x ∷ xs) k 0 < get_or (y ∷ ys) k 0) z l.less))
        (λ nz. ne (l.before 0 (omega arith)))

-- a pattern from the third length on
abbrev pub tail_to : ℕ → List ℕ → List ℕ
tail_to end p = take (end - 2) (drop 2 p)

tail_at : (end : ℕ) (p : List ℕ) (k : ℕ) → k < end - 2 → get_or (tail_to end p) k 0 ≡ of_length p (k + 3)
tail_at end p k h = get_or-take (end - 2) (drop 2 p) k 0 h ∙ get_or-drop 2 p k 0 ∙ ap (λ (j : ℕ). get_or p j 0) (omega arith)

tail_size : (end : ℕ) (p : List ℕ) → end ≤ length p → length (tail_to end p) ≡ end - 2
tail_size end p h = length-take-le (end - 2) (drop 2 p) (omega (arith, length-drop 2 p))

module _ (last end : ℕ) (p q : List ℕ) (e : end ≡ max last 2) (hp : end ≤ length p) (hq : end ≤ length q) where
  less_better : Less (tail_to end p) (tail_to end q) → Better last p q
  less_better l =
      let w : l.at < end - 2 = omega (arith, l.within, tail_size end p hp) in
      record {
        at = l.at + 3;
        from = omega arith;
        to = omega (arith, w, e);
        before = λ k a b.
            let z : k - 3 < end - 2 = omega (arith, w) in
            let same : (k - 3) + 3 ≡ k = omega arith in
            subst (λ (j : ℕ). of_length p j ≡ of_length q j) same
            (sym (tail_at end p (k - 3) z) ∙ l.before (k - 3) (omega arith) ∙ tail_at end q (k - 3) z);
        fewer = omega (arith, l.less, tail_at end p l.at w, tail_at end q l.at w);
      }

  better_less : Better last p q → Less (tail_to end p) (tail_to end q)
  better_less b =
      let w : b.at - 3 < end - 2 = omega (arith, b.from, b.to, e) in
      let same : (b.at - 3) + 3 ≡ b.at = omega (arith, b.from) in
      record {
        at = b.at - 3;
        within = omega (arith, w, tail_size end p hp);
        before = λ k l.
            let z : k < end - 2 = omega (arith, w) in
            tail_at end p k z ∙ b.before (k + 3) (omega arith) (omega (arith, b.from)) ∙ sym (tail_at end q k z);
        less = omega (
          arith,
          tail_at end p (b.at - 3) w,
          tail_at end q (b.at - 3) w,
          subst (λ (j : ℕ). of_length p j < of_length q j) (sym same) b.fewer,
        );
      }

  pub better_tells : (r : Bool) → r ≡ below (tail_to end p) (tail_to end q) → Tells r (Better last p q) (Better last p q → ⊥)
  better_tells r h =
      let t = below_less (tail_to end p) (tail_to end q) (omega (arith, tail_size end p hp, tail_size end q hq)) in
      (λ y. less_better (t.0 (sym h ∙ y)), λ y b. t.1 (sym h ∙ y) (better_less b))
