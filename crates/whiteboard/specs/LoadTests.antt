-- Tests of a load that compute, and what a passed test says: the first unused column, the columns before swapping, the load.
use Rattle.std.specs.Prelude.{◌≡◌, Bool, true, false, not, ◌&&◌, ◌||◌, List, [], ◌∷◌, leb, length, get_or}
use Rattle.std.proofs.Common.{sym, arith, eqb-true, leb-true}
use Rattle.std.proofs.Math.Path.{subst}
use Rattle.std.proofs.lemmas.Bool.{false≢true, not-true}
use Rattle.std.proofs.Math.Logic.{⊎_elim}
use Prim.Native.Nat.{ℕ, zero, suc, ◌+◌, ◌-◌, ◌%◌, ◌^◌}
use Rattle.std.proofs.Math.Dec.{eqb}
use Rattle.gf2.specs.Lists.{list_to, in_to, of_to}
use Rattle.gf2.specs.Members.{In}
use Rattle.gf2.specs.Truth.{and_both, or_cases, clash}
use Rattle.regular.specs.Columns.{Column}
use Rattle.regular.specs.Loads.{draw, upward, FirstUnused, Unswapped, swapped, Load}
use Rattle.whiteboard.specs.ListTests.{among, among_in, in_among}
use Rattle.whiteboard.specs.Tests.{every, passed, below, below_at, agree, agree_at}

-- v is one of the first f columns
abbrev pub used_before : ℕ → List ℕ → ℕ → Bool
used_before f c v = among v (list_to (λ e. get_or c e 0) f)

used_column : (f : ℕ) (c : List ℕ) (v : ℕ) → used_before f c v ≡ true → Column f c v
used_column f c v e =
    let o = of_to (λ i. get_or c i 0) f v (among_in v (list_to (λ i. get_or c i 0) f) e) in
    (o.0, (o.1.0, sym o.1.1))

column_used : (f : ℕ) (c : List ℕ) (v : ℕ) → Column f c v → used_before f c v ≡ true
column_used f c v k =
    in_among v (list_to (λ i. get_or c i 0) f)
    (subst (λ (x : ℕ). In x (list_to (λ i. get_or c i 0) f)) k.1.1 (in_to (λ i. get_or c i 0) f k.0 k.1.0))

-- y is column x or, if that is used, the next unused column upward, fewer than k steps away
unfoldable pub first_unused : ℕ → (ℕ → Bool) → ℕ → ℕ → ℕ → Bool
first_unused last used zero x y = false
first_unused last used (suc k) x y = (used x && first_unused last used k (upward last x) y) || (not (used x) && eqb x y)

module _ (last f : ℕ) (c : List ℕ) where
  pub first_passed : (k x y : ℕ) → first_unused last (used_before f c) k x y ≡ true → FirstUnused last (Column f c) x y
  unfolding first_unused
  first_passed zero x y e = absurd (false≢true e)
  first_passed (suc k) x y e =
      let used = used_before f c x in
      let more = first_unused last (used_before f c) k (upward last x) y in
      ⊎_elim
      (λ p. let b = and_both used more p in FirstUnused.next x y (used_column f c x b.0) (first_passed k (upward last x) y b.1))
      (λ p.
      let b = and_both (not used) (eqb x y) p in
      subst (FirstUnused last (Column f c) x) (eqb-true x y b.1) (FirstUnused.itself x (λ h. clash (column_used f c x h) (not-true used b.0))))
      (or_cases (used && more) (not used && eqb x y) e)

-- column f is what its draw gives; after 2^m steps a search has passed every column
abbrev pub drawn_at : ℕ → ℕ → List ℕ → ℕ → Bool
drawn_at m seed c f = first_unused (2 ^ m - 1) (used_before f c) (2 ^ m) (draw seed (f - m) % (2 ^ m - 1) + 1) (get_or c f 0)

-- the columns before swapping
abbrev pub unswapped : ℕ → ℕ → ℕ → List ℕ → List Bool
unswapped n m seed c = leb n (length c) ∷ agree (λ f. get_or c f 0) (λ f. 2 ^ f) m ∷ below (λ i. drawn_at m seed c (m + i)) (n - m) ∷ []

pub unswapped_passed : (n m seed : ℕ) (c : List ℕ) → every (unswapped n m seed c) ≡ true → Unswapped n m seed c
unswapped_passed n m seed c e =
    let r = passed (unswapped n m seed c) e in
    record {
      places = leb-true n (length c) r.0;
      basic = agree_at (λ f. get_or c f 0) (λ f. 2 ^ f) m r.1.0;
      later = λ f l h. let q : m + (f - m) ≡ f = omega arith in
          first_passed (2 ^ m - 1) f c (2 ^ m) (draw seed (f - m) % (2 ^ m - 1) + 1) (get_or c f 0)
          (subst (λ (i : ℕ). drawn_at m seed c i ≡ true) q (below_at (λ i. drawn_at m seed c (m + i)) (n - m) r.1.1.0 (f - m) (omega arith)));
    }

-- the load, by the columns before swapping
abbrev pub loaded : ℕ → ℕ → ℕ → List ℕ → List ℕ → List Bool
loaded n g seed before c =
    every (unswapped n (n - g) seed before) ∷ agree (λ f. get_or c f 0) (λ f. get_or (swapped seed (n - 1) g before) f 0) n ∷ []

pub loaded_passed : (n g seed : ℕ) (before c : List ℕ) → every (loaded n g seed before c) ≡ true → Load n g seed c
loaded_passed n g seed before c e =
    let r = passed (loaded n g seed before c) e in
    record {
      before = before;
      unswapped = unswapped_passed n (n - g) seed before r.0;
      swaps = agree_at (λ f. get_or c f 0) (λ f. get_or (swapped seed (n - 1) g before) f 0) n r.1.0;
    }
