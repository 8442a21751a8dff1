-- Tests of lists that compute, and what a passed test says: membership, no number twice, and a witness between two run tables.
use Rattle.std.specs.Prelude.{◌≡◌, Bool, true, false, not, ◌&&◌, ◌||◌, List, [], ◌∷◌, ℕ, ◌^◌, eqb, ltb, length, get_or}
use Rattle.std.proofs.Common.{ap, ◌∙◌, ⊎_elim, inl, inr, arith, eqb-true, eq-eqb, ltb-true}
use Rattle.std.proofs.lemmas.Bool.{false≢true, not-true}
use Rattle.std.specs.Int.Bits.{bit_xor}
use Rattle.gf2.specs.Lists.{image, of_image}
use Rattle.gf2.specs.Members.{In, Different}
use Rattle.gf2.specs.Places.{different_once}
use Rattle.gf2.specs.Truth.{and_both, or_cases, or_left, or_right, clash}
use Rattle.regular.specs.Comparisons.{Witness}
use Rattle.regular.specs.Runs.{Table, runs_of}
use Rattle.regular.specs.Same.{Renaming, sent}
use Rattle.whiteboard.specs.Tests.{every, passed, below, below_at}

-- x is a member
unfoldable pub among : ℕ → List ℕ → Bool
among x [] = false
among x (y ∷ ys) = eqb x y || among x ys

pub among_in : (x : ℕ) (ys : List ℕ) → among x ys ≡ true → In x ys
unfolding among
among_in x [] e = absurd (false≢true e)
among_in x (y ∷ ys) e = ⊎_elim (λ q. inl (eqb-true x y q)) (λ q. inr (among_in x ys q)) (or_cases (eqb x y) (among x ys) e)

pub in_among : (x : ℕ) (ys : List ℕ) → In x ys → among x ys ≡ true
unfolding among
in_among x [] m = absurd m
in_among x (y ∷ ys) (inl q) = or_left (eqb x y) (among x ys) (eq-eqb x y q)
in_among x (y ∷ ys) (inr m) = or_right (eqb x y) (among x ys) (in_among x ys m)

pub not_among : (x : ℕ) (ys : List ℕ) → among x ys ≡ false → In x ys → ⊥
not_among x ys e m = clash (in_among x ys m) e

-- every member passes
unfoldable pub all : (ℕ → Bool) → List ℕ → Bool
all t [] = true
all t (x ∷ xs) = t x && all t xs

pub all_at : (t : ℕ → Bool) (xs : List ℕ) → all t xs ≡ true → (x : ℕ) → In x xs → t x ≡ true
unfolding all
all_at t [] e x m = absurd m
all_at t (y ∷ ys) e x (inl q) = ap t q ∙ (and_both (t y) (all t ys) e).0
all_at t (y ∷ ys) e x (inr m) = all_at t ys (and_both (t y) (all t ys) e).1 x m

-- no number stands twice
unfoldable pub distinct : List ℕ → Bool
distinct [] = true
distinct (x ∷ xs) = not (among x xs) && distinct xs

pub distinct_different : (xs : List ℕ) → distinct xs ≡ true → Different xs
unfolding distinct
distinct_different [] e = tt
distinct_different (x ∷ xs) e =
    let b = and_both (not (among x xs)) (distinct xs) e in
    (not_among x xs (not-true (among x xs) b.0), distinct_different xs b.1)

-- n names, each below n and none twice
abbrev pub named : ℕ → List ℕ → List Bool
named n p = eqb (length p) n ∷ below (λ f. ltb (get_or p f 0) n) n ∷ distinct p ∷ []

pub named_renaming : (n : ℕ) (p : List ℕ) → every (named n p) ≡ true → Renaming n p
named_renaming n p e =
    let r = passed (named n p) e in
    let size = eqb-true (length p) n r.0 in
    record {
      within = λ f h. ltb-true (get_or p f 0) n (below_at (λ i. ltb (get_or p i 0) n) n r.1.0 f h);
      once = λ f g h l q. different_once p (distinct_different p r.1.1.0) f g (omega arith) (omega arith) q;
    }

-- a renaming and a mask that turn the runs t into the runs u
abbrev pub carried : ℕ → List ℕ → List ℕ → List ℕ → ℕ → List Bool
carried n t u p mask =
    every (named n p) ∷ ltb mask (2 ^ n) ∷ all (λ x. among (sent n p mask x) u) t ∷ all (λ y. among y (image (sent n p mask) t)) u ∷ []

pub carried_witness : (n : ℕ) (t u p : List ℕ) (mask : ℕ) → every (carried n t u p mask) ≡ true → Witness n (runs_of t) (runs_of u) p mask
carried_witness n t u p mask e =
    let r = passed (carried n t u p mask) e in
    record {
      count = eqb-true (length p) n (passed (named n p) r.0).0;
      carries = record {
        renaming = named_renaming n p r.0;
        within = ltb-true mask (2 ^ n) r.1.0;
        into = λ x m. among_in (sent n p mask x) u (all_at (λ z. among (sent n p mask z) u) t r.1.1.0 x m);
        onto = λ y m. of_image (sent n p mask) t y
            (among_in y (image (sent n p mask) t) (all_at (λ z. among z (image (sent n p mask) t)) u r.1.1.1.0 y m));
      };
    }

-- a regular run table
abbrev pub tabled : ℕ → ℕ → List ℕ → List Bool
tabled n m t =
    eqb (length t) (2 ^ m) ∷ all (λ x. ltb x (2 ^ n)) t ∷ distinct t ∷ all (λ x. all (λ y. all (λ z. among (bit_xor (bit_xor x y) z) t) t) t) t ∷ []

pub tabled_table : (n m : ℕ) (t : List ℕ) → every (tabled n m t) ≡ true → Table n m t
tabled_table n m t e =
    let r = passed (tabled n m t) e in
    record {
      count = eqb-true (length t) (2 ^ m) r.0;
      within = λ x i. ltb-true x (2 ^ n) (all_at (λ y. ltb y (2 ^ n)) t r.1.0 x i);
      different = distinct_different t r.1.1.0;
      regular = λ x y z i j k. among_in (bit_xor (bit_xor x y) z) t
          (all_at (λ w. among (bit_xor (bit_xor x y) w) t) t
          (all_at (λ v. all (λ w. among (bit_xor (bit_xor x v) w) t) t) t
          (all_at (λ u. all (λ v. all (λ w. among (bit_xor (bit_xor u v) w) t) t) t) t r.1.1.1.0 x i) y j) z k);
    }
