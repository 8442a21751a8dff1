-- Reading a line that gives a size: a digit, a number of one or two digits, and the three numbers of a size.
use mathlib.Core.Path.{◌≡◌, refl, sym, subst}
use mathlib.Core.Bool.{Bool, true, false}
use mathlib.Core.List.{List, [], ◌∷◌}
use Prim.Native.Nat.{ℕ, zero, suc, ◌+◌, ◌*◌, ◌≤◌, ◌<◌}
use native.Mathlib.Nat.{not-suc-le-zero, le_of_suc-le-suc}
use lib.ListN.{length, get_or}
use native.Mathlib.Omega.{arith}
use Rattle.gf2.specs.Truth.{clash}
use Rattle.size_lines.specs.Lines.{Digit, Number, one, two, SizeLine, DigitIs, SpaceIs, NumberPart, Parsed}

past : (l : List ℕ) (p : ℕ) → length l ≤ p → get_or l p 0 ≡ 0
past [] p h = refl
past (x ∷ xs) zero h = absurd (not-suc-le-zero h)
past (x ∷ xs) (suc p) h = past xs p (le_of_suc-le-suc h)

pub digit_past : (l : List ℕ) (p : ℕ) → length l ≤ p → DigitIs l p 10
digit_past l p h =
    record {
      high = omega arith;
      some = λ z. absurd (omega (arith, z));
      none = λ _ x d. let z = past l p h in let b = d.byte in omega (arith, z, b);
    }

pub space_past : (l : List ℕ) (p : ℕ) → length l ≤ p → SpaceIs l p false
space_past l p h =
    record {
      some = λ e. absurd (clash e refl);
      none = λ _ b. let z = past l p h in omega (arith, z, b);
    }

pub space_is : (l : List ℕ) (p : ℕ) → get_or l p 0 ≡ 32 → SpaceIs l p true
space_is l p h =
    record {
      some = λ _. h;
      none = λ e. absurd (clash refl e);
    }

pub space_not : (l : List ℕ) (p : ℕ) → (get_or l p 0 ≡ 32 → ⊥) → SpaceIs l p false
space_not l p h =
    record {
      some = λ e. absurd (clash e refl);
      none = λ _. h;
    }

-- no digit at p: no number from p on
no_number : {l : List ℕ} {p d w q : ℕ} → DigitIs l p d → 9 < d → Number l p w q → ⊥
no_number D h (one x X) = D.none h x X
no_number D h (two x y X Y) = D.none h x X

pub no_digit : (l : List ℕ) (p d : ℕ) → DigitIs l p d → 9 < d → NumberPart l p 0 p
no_digit l p d D h =
    record {
      low = omega arith;
      high = omega arith;
      some = λ z. absurd (omega (arith, z));
      only = λ w q k _. absurd (no_number D h k);
    }

same : {l : List ℕ} {p d x : ℕ} → DigitIs l p d → d < 10 → Digit l p x → x ≡ d
same D h X = let a = D.some h in let b = X.byte in omega (arith, a, b)

is : {l : List ℕ} {p d : ℕ} → DigitIs l p d → d < 10 → Digit l p d
is D h = record { low = h; byte = D.some h }

only_one : {l : List ℕ} {p d e : ℕ} → DigitIs l p d → d < 10 → DigitIs l (p + 1) e → 9 < e → (w q : ℕ) → Number l p w q
    → (p < p + 1) × (w ≡ d) × (q ≡ p + 1)
only_one D h E k w q (one x X) = (omega arith, same D h X, refl)
only_one D h E k w q (two x y X Y) = absurd (E.none k y Y)

pub one_digit : (l : List ℕ) (p d e : ℕ) → DigitIs l p d → d < 10 → DigitIs l (p + 1) e → 9 < e → NumberPart l p d (p + 1)
one_digit l p d e D h E k =
    record {
      low = omega arith;
      high = omega arith;
      some = λ _. one d (is D h);
      only = λ w q s _. only_one D h E k w q s;
    }

only_two : {l : List ℕ} {p d e : ℕ} → DigitIs l p d → d < 10 → DigitIs l (p + 1) e → e < 10 → (w q : ℕ) → Number l p w q
    → ((x : ℕ) → Digit l q x → ⊥) → (p < p + 2) × (w ≡ 10 * d + e) × (q ≡ p + 2)
only_two {e = e} D h E k w q (one x X) n = absurd (n e (is E k))
only_two D h E k w q (two x y X Y) n = let a = same D h X in let b = same E k Y in (omega arith, omega (arith, a, b), refl)

pub two_digits : (l : List ℕ) (p d e : ℕ) → DigitIs l p d → d < 10 → DigitIs l (p + 1) e → e < 10 → NumberPart l p (10 * d + e) (p + 2)
two_digits l p d e D h E k =
    record {
      low = omega arith;
      high = omega arith;
      some = λ _. two d e (is D h) (is E k);
      only = λ w q s n. only_two D h E k w q s n;
    }

-- the numbers of a size are those that the reader finds
not_a_digit : {l : List ℕ} {q : ℕ} → get_or l q 0 ≡ 32 → (x : ℕ) → Digit l q x → ⊥
not_a_digit h x d = let b = d.byte in omega (arith, h, b)

at_1 : {l : List ℕ} {x y z v e : ℕ} → NumberPart l 0 v e → (s : SizeLine l x y z) → (0 < e) × (x ≡ v) × (s.a ≡ e)
at_1 P s = P.only _ _ s.first (not_a_digit s.space1)

at_2 : {l : List ℕ} {x y z v e f : ℕ} → NumberPart l (e + 1) v f → (s : SizeLine l x y z) → s.a ≡ e → (e + 1 < f) × (y ≡ v) × (s.b ≡ f)
at_2 {l = l} {y = y} P s h = P.only _ _ (subst (λ (k : ℕ). Number l (k + 1) y s.b) h s.second) (not_a_digit s.space2)

at_3 : {l : List ℕ} {x y z v f k : ℕ} → NumberPart l (f + 1) v k → (s : SizeLine l x y z) → s.b ≡ f → (f + 1 < k) × (z ≡ v) × (length l ≡ k)
at_3 {l = l} {z = z} P s h =
    P.only _ _ (subst (λ (k : ℕ). Number l (k + 1) z (length l)) h s.third)
    (λ x d. let o = past l (length l) (omega arith) in let b = d.byte in omega (arith, o, b))

-- a line without a size
abbrev None : List ℕ → Type 0
None l = (x y z : ℕ) → SizeLine l x y z → ⊥

-- where the reader stops
pub no_1 : (l : List ℕ) (v e : ℕ) → NumberPart l 0 v e → e ≡ 0 → None l
no_1 l v e P h x y z s = let a = (at_1 P s).0 in omega (arith, a, h)

pub no_2 : (l : List ℕ) (v e : ℕ) → NumberPart l 0 v e → {b : Bool} → SpaceIs l e b → b ≡ false → None l
no_2 l v e P S h x y z s = S.none h (subst (λ (k : ℕ). get_or l k 0 ≡ 32) (at_1 P s).2 s.space1)

pub no_3 : (l : List ℕ) (v e w f : ℕ) → NumberPart l 0 v e → NumberPart l (e + 1) w f → f ≡ e + 1 → None l
no_3 l v e w f P Q h x y z s = let a = (at_2 Q s (at_1 P s).2).0 in omega (arith, a, h)

pub no_4 : (l : List ℕ) (v e w f : ℕ) → NumberPart l 0 v e → NumberPart l (e + 1) w f → {b : Bool} → SpaceIs l f b → b ≡ false → None l
no_4 l v e w f P Q S h x y z s = S.none h (subst (λ (k : ℕ). get_or l k 0 ≡ 32) (at_2 Q s (at_1 P s).2).2 s.space2)

pub no_5 : (l : List ℕ) (v e w f u k : ℕ) → NumberPart l 0 v e → NumberPart l (e + 1) w f → NumberPart l (f + 1) u k → k ≡ f + 1 → None l
no_5 l v e w f u k P Q R h x y z s = let a = (at_3 R s (at_2 Q s (at_1 P s).2).2).0 in omega (arith, a, h)

pub no_6 : (l : List ℕ) (v e w f u k : ℕ) → NumberPart l 0 v e → NumberPart l (e + 1) w f → NumberPart l (f + 1) u k → (k ≡ length l → ⊥) → None l
no_6 l v e w f u k P Q R h x y z s = h (sym (at_3 R s (at_2 Q s (at_1 P s).2).2).2)

-- all three are there
pub gives : (l : List ℕ) (v e w f u k : ℕ) → NumberPart l 0 v e → NumberPart l (e + 1) w f → NumberPart l (f + 1) u k → 0 < e → e + 1 < f → f + 1 < k
    → get_or l e 0 ≡ 32 → get_or l f 0 ≡ 32 → k ≡ length l → Parsed l true v w u
gives l v e w f u k P Q R h i j S T z =
    record {
      size =
          λ _.
          record {
            a = e;
            b = f;
            first = P.some h;
            space1 = S;
            second = Q.some i;
            space2 = T;
            third = subst (Number l (f + 1) u) z (R.some j);
          };
      none = λ t. absurd (clash refl t);
      zeros = λ t. absurd (clash refl t);
    }
