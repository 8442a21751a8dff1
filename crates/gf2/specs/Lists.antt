-- Lists of numbers: the numbers below k, images, lists made by a function; what lies in them; counting by injections.
use Rattle.std.specs.Prelude.{◌≡◌, refl, ◌⊎◌, List, [], ◌∷◌, ◌++◌, ℕ, zero, suc, ◌<◌, ◌≤◌, length, get_or}
use Rattle.std.proofs.Common.{sym, ap, ◌∙◌, subst, inl, inr, ⊎_elim, arith, length-append}
use Rattle.std.proofs.Math.Logic.{by_cases}
use Rattle.std.proofs.Math.Decide.{ℕ_discrete, dec_le}
use Rattle.std.proofs.Math.ListN.{get_or-append}
use Rattle.std.proofs.lemmas.List.{get_or_at}
use Rattle.gf2.specs.Members.{In, Different, pigeon}

-- the numbers below k, the last first
abbrev pub upto : ℕ → List ℕ
upto zero = []
upto (suc k) = k ∷ upto k

-- g of each
abbrev pub image : (ℕ → ℕ) → List ℕ → List ℕ
image g [] = []
image g (x ∷ xs) = g x ∷ image g xs

-- g 0, g 1, .., g (n - 1)
unfoldable pub list_to : (ℕ → ℕ) → ℕ → List ℕ
list_to g zero = []
list_to g (suc n) = list_to g n ++ (g n ∷ [])

-- different numbers, all of them in ys, are no more than ys
pub fewer : (xs ys : List ℕ) → Different xs → ((z : ℕ) → In z xs → In z ys) → length xs ≤ length ys
fewer [] ys d sub = omega arith
fewer (x ∷ xs) ys d sub =
    by_cases (dec_le (suc (length xs)) (length ys)) (λ h. h)
    (λ h. absurd (d.0 (pigeon xs ys d.1 (λ z m. sub z (inr m)) (omega arith) x (sub x (inl refl)))))

pub upto_lt : (k x : ℕ) → In x (upto k) → x < k
upto_lt zero x m = absurd m
upto_lt (suc k) x (inl e) = omega arith
upto_lt (suc k) x (inr m) = omega (arith, upto_lt k x m)

pub upto_in : (k x : ℕ) → x < k → In x (upto k)
upto_in zero x h = absurd (omega arith)
upto_in (suc k) x h = by_cases (ℕ_discrete x k) (λ e. inl e) (λ ne. inr (upto_in k x (omega arith)))

pub upto_length : (k : ℕ) → length (upto k) ≡ k
upto_length zero = refl
upto_length (suc k) = ap suc (upto_length k)

pub upto_different : (k : ℕ) → Different (upto k)
upto_different zero = tt
upto_different (suc k) = ((λ m. omega (arith, upto_lt k k m)), upto_different k)

-- images
pub image_length : (g : ℕ → ℕ) (xs : List ℕ) → length (image g xs) ≡ length xs
image_length g [] = refl
image_length g (x ∷ xs) = ap suc (image_length g xs)

pub in_image : (g : ℕ → ℕ) (xs : List ℕ) (x : ℕ) → In x xs → In (g x) (image g xs)
in_image g [] x m = m
in_image g (y ∷ ys) x (inl e) = inl (ap g e)
in_image g (y ∷ ys) x (inr m) = inr (in_image g ys x m)

pub of_image : (g : ℕ → ℕ) (xs : List ℕ) (y : ℕ) → In y (image g xs) → (x : ℕ) × (In x xs × (y ≡ g x))
of_image g [] y m = absurd m
of_image g (x ∷ xs) y (inl e) = (x, (inl refl, e))
of_image g (x ∷ xs) y (inr m) = let r = of_image g xs y m in (r.0, (inr r.1.0, r.1.1))

pub image_different : (g : ℕ → ℕ) (xs : List ℕ) → Different xs → ((x y : ℕ) → In x xs → In y xs → g x ≡ g y → x ≡ y) → Different (image g xs)
image_different g [] d inj = tt
image_different g (x ∷ xs) d inj = (
  (λ m. let r = of_image g xs (g x) m in
      d.0 (subst (λ (z : ℕ). In z xs) (sym (inj x r.0 (inl refl) (inr r.1.0) r.1.1)) r.1.0)),
  image_different g xs d.1 (λ y z p q e. inj y z (inr p) (inr q) e),
)

-- one of two for each number: a member with the first, or the second for all
pub some_or_all : (A B : ℕ → Type 0) (xs : List ℕ) → ((x : ℕ) → A x ⊎ B x) → ((x : ℕ) × (In x xs × A x)) ⊎ ((x : ℕ) → In x xs → B x)
some_or_all A B [] d = inr (λ x m. absurd m)
some_or_all A B (y ∷ ys) d =
    ⊎_elim (λ a. inl (y, (inl refl, a)))
    (λ b. ⊎_elim (λ r. inl (r.0, (inr r.1.0, r.1.1)))
    (λ h. inr (λ x m. ⊎_elim (λ e. subst B (sym e) b) (λ k. h x k) m))
    (some_or_all A B ys d))
    (d y)

-- g 0, g 1, .., g (n - 1)
pub to_length : (g : ℕ → ℕ) (n : ℕ) → length (list_to g n) ≡ n
unfolding list_to
to_length g zero = refl
to_length g (suc n) = length-append (list_to g n) (g n ∷ []) ∙ omega (arith, to_length g n)

pub to_at : (g : ℕ → ℕ) (n f : ℕ) → f < n → get_or (list_to g n) f 0 ≡ g f
unfolding list_to
to_at g zero f h = absurd (omega arith)
to_at g (suc n) f h =
    by_cases (ℕ_discrete f n)
    (λ e. rw e (get_or_at (list_to g n) (g n) [] 0 n (to_length g n)))
    (λ ne. get_or-append (list_to g n) (g n ∷ []) 0 f (omega (arith, to_length g n)) ∙ to_at g n f (omega arith))

in_left : (x : ℕ) (xs ys : List ℕ) → In x xs → In x (xs ++ ys)
in_left x [] ys m = absurd m
in_left x (z ∷ xs) ys (inl e) = inl e
in_left x (z ∷ xs) ys (inr m) = inr (in_left x xs ys m)

pub in_right : (x : ℕ) (xs ys : List ℕ) → In x ys → In x (xs ++ ys)
in_right x [] ys m = m
in_right x (z ∷ xs) ys m = inr (in_right x xs ys m)

in_either : (x : ℕ) (xs ys : List ℕ) → In x (xs ++ ys) → In x xs ⊎ In x ys
in_either x [] ys m = inr m
in_either x (z ∷ xs) ys (inl e) = inl (inl e)
in_either x (z ∷ xs) ys (inr m) = ⊎_elim (λ a. inl (inr a)) (λ b. inr b) (in_either x xs ys m)

pub in_to : (g : ℕ → ℕ) (n i : ℕ) → i < n → In (g i) (list_to g n)
unfolding list_to
in_to g zero i h = absurd (omega arith)
in_to g (suc n) i h =
    by_cases (ℕ_discrete i n)
    (λ e. in_right (g i) (list_to g n) (g n ∷ []) (inl (ap g e)))
    (λ ne. in_left (g i) (list_to g n) (g n ∷ []) (in_to g n i (omega arith)))

pub of_to : (g : ℕ → ℕ) (n x : ℕ) → In x (list_to g n) → (i : ℕ) × ((i < n) × (x ≡ g i))
unfolding list_to
of_to g zero x m = absurd m
of_to g (suc n) x m =
    ⊎_elim
    (λ a. let r = of_to g n x a in (r.0, (omega (arith, r.1.0), r.1.1)))
    (λ b. (n, (omega arith, ⊎_elim (λ e. e) (λ z. absurd z) b)))
    (in_either x (list_to g n) (g n ∷ []) m)

different_snoc : (xs : List ℕ) (y : ℕ) → Different xs → (In y xs → ⊥) → Different (xs ++ (y ∷ []))
different_snoc [] y d ne = ((λ m. m), tt)
different_snoc (x ∷ xs) y d ne = (
  (λ m. ⊎_elim (λ a. d.0 a) (λ b. ⊎_elim (λ e. ne (inl (sym e))) (λ z. absurd z) b) (in_either x xs (y ∷ []) m)),
  different_snoc xs y d.1 (λ m. ne (inr m)),
)

pub to_different : (g : ℕ → ℕ) (n : ℕ) → ((i j : ℕ) → i < n → j < n → g i ≡ g j → i ≡ j) → Different (list_to g n)
unfolding list_to
to_different g zero inj = tt
to_different g (suc n) inj =
    different_snoc (list_to g n) (g n) (to_different g n (λ i j p q e. inj i j (omega arith) (omega arith) e))
    (λ m. let r = of_to g n (g n) m in absurd (omega (arith, r.1.0, inj n r.0 (omega arith) (omega (arith, r.1.0)) r.1.1)))

-- a one-to-one function of the numbers below n into them is onto
pub onto_range : (F : ℕ → ℕ) (n : ℕ) → ((k : ℕ) → k < n → F k < n) → ((j k : ℕ) → j < n → k < n → F j ≡ F k → j ≡ k)
    → (y : ℕ) → y < n → (k : ℕ) × ((k < n) × (F k ≡ y))
onto_range F n below once y h =
    let r = of_to F n y (pigeon (list_to F n) (upto n) (to_different F n once)
    (λ z m. let o = of_to F n z m in upto_in n z (subst (λ (i : ℕ). i < n) (sym o.1.1) (below o.0 o.1.0)))
    (omega (arith, to_length F n, upto_length n)) y (upto_in n y h)) in
    (r.0, (r.1.0, sym r.1.1))
