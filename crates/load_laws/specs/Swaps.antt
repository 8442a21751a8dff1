-- Swapping places: it takes a list of names along with the columns, keeps names a renaming, and leaves the places past those that are swapped. So the
-- names 0, 1, .., swapped alike, say of each place which one stood there before.
use Rattle.std.specs.Prelude.{◌≡◌, List, length, get_or, set}
use Rattle.std.proofs.Math.Path.{refl}
use Rattle.std.proofs.Common.{sym, ap, subst, ◌∙◌, mod-lt, arith, length-set, get_or-set_same, get_or-set_other}
use Rattle.std.proofs.Math.Logic.{by_cases}
use Prim.Native.Nat.{ℕ, zero, suc, ◌+◌, ◌-◌, ◌%◌, ◌≤◌, ◌<◌}
use Rattle.std.proofs.Math.Decide.{ℕ_discrete}
use Rattle.gf2.specs.Lists.{to_length, to_at}
use Rattle.regular.specs.Loads.{draw, swapped, swap}
use Rattle.regular.specs.Same.{Renaming}
use Rattle.isomorphism_laws.specs.Renamings.{kept, kept_renaming}

-- c has at each of the first n places what b has at the place that p names
abbrev pub Rearranged : ℕ → List ℕ → List ℕ → List ℕ → Type 0
Rearranged n b p c = (f : ℕ) → f < n → get_or c f 0 ≡ get_or b (get_or p f 0) 0

-- when i and j are swapped, what comes to place f was at place e
data Comes (i j : ℕ) : ℕ → ℕ → Type 0 where
  first : Comes i j j i
  second : (i ≡ j → ⊥) → Comes i j i j
  stays : (f : ℕ) → (f ≡ i → ⊥) → (f ≡ j → ⊥) → Comes i j f f

comes : (i j f : ℕ) → (e : ℕ) × Comes i j f e
comes i j f =
    by_cases (ℕ_discrete f j) (λ q. (i, subst (λ (k : ℕ). Comes i j k i) (sym q) Comes.first))
    (λ no-j. by_cases (ℕ_discrete f i)
    (λ q. (j, subst (λ (k : ℕ). Comes i j k j) (sym q) (Comes.second (λ z. no-j (q ∙ z)))))
    (λ no-i. (f, Comes.stays f no-i no-j)))

comes_within : (n i j f e : ℕ) → i < n → j < n → f < n → Comes i j f e → e < n
comes_within n i j f e a b h Comes.first = a
comes_within n i j f e a b h (Comes.second ne) = b
comes_within n i j f e a b h (Comes.stays _ x y) = h

comes_once : (i j f g d e : ℕ) → Comes i j f d → Comes i j g e → d ≡ e → f ≡ g
comes_once i j f g d e Comes.first Comes.first q = refl
comes_once i j f g d e Comes.first (Comes.second ne) q = sym q
comes_once i j f g d e Comes.first (Comes.stays _ x y) q = absurd (x (sym q))
comes_once i j f g d e (Comes.second ne) Comes.first q = sym q
comes_once i j f g d e (Comes.second ne) (Comes.second _) q = refl
comes_once i j f g d e (Comes.second ne) (Comes.stays _ x y) q = absurd (y (sym q))
comes_once i j f g d e (Comes.stays _ x y) Comes.first q = absurd (x q)
comes_once i j f g d e (Comes.stays _ x y) (Comes.second ne) q = absurd (y q)
comes_once i j f g d e (Comes.stays _ x y) (Comes.stays _ z w) q = q

swap_at : (c : List ℕ) (i j f e : ℕ) → i < length c → j < length c → Comes i j f e → get_or (swap c i j) f 0 ≡ get_or c e 0
swap_at c i j f e a b Comes.first = get_or-set_same (set c i (get_or c j 0)) j (get_or c i 0) 0 (omega (arith, length-set c i (get_or c j 0)))
swap_at c i j f e a b (Comes.second ne) = get_or-set_other (set c i (get_or c j 0)) j i (get_or c i 0) 0 ne ∙ get_or-set_same c i (get_or c j 0) 0 a
swap_at c i j f e a b (Comes.stays _ x y) = get_or-set_other (set c i (get_or c j 0)) j f (get_or c i 0) 0 y ∙ get_or-set_other c i f (get_or c j 0) 0 x

pub swap_length : (c : List ℕ) (i j : ℕ) → length (swap c i j) ≡ length c
swap_length c i j = length-set (set c i (get_or c j 0)) j (get_or c i 0) ∙ length-set c i (get_or c j 0)

module _ (n i j : ℕ) (hi : i < n) (hj : j < n) where
  swap_rearranged : (b p c : List ℕ) → n ≤ length p → n ≤ length c → Rearranged n b p c → Rearranged n b (swap p i j) (swap c i j)
  swap_rearranged b p c lp lc k f h =
      let o = comes i j f in
      swap_at c i j f o.0 (omega arith) (omega arith) o.1 ∙ k o.0 (comes_within n i j f o.0 hi hj h o.1)
      ∙ ap (λ (e : ℕ). get_or b e 0) (sym (swap_at p i j f o.0 (omega arith) (omega arith) o.1))

  swap_renaming : (p : List ℕ) → n ≤ length p → Renaming n p → Renaming n (swap p i j)
  swap_renaming p l r = record { within = within; once = once }
    where
      at : (f : ℕ) → get_or (swap p i j) f 0 ≡ get_or p (comes i j f).0 0
      at f = swap_at p i j f (comes i j f).0 (omega arith) (omega arith) (comes i j f).1

      inside : (f : ℕ) → f < n → (comes i j f).0 < n
      inside f h = comes_within n i j f (comes i j f).0 hi hj h (comes i j f).1

      within : (f : ℕ) → f < n → get_or (swap p i j) f 0 < n
      within f h = subst (λ (x : ℕ). x < n) (sym (at f)) (r.within (comes i j f).0 (inside f h))

      once : (f g : ℕ) → f < n → g < n → get_or (swap p i j) f 0 ≡ get_or (swap p i j) g 0 → f ≡ g
      once f g h k e =
          comes_once i j f g (comes i j f).0 (comes i j g).0 (comes i j f).1 (comes i j g).1
          (r.once (comes i j f).0 (comes i j g).0 (inside f h) (inside g k) (sym (at f) ∙ e ∙ at g))

  swap_past : (c : List ℕ) (f : ℕ) → n ≤ f → get_or (swap c i j) f 0 ≡ get_or c f 0
  swap_past c f h =
      get_or-set_other (set c i (get_or c j 0)) j f (get_or c i 0) 0 (λ e. omega arith) ∙ get_or-set_other c i f (get_or c j 0) 0 (λ e. omega arith)

-- the place that a draw gives for place i + 1
drawn_within : (n seed i k : ℕ) → suc i < n → draw seed k % (suc i + 1) < n
drawn_within n seed i k h = let small : draw seed k % (suc i + 1) < suc i + 1 = mod-lt (draw seed k) (omega arith) in omega arith

module _ (n seed : ℕ) where
  swapped_rearranged : (i k : ℕ) (b p c : List ℕ) → i < n → n ≤ length p → n ≤ length c → Rearranged n b p c
      → Rearranged n b (swapped seed i k p) (swapped seed i k c)
  unfolding swapped
  swapped_rearranged zero k b p c h lp lc q = q
  swapped_rearranged (suc i) k b p c h lp lc q =
      let j = draw seed k % (suc i + 1) in
      swapped_rearranged i (suc k) b (swap p (suc i) j) (swap c (suc i) j) (omega arith) (omega (arith, swap_length p (suc i) j))
      (omega (arith, swap_length c (suc i) j)) (swap_rearranged n (suc i) j h (drawn_within n seed i k h) b p c lp lc q)

  swapped_renaming : (i k : ℕ) (p : List ℕ) → i < n → n ≤ length p → Renaming n p → Renaming n (swapped seed i k p)
  unfolding swapped
  swapped_renaming zero k p h l r = r
  swapped_renaming (suc i) k p h l r =
      let j = draw seed k % (suc i + 1) in
      swapped_renaming i (suc k) (swap p (suc i) j) (omega arith) (omega (arith, swap_length p (suc i) j))
      (swap_renaming n (suc i) j h (drawn_within n seed i k h) p l r)

  pub swapped_past : (i k : ℕ) (c : List ℕ) → i < n → (f : ℕ) → n ≤ f → get_or (swapped seed i k c) f 0 ≡ get_or c f 0
  unfolding swapped
  swapped_past zero k c h f l = refl
  swapped_past (suc i) k c h f l =
      let j = draw seed k % (suc i + 1) in
      swapped_past i (suc k) (swap c (suc i) j) (omega arith) f l ∙ swap_past n (suc i) j h (drawn_within n seed i k h) c f l

  -- the names 0 to n - 1, swapped alike
  abbrev pub names_before : ℕ → List ℕ
  names_before k = swapped seed (n - 1) k (kept n)

  pub before_renaming : (k : ℕ) → 0 < n → Renaming n (names_before k)
  before_renaming k h = swapped_renaming (n - 1) k (kept n) (omega arith) (omega (arith, to_length (λ f. f) n)) (kept_renaming n)

  pub before_rearranged : (k : ℕ) (c : List ℕ) → 0 < n → n ≤ length c → Rearranged n c (names_before k) (swapped seed (n - 1) k c)
  before_rearranged k c h l =
      swapped_rearranged (n - 1) k c (kept n) c (omega arith) (omega (arith, to_length (λ f. f) n)) l
      (λ f b. ap (λ (e : ℕ). get_or c e 0) (sym (to_at (λ e. e) n f b)))
