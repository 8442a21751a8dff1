-- Parts of a list of bytes: parts of one length one after another, a part cut in two, and the first n columns of a list.
use Rattle.std.specs.Prelude.{ℕ, zero, suc, ◌+◌, ◌*◌, ◌≤◌, ◌<◌, ◌≡◌, refl, List, [], ◌∷◌, ◌++◌, length, get_or, take, drop}
use Rattle.std.proofs.Common.{sym, ap, ap₂, ◌∙◌, zero-mul, suc-mul, mul-le-mul_right, arith}
use Rattle.std.proofs.Common.{length-drop, take-add, take-take, take_at, take_all, take-suc, drop_at, drop-drop}
use Rattle.std.proofs.Math.Logic.{by_cases}
use Rattle.std.proofs.Math.Decide.{ℕ_discrete}
use Rattle.std.proofs.lemmas.List.{take-append-le, drop-append-le}
use Rattle.gf2.specs.Lists.{list_to, to_at}
use Rattle.regular.specs.Book.{each}
use Rattle.regular.specs.Smallest.{Equal}
use Rattle.book.specs.EntryLaws.{each_length}

-- the parts of length e from a place on make up the bytes from there on
pub each_cut : (l : List ℕ) (from e k : ℕ) → each (λ i. take e (drop (from + i * e) l)) k ≡ take (k * e) (drop from l)
unfolding each
each_cut l from e zero = ap (λ (j : ℕ). take j (drop from l)) (sym (zero-mul e))
each_cut l from e (suc k) =
    ap₂ ◌++◌ (each_cut l from e k) (ap (take e) (sym (drop-drop (k * e) from l)))
    ∙ sym (take-add (k * e) e (drop from l))
    ∙ ap (λ (j : ℕ). take j (drop from l)) (sym (suc-mul k e))

-- part i of parts of length e stands at i * e
pub each_part : (F : ℕ → List ℕ) (e k : ℕ) → ((j : ℕ) → j < k → length (F j) ≡ e) → (i : ℕ) → i < k → take e (drop (i * e) (each F k)) ≡ F i
unfolding each
each_part F e zero same i h = absurd (omega arith)
each_part F e (suc k) same i h = by_cases (ℕ_discrete i k) last (λ ne. earlier (omega arith) ∙ each_part F e k (λ j p. same j (omega arith)) i (omega arith))
  where
    long : length (each F k) ≡ k * e
    long = each_length F e k (λ j l. same j (omega arith))

    last : i ≡ k → take e (drop (i * e) (each F k ++ F k)) ≡ F i
    last q =
        ap (take e) (drop_at (each F k) (F k) (i * e) (long ∙ ap (λ (j : ℕ). j * e) (sym q)))
        ∙ take_all e (F k) (omega (arith, same k (omega arith)))
        ∙ ap F (sym q)

    earlier : i < k → take e (drop (i * e) (each F k ++ F k)) ≡ take e (drop (i * e) (each F k))
    earlier l =
        let room : i * e + e ≤ k * e = omega (arith, mul-le-mul_right {m = suc i} {n = k} e l, suc-mul i e) in
        ap (take e) (drop-append-le (i * e) (each F k) (F k) (omega (arith, long, room)))
        ∙ take-append-le e (drop (i * e) (each F k)) (F k) (omega (arith, long, room, length-drop (i * e) (each F k)))

-- a part cut in two
module _ (l a b : List ℕ) (k j : ℕ) (long : length a ≡ k) (e : take (k + j) l ≡ a ++ b) where
  pub cut_left : take k l ≡ a
  cut_left = sym (take-take k (k + j) l (omega arith)) ∙ ap (take k) e ∙ take_at a b k long

  pub cut_right : take j (drop k l) ≡ b
  cut_right = sym (drop_at (take k l) (take j (drop k l)) k (ap length cut_left ∙ long)) ∙ ap (drop k) (sym (take-add k j l) ∙ e) ∙ drop_at a b k long

-- the first n columns, as a record has them
abbrev pub flat : ℕ → List ℕ → List ℕ
flat n c = each (λ f. get_or c f 0 ∷ []) n

flat_list : (n : ℕ) (c : List ℕ) → flat n c ≡ list_to (λ f. get_or c f 0) n
unfolding each list_to
flat_list zero c = refl
flat_list (suc n) c = ap (λ (l : List ℕ). l ++ (get_or c n 0 ∷ [])) (flat_list n c)

pub flat_at : (n : ℕ) (c : List ℕ) → Equal n (flat n c) c
flat_at n c f h = ap (λ (l : List ℕ). get_or l f 0) (flat_list n c) ∙ to_at (λ f. get_or c f 0) n f h

pub flat_take : (n : ℕ) (c : List ℕ) → n ≤ length c → flat n c ≡ take n c
unfolding each
flat_take zero c h = refl
flat_take (suc n) c h = ap (λ (l : List ℕ). l ++ (get_or c n 0 ∷ [])) (flat_take n c (omega arith)) ∙ sym (take-suc c n 0 h)

-- a list of n columns is its own
pub flat_own : (n : ℕ) (c : List ℕ) → length c ≡ n → flat n c ≡ c
flat_own n c e = flat_take n c (omega arith) ∙ take_all n c (omega arith)
