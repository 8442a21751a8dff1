-- A regular run table has standard columns: the model gives them.
use Rattle.std.specs.Prelude.{◌≡◌, refl, List, [], ◌∷◌, length, get_or}
use Rattle.std.proofs.Common.{sym, ap, ◌∙◌, subst, inl, one-add, arith, pow_pos}
use Prim.Native.Nat.{ℕ, zero, suc, ◌+◌, ◌*◌, ◌%◌, ◌^◌, ◌<◌}
use Rattle.std.specs.Int.Bits.{bit_xor, xor_self}
use Rattle.std.proofs.lemmas.Nat.{xor_lt, xor_comm, mod-pow-add}
use Rattle.gf2.specs.DigitLaws.{xor_assoc, xor_back, xor_move, xor_cancel}
use Rattle.gf2.specs.Digits.{bit, odd}
use Rattle.gf2.specs.Lists.{image_length, in_image, of_image, image_different, to_at}
use Rattle.gf2.specs.Members.{In, Different}
use Rattle.regular.specs.Columns.{run_of}
use Rattle.regular.specs.Runs.{Table}
use Rattle.standard.specs.Model.{diffs, column_at, columns_to}

pub columns_at_lem : (u : List ℕ) (n f : ℕ) → f < n → get_or (columns_to u n) f 0 ≡ column_at u f
columns_at_lem u n f h = to_at (column_at u) n f h

-- a run is what its levels say
pub run_is : (a : List ℕ) (j x n : ℕ) → ((g : ℕ) → g < n → bit g x ≡ odd j (get_or a g 0)) → x % 2 ^ n ≡ run_of a n j
unfolding run_of
run_is a j x zero h = omega arith
run_is a j x (suc n) h =
    let e : x % 2 ^ suc n ≡ bit n x * 2 ^ n + x % 2 ^ n = ap (λ (i : ℕ). x % 2 ^ i) (sym (one-add n)) ∙ mod-pow-add x 1 n in
    let p : x % 2 ^ n ≡ run_of a n j = run_is a j x n (λ g l. h g (omega arith)) in
    let q : bit n x * 2 ^ n ≡ odd j (get_or a n 0) * 2 ^ n = ap (λ (d : ℕ). d * 2 ^ n) (h n (omega arith)) in
    e ∙ omega arith

-- a set of runs, closed under exclusive-or
pub record Space (n : ℕ) (u : List ℕ) : Type 0 where
  pub zero_in : In 0 u
  pub closed : (x y : ℕ) → In x u → In y u → In (bit_xor x y) u
  pub within : (x : ℕ) → In x u → x < 2 ^ n
  pub different : Different u

-- a regular table less its first run
first_in : (t : List ℕ) → 0 < length t → In (get_or t 0 0) t
first_in [] h = absurd (omega arith)
first_in (x ∷ t) h = inl refl

module _ (n m : ℕ) (t : List ℕ) (tab : Table n m t) where
  pub head_in : In (get_or t 0 0) t
  head_in = first_in t (omega (arith, tab.count, pow_pos m))

  -- a difference and the first run make a run
  pub back_in : (y : ℕ) → In y (diffs t) → In (bit_xor y (get_or t 0 0)) t
  back_in y i =
      let r = get_or t 0 0 in
      let o = of_image (λ (x : ℕ). bit_xor x r) t y i in
      subst (λ (z : ℕ). In z t) (xor_move o.0 r y (sym o.1.1)) o.1.0

  pub diff_in : (y : ℕ) → In (bit_xor y (get_or t 0 0)) t → In y (diffs t)
  diff_in y i =
      let r = get_or t 0 0 in
      subst (λ (z : ℕ). In z (diffs t)) (xor_back y r) (in_image (λ (x : ℕ). bit_xor x r) t (bit_xor y r) i)

  pub table_space : Space n (diffs t)
  table_space =
      let r = get_or t 0 0 in
      record {
        zero_in = subst (λ (z : ℕ). In z (diffs t)) (xor_self r) (in_image (λ (x : ℕ). bit_xor x r) t r head_in);
        closed = λ x y p q. diff_in (bit_xor x y)
            (subst (λ (z : ℕ). In z t)
            (ap (λ (w : ℕ). bit_xor w r) (xor_assoc x r (bit_xor y r)
            ∙ ap (bit_xor x) (ap (bit_xor r) (xor_comm y r) ∙ sym (xor_assoc r r y) ∙ ap (λ (w : ℕ). bit_xor w y) (xor_self r))))
            (tab.regular (bit_xor x r) (bit_xor y r) r (back_in x p) (back_in y q) head_in));
        within = λ x p. subst (λ (z : ℕ). z < 2 ^ n) (xor_back x r) (xor_lt n (bit_xor x r) r (tab.within (bit_xor x r) (back_in x p)) (tab.within r head_in));
        different = image_different (λ (x : ℕ). bit_xor x r) t tab.different (λ x y p q. xor_cancel x y r);
      }

  pub diffs_count : length (diffs t) ≡ 2 ^ m
  diffs_count = image_length (λ (x : ℕ). bit_xor x (get_or t 0 0)) t ∙ tab.count
