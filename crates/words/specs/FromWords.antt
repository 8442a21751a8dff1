-- The columns read off the pivot words are the standard columns of the plan that the words generate.
use Rattle.std.specs.Prelude.{◌≡◌, Bool, true, false, List, [], ◌∷◌, eqb, length, get_or}
use Rattle.std.proofs.Math.Path.{refl, sym}
use Rattle.std.proofs.Common.{ap, ap₂, ◌∙◌, subst, inl, ⊎_elim, mod-lt, mod-eq_of_lt, one-add, arith, pow_pos, length-append}
use Rattle.std.proofs.Math.Logic.{by_cases}
use Prim.Native.Nat.{ℕ, zero, suc, ◌+◌, ◌-◌, ◌*◌, ◌/◌, ◌%◌, ◌^◌, ◌≤◌, ◌<◌}
use Rattle.std.proofs.Math.Decide.{ℕ_discrete}
use borrow.Author.Tests.{eqb-true, eqb-false, eq-eqb, ne_eqb}
use Rattle.std.specs.Int.Bits.{bit_xor, xor_self, xor_shifted}
use Rattle.std.proofs.Math.Pow.{pow-lt, split}
use Rattle.std.proofs.lemmas.Nat.{mod-pow-add}
use Rattle.std.proofs.Math.ListN.{get_or-append}
use Rattle.std.proofs.lemmas.List.{get_or_at}
use Rattle.gf2.specs.Digits.{bit, odd, pick}
use Rattle.gf2.specs.Parity.{odd_lin_l, odd_lt, odd_zero_l, odd_shift, odd_mod, odd_zero_r}
use Rattle.regular.specs.Columns.{run_of}
use Rattle.regular.specs.Words.{total, Generated}
use Rattle.standard.specs.Basics.{ColumnFits, fits_keep, fits_fresh}
use Rattle.standard.specs.FromTable.{run_is}
use Rattle.standard.specs.Coordinates.{coord_lt}
use Rattle.standard.specs.Model.{coord_of, choose}
use Rattle.standard.specs.Form.{units_before, StandardForm, StandardFor}
use Rattle.standard.specs.Runs.{run_lt, total_lt, odd_total}
use Rattle.standard.specs.Total.{InSpan, total_cols, total_low, total_none, total_next, total_more}
use Rattle.words.specs.Model.{free_before, free_at, word_columns, Pivots}
use Rattle.words.specs.Pivots.{last_bit, last_lt, Lasts}

-- the columns as a list
wc_length : (piv : List ℕ) (n : ℕ) → length (word_columns piv n) ≡ n
unfolding word_columns
wc_length piv zero = refl
wc_length piv (suc n) = length-append (word_columns piv n) _ ∙ omega (arith, wc_length piv n)

wc_keep : (piv : List ℕ) (n g : ℕ) → g < n → get_or (word_columns piv (suc n)) g 0 ≡ get_or (word_columns piv n) g 0
unfolding word_columns
wc_keep piv n g h = get_or-append (word_columns piv n) _ 0 g (omega (arith, wc_length piv n))

wc_prefix : (piv : List ℕ) (k d g : ℕ) → g < k → get_or (word_columns piv (d + k)) g 0 ≡ get_or (word_columns piv k) g 0
wc_prefix piv k zero g h = let e : 0 + k ≡ k = omega arith in ap (λ (n : ℕ). get_or (word_columns piv n) g 0) e
wc_prefix piv k (suc d) g h =
    let e : suc d + k ≡ suc (d + k) = omega arith in
    ap (λ (n : ℕ). get_or (word_columns piv n) g 0) e ∙ wc_keep piv (d + k) g (omega arith) ∙ wc_prefix piv k d g h

wc_same : (piv : List ℕ) (k n g : ℕ) → k ≤ n → g < k → get_or (word_columns piv n) g 0 ≡ get_or (word_columns piv k) g 0
wc_same piv k n g h l = let e : n ≡ (n - k) + k = omega arith in ap (λ (i : ℕ). get_or (word_columns piv i) g 0) e ∙ wc_prefix piv k (n - k) g l

wc_last : (piv : List ℕ) (f : ℕ)
    → get_or (word_columns piv (suc f)) f 0 ≡ pick (eqb (get_or piv f 0) 0) (2 ^ free_before piv f) (total (word_columns piv f) f (get_or piv f 0))
unfolding word_columns
wc_last piv f = get_or_at (word_columns piv f) _ [] 0 f (wc_length piv f)

free_start : (piv : List ℕ) → free_before piv 0 ≡ 0
unfolding free_before
free_start piv = refl

pub free_length : (piv : List ℕ) (n : ℕ) → length (free_at piv n) ≡ free_before piv n
unfolding free_at free_before
free_length piv zero = refl
free_length piv (suc n) = go (eqb (get_or piv n 0) 0) (free_length piv n)
  where
    go : (t : Bool) → length (free_at piv n) ≡ free_before piv n → length (choose t (n ∷ free_at piv n) (free_at piv n)) ≡ free_before piv n + pick t 1 0
    go true e = omega arith
    go false e = omega arith

module _ (n : ℕ) (piv : List ℕ) (lasts : Lasts n piv) where
  abbrev a : List ℕ
  a = word_columns piv n

  col_at : (f : ℕ) → f < n → get_or a f 0 ≡ pick (eqb (get_or piv f 0) 0) (2 ^ free_before piv f) (total a f (get_or piv f 0))
  col_at f h =
      wc_same piv (suc f) n f h (omega arith) ∙ wc_last piv f
      ∙ ap (pick (eqb (get_or piv f 0) 0) (2 ^ free_before piv f))
      (sym (total_cols a (word_columns piv f) f (get_or piv f 0) (λ i l. wc_same piv f n i (omega arith) l)))

  col_free : (f : ℕ) → f < n → get_or piv f 0 ≡ 0 → get_or a f 0 ≡ 2 ^ free_before piv f
  col_free f h e = col_at f h ∙ ap (λ (t : Bool). pick t (2 ^ free_before piv f) (total a f (get_or piv f 0))) (eq-eqb (get_or piv f 0) 0 e)

  col_pivot : (f : ℕ) → f < n → (get_or piv f 0 ≡ 0 → ⊥) → get_or a f 0 ≡ total a f (get_or piv f 0)
  col_pivot f h e = col_at f h ∙ ap (λ (t : Bool). pick t (2 ^ free_before piv f) (total a f (get_or piv f 0))) (ne_eqb (get_or piv f 0) 0 e)

  free_next : (f : ℕ) → get_or piv f 0 ≡ 0 → free_before piv (suc f) ≡ free_before piv f + 1
  unfolding free_before
  free_next f e = rw (eq-eqb (get_or piv f 0) 0 e)

  free_stay : (f : ℕ) → (get_or piv f 0 ≡ 0 → ⊥) → free_before piv (suc f) ≡ free_before piv f
  unfolding free_before
  free_stay f e = rw (ne_eqb (get_or piv f 0) 0 e) (omega arith)

  col_lt : (f g : ℕ) → f ≤ n → g < f → get_or a g 0 < 2 ^ free_before piv f
  col_lt zero g h l = absurd (omega arith)
  col_lt (suc f) g h l =
      by_cases (ℕ_discrete (get_or piv f 0) 0)
      (λ z.
      let m : 2 ^ free_before piv f < 2 ^ free_before piv (suc f) = pow-lt {i = free_before piv f} {j = free_before piv (suc f)}
      (omega (arith, free_next f z)) in
      by_cases (ℕ_discrete g f)
      (λ e. omega (arith, ap (λ (i : ℕ). get_or a i 0) e, col_free f h z))
      (λ ne. omega (arith, col_lt f g (omega arith) (omega arith))))
      (λ z.
      let m = ap (λ (k : ℕ). 2 ^ k) (free_stay f z) in
      by_cases (ℕ_discrete g f)
      (λ e. omega (
        arith,
        ap (λ (i : ℕ). get_or a i 0) e,
        col_pivot f h z,
        total_lt a f (free_before piv f) (get_or piv f 0)
            (λ i k. col_lt f i (omega arith) k),
      ))
      (λ ne. omega (arith, col_lt f g (omega arith) (omega arith))))

  pivot_lt : (f : ℕ) → f < n → (get_or piv f 0 ≡ 0 → ⊥) → get_or a f 0 < 2 ^ free_before piv f
  pivot_lt f h z = omega (arith, col_pivot f h z, total_lt a f (free_before piv f) (get_or piv f 0) (λ i k. col_lt f i (omega arith) k))

  units_is : (f : ℕ) → f ≤ n → units_before a f ≡ free_before piv f
  unfolding units_before
  units_is zero h = sym (free_start piv)
  units_is (suc f) h =
      let e = units_is f (omega arith) in
      by_cases (ℕ_discrete (get_or piv f 0) 0)
      (λ z. rw (e, eq-eqb (get_or a f 0) (2 ^ free_before piv f) (col_free f h z)) (sym (free_next f z)))
      (λ z. rw (e, ne_eqb (get_or a f 0) (2 ^ free_before piv f) (λ q. omega (arith, pivot_lt f h z))) (omega (arith, free_stay f z)))

  words_form : StandardForm n (free_before piv n) a
  words_form =
      record {
        next = λ f h. rw (units_is f (omega arith))
            (by_cases (ℕ_discrete (get_or piv f 0) 0) (λ z. omega (arith, col_free f h z)) (λ z. omega (arith, pivot_lt f h z)));
        units = units_is n (omega arith);
      }

  -- a pivot word's columns cancel
  pivot_cancels : (f : ℕ) → f < n → total a n (get_or piv f 0) ≡ 0
  pivot_cancels f h =
      by_cases (ℕ_discrete (get_or piv f 0) 0)
      (λ z. ap (total a n) z ∙ total_none a n)
      (λ z.
      let x = get_or piv f 0 in
      let q : x / 2 ^ f ≡ 1 = ⊎_elim (λ e. absurd (z e)) (λ e. e) (lasts f h) in
      let s = x % 2 ^ f in
      let sl : s < 2 ^ f = mod-lt x (pow_pos f) in
      let e : x ≡ 1 * 2 ^ f + s = sym (split x f) ∙ ap (λ (d : ℕ). d * 2 ^ f + s) q in
      let o : get_or a f 0 * 1 ≡ get_or a f 0 = omega arith in
      total_more a (suc f) n x h (last_lt f x q) ∙ ap (total a (suc f)) e ∙ total_next a f 1 s (omega arith) sl
      ∙ ap (bit_xor (total a f s)) (o ∙ col_pivot f h z ∙ ap (total a f) e ∙ total_low a f 1 s sl) ∙ xor_self (total a f s))

  -- every pivot word is even in a run of the columns
  run_even : (j f : ℕ) → f < n → odd (run_of a n j) (get_or piv f 0) ≡ 0
  run_even j f h = sym (odd_total a n j (get_or piv f 0)) ∙ ap (odd j) (pivot_cancels f h) ∙ odd_zero_r j

  -- a run in which every pivot word is even: its levels are those of the columns
  module _ (x : ℕ) (even : (f : ℕ) → f < n → odd x (get_or piv f 0) ≡ 0) where
    abbrev one : List ℕ
    one = x ∷ []

    pivot_level : (f : ℕ) → f < n → (get_or piv f 0 ≡ 0 → ⊥) → bit f x ≡ odd (x % 2 ^ f) (get_or piv f 0)
    pivot_level f h z =
        let w = get_or piv f 0 in
        let q : w / 2 ^ f ≡ 1 = ⊎_elim (λ e. absurd (z e)) (λ e. e) (lasts f h) in
        let r = x % 2 ^ f in
        let e : x % 2 ^ suc f ≡ bit f x * 2 ^ f + r = ap (λ (i : ℕ). x % 2 ^ i) (sym (one-add f)) ∙ mod-pow-add x 1 f in
        let p : 0 ≡ (bit f x + odd r w) % 2 =
        sym (even f h) ∙ odd_mod (suc f) x w (last_lt f w q) ∙ ap (λ (y : ℕ). odd y w) (e ∙ sym (xor_shifted (bit f x) f r (mod-lt x (pow_pos f))))
        ∙ odd_lin_l (bit f x * 2 ^ f) r w
        ∙ ap (λ (y : ℕ). (y + odd r w) % 2) (odd_shift f (bit f x) w (omega arith) ∙ omega (arith, last_bit f w q)) in
        omega (arith, odd_lt r w)

    fits_at : (f : ℕ) (t : Bool) → f < n → eqb (get_or piv f 0) 0 ≡ t → ((g : ℕ) → g < f → ColumnFits (free_at piv f) one g (get_or a g 0))
        → (g : ℕ) → g < suc f → ColumnFits (choose t (f ∷ free_at piv f) (free_at piv f)) one g (get_or a g 0)
    fits_at f true h e ih g l =
        let z = eqb-true (get_or piv f 0) 0 e in
        let le = free_length piv f in
        by_cases (ℕ_discrete g f)
        (λ s. rw s (subst (λ (k : ℕ). ColumnFits (f ∷ free_at piv f) one f k) (ap (λ (k : ℕ). 2 ^ k) le ∙ sym (col_free f h z))
        (fits_fresh (free_at piv f) one f)))
        (λ ne. fits_keep (free_at piv f) one f g (get_or a g 0) (subst (λ (k : ℕ). get_or a g 0 < 2 ^ k) (sym le) (col_lt f g (omega arith) (omega arith)))
        (ih g (omega arith)))
    fits_at f false h e ih g l =
        let z = eqb-false (get_or piv f 0) 0 e in
        by_cases (ℕ_discrete g f)
        (λ s. rw s (λ y m.
        let p : y ≡ x = ⊎_elim (λ e. e) (λ b. absurd b) m in
        let c = coord_of (free_at piv f) x in
        let run : x % 2 ^ f ≡ run_of a f c = run_is a c x f (λ i k. ih i k x (inl refl)) in
        subst (λ (v : ℕ). bit f v ≡ odd (coord_of (free_at piv f) v) (get_or a f 0)) (sym p)
        (pivot_level f h z ∙ ap (λ (r : ℕ). odd r (get_or piv f 0)) run ∙ sym (odd_total a f c (get_or piv f 0)) ∙ ap (odd c) (sym (col_pivot f h z)))))
        (λ ne. ih g (omega arith))

    fits_all_lem : (f : ℕ) → f ≤ n → (g : ℕ) → g < f → ColumnFits (free_at piv f) one g (get_or a g 0)
    unfolding free_at
    fits_all_lem zero h g l = absurd (omega arith)
    fits_all_lem (suc f) h g l = fits_at f (eqb (get_or piv f 0) 0) h refl (fits_all_lem f (omega arith)) g l

    pub run_of_free : x < 2 ^ n → x ≡ run_of a n (coord_of (free_at piv n) x)
    run_of_free hx =
        sym (mod-eq_of_lt hx) ∙ run_is a (coord_of (free_at piv n) x) x n (λ g l. fits_all_lem n (omega arith) g l x (inl refl))

-- a list of words that are all even in x has only even sums
pub run_none : (ws : List ℕ) (k x : ℕ) → ((i : ℕ) → i < k → odd x (get_or ws i 0) ≡ 0) → run_of ws k x ≡ 0
unfolding run_of
run_none ws zero x h = refl
run_none ws (suc k) x h = ap₂ (λ (r d : ℕ). r + d * 2 ^ k) (run_none ws k x (λ i l. h i (omega arith))) (h k (omega arith)) ∙ omega arith

span_even : (ws : List ℕ) (k x y : ℕ) → ((i : ℕ) → i < k → odd x (get_or ws i 0) ≡ 0) → InSpan ws k y → odd x y ≡ 0
span_even ws k x y h p =
    ap (odd x) (sym p.1.1) ∙ odd_total ws k x p.0 ∙ ap (λ (r : ℕ). odd r p.0) (run_none ws k x h) ∙ odd_zero_l p.0

-- the theorem
pub pivots_words : (n g : ℕ) (ws piv : List ℕ) → g ≤ n → Pivots n g ws piv → StandardFor n (n - g) (Generated n g ws) (word_columns piv n)
pivots_words n g ws piv hg P =
    let m = n - g in
    let a = word_columns piv n in
    let e : free_before piv n ≡ m = omega (arith, P.count) in
    record {
      form = subst (λ (k : ℕ). StandardForm n k a) e (words_form n piv P.last);
      plan = record {
        into = λ x q.
            let even : (f : ℕ) → f < n → odd x (get_or piv f 0) ≡ 0 = λ f l. span_even ws g x (get_or piv f 0) q.even (P.from f l) in
            let c = coord_of (free_at piv n) x in
            (c, (subst (λ (k : ℕ). c < 2 ^ k) (free_length piv n ∙ e) (coord_lt (free_at piv n) x), run_of_free n piv P.last x even q.within));
        onto = λ x q.
            subst (λ (y : ℕ). Generated n g ws y) (sym q.1.1)
            (record {
              within = run_lt a n q.0;
              even = λ i l. span_even piv n (run_of a n q.0) (get_or ws i 0) (run_even n piv P.last q.0) (P.back i l);
            });
      };
    }

-- the column of factor f from those before it
pub wc_at : (n : ℕ) (piv : List ℕ) (f : ℕ) → f < n
    → get_or (word_columns piv n) f 0 ≡ pick (eqb (get_or piv f 0) 0) (2 ^ free_before piv f) (total (word_columns piv n) f (get_or piv f 0))
wc_at n piv f h =
    wc_same piv (suc f) n f h (omega arith) ∙ wc_last piv f
    ∙ ap (pick (eqb (get_or piv f 0) 0) (2 ^ free_before piv f))
    (sym (total_cols (word_columns piv n) (word_columns piv f) f (get_or piv f 0) (λ i l. wc_same piv f n i (omega arith) l)))
