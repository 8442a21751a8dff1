-- From standard columns to the reduced words: factor f that is not basic has the word of f and the basics in its column.
use Rattle.std.specs.Prelude.{◌≡◌, Bool, List, eqb, get_or}
use Rattle.std.proofs.Math.Path.{refl}
use Rattle.std.proofs.Common.{sym, ap, ◌∙◌, subst, inl, inr, mod-lt, mod-eq_of_lt, one-add, arith, pow_pos, pow_mono}
use Rattle.std.proofs.Math.Logic.{by_cases}
use Prim.Native.Nat.{ℕ, zero, suc, ◌+◌, ◌-◌, ◌*◌, ◌/◌, ◌%◌, ◌^◌, ◌≤◌, ◌<◌}
use Rattle.std.proofs.Math.Decide.{ℕ_discrete}
use borrow.Author.Tests.{eq-eqb, ne_eqb}
use Rattle.std.specs.Int.Bits.{bit_xor, xor_shifted, xor_self}
use Rattle.std.proofs.Math.Arith.{digits_div}
use Rattle.std.proofs.Math.Pow.{pow-lt, split}
use Rattle.gf2.specs.DigitLaws.{xor_none}
use Rattle.gf2.specs.Digits.{pick}
use Rattle.gf2.specs.Lists.{list_to, to_at}
use Rattle.regular.specs.Columns.{plan_of}
use Rattle.regular.specs.Words.{total, Word, Generated}
use Rattle.standard.specs.Coordinates.{coord_lt}
use Rattle.standard.specs.Model.{coord_of}
use Rattle.standard.specs.Form.{units_before, StandardForm}
use Rattle.standard.specs.Plans.{word_cancels, cancels_word}
use Rattle.standard.specs.Units.{spread, spread_lt, units_mono, units_next, standard_below, units_at, unitary, total_spread, based_lt}
use Rattle.standard.specs.Runs.{total_lt, run_cols}
use Rattle.standard.specs.Total.{total_cols, total_low, total_next, total_more}
use Rattle.words.specs.FromWords.{wc_at, free_length, run_of_free}
use Rattle.words.specs.Model.{free_before, free_at, word_columns}
use Rattle.words.specs.Pivots.{Lasts, last_lt}

-- the word of factor f
abbrev pub word_at : List ℕ → ℕ → ℕ
word_at a f = bit_xor (1 * 2 ^ f) (spread (units_at a f) (get_or a f 0))

-- the reduced words by rising last letter, 0 at the basic factors
abbrev pub words_of : List ℕ → ℕ → List ℕ
words_of a n = list_to (λ f. pick (eqb (get_or a f 0) (2 ^ units_before a f)) 0 (word_at a f)) n

-- the word of f has the last letter f
rest_lt : (a : List ℕ) (f : ℕ) → spread (units_at a f) (get_or a f 0) < 2 ^ f
rest_lt a f = spread_lt (units_at a f) f (based_lt a f (units_at a f) (unitary a f).based) (get_or a f 0)

word_sum : (a : List ℕ) (f : ℕ) → word_at a f ≡ 1 * 2 ^ f + spread (units_at a f) (get_or a f 0)
word_sum a f = xor_shifted 1 f (spread (units_at a f) (get_or a f 0)) (rest_lt a f)

pub word_last : (a : List ℕ) (f : ℕ) → word_at a f / 2 ^ f ≡ 1
word_last a f = ap (λ (x : ℕ). x / 2 ^ f) (word_sum a f) ∙ digits_div 1 {m = 2 ^ f} {r = spread (units_at a f) (get_or a f 0)} (rest_lt a f)

module _ (n m : ℕ) (a : List ℕ) (s : StandardForm n m a) where
  abbrev piv : List ℕ
  piv = words_of a n

  piv_basic : (f : ℕ) → f < n → get_or a f 0 ≡ 2 ^ units_before a f → get_or piv f 0 ≡ 0
  piv_basic f h e =
      to_at (λ g. pick (eqb (get_or a g 0) (2 ^ units_before a g)) 0 (word_at a g)) n f h
      ∙ ap (λ (t : Bool). pick t 0 (word_at a f)) (eq-eqb (get_or a f 0) (2 ^ units_before a f) e)

  piv_word : (f : ℕ) → f < n → (get_or a f 0 ≡ 2 ^ units_before a f → ⊥) → get_or piv f 0 ≡ word_at a f
  piv_word f h e =
      to_at (λ g. pick (eqb (get_or a g 0) (2 ^ units_before a g)) 0 (word_at a g)) n f h
      ∙ ap (λ (t : Bool). pick t 0 (word_at a f)) (ne_eqb (get_or a f 0) (2 ^ units_before a f) e)

  word_some : (f : ℕ) → word_at a f ≡ 0 → ⊥
  word_some f e = omega (arith, word_sum a f, pow_pos f)

  words_lasts : Lasts n piv
  words_lasts f h =
      by_cases (ℕ_discrete (get_or a f 0) (2 ^ units_before a f))
      (λ e. inl (piv_basic f h e))
      (λ ne. inr (ap (λ (x : ℕ). x / 2 ^ f) (piv_word f h ne) ∙ word_last a f))

  free_units : (f : ℕ) → f ≤ n → free_before piv f ≡ units_before a f
  unfolding free_before units_before
  free_units zero h = refl
  free_units (suc f) h =
      let e = free_units f (omega arith) in
      by_cases (ℕ_discrete (get_or a f 0) (2 ^ units_before a f))
      (λ q. rw (e, eq-eqb (get_or piv f 0) 0 (piv_basic f h q), eq-eqb (get_or a f 0) (2 ^ units_before a f) q))
      (λ q. rw (e, ne_eqb (get_or piv f 0) 0 (λ z. word_some f (sym (piv_word f h q) ∙ z)), ne_eqb (get_or a f 0) (2 ^ units_before a f) q))

  word_total : (f : ℕ) → get_or a f 0 < 2 ^ units_before a f → total a f (word_at a f) ≡ get_or a f 0
  word_total f h =
      let u = unitary a f in
      ap (total a f) (word_sum a f) ∙ total_low a f 1 (spread (units_at a f) (get_or a f 0)) (rest_lt a f)
      ∙ total_spread a f (units_at a f) (get_or a f 0) u.based
      ∙ mod-eq_of_lt (subst (λ (k : ℕ). get_or a f 0 < 2 ^ k) (sym u.count) h)

  same_to : (f : ℕ) → f ≤ n → (g : ℕ) → g < f → get_or (word_columns piv n) g 0 ≡ get_or a g 0
  same_to zero h g l = absurd (omega arith)
  same_to (suc f) h g l =
      let ih : (i : ℕ) → i < f → get_or (word_columns piv n) i 0 ≡ get_or a i 0 = same_to f (omega arith) in
      let c = word_columns piv n in
      let here : get_or c f 0 ≡ get_or a f 0 = by_cases (ℕ_discrete (get_or a f 0) (2 ^ units_before a f))
      (λ q. wc_at n piv f h ∙ ap (λ (t : Bool). pick t (2 ^ free_before piv f) (total c f (get_or piv f 0))) (eq-eqb (get_or piv f 0) 0 (piv_basic f h q))
      ∙ ap (λ (k : ℕ). 2 ^ k) (free_units f (omega arith)) ∙ sym q)
      (λ q. wc_at n piv f h
      ∙ ap (λ (t : Bool). pick t (2 ^ free_before piv f) (total c f (get_or piv f 0)))
      (ne_eqb (get_or piv f 0) 0 (λ z. word_some f (sym (piv_word f h q) ∙ z)))
      ∙ ap (total c f) (piv_word f h q) ∙ total_cols c a f (word_at a f) ih ∙ word_total f (omega (arith, s.next f h))) in
      by_cases (ℕ_discrete g f) (λ e. rw e here) (λ ne. ih g (omega arith))

  -- words and back: the same standard columns
  columns_words_columns : (f : ℕ) → f < n → get_or (word_columns (words_of a n) n) f 0 ≡ get_or a f 0
  columns_words_columns f h = same_to n (omega arith) f h

  -- a run that meets every word evenly is one of the plan
  pub words_into : (x : ℕ) → Generated n n (words_of a n) x → plan_of n m a x
  words_into x q =
      let c = coord_of (free_at piv n) x in (
        c,
        (
          subst (λ (k : ℕ). c < 2 ^ k) (free_length piv n ∙ free_units n (omega arith) ∙ s.units) (coord_lt (free_at piv n) x),
          run_of_free n piv words_lasts x q.even q.within ∙ run_cols (word_columns piv n) a n c columns_words_columns,
        ),
      )

-- a basic factor is the last letter of no word; any other is the last letter of its word
module _ (n m : ℕ) (a : List ℕ) (s : StandardForm n m a) (f : ℕ) (h : f < n) where
  below_at : (g : ℕ) → g < f → get_or a g 0 < 2 ^ units_before a f
  below_at g l =
      let e : (f - suc g) + suc g ≡ f = omega arith in
      let k : units_before a (suc g) ≤ units_before a f = omega (arith, units_mono a (suc g) (f - suc g), ap (units_before a) e) in
      let j : units_before a g ≤ units_before a (suc g) = omega (arith, units_mono a g 1, ap (units_before a) (one-add g)) in
      by_cases (ℕ_discrete (get_or a g 0) (2 ^ units_before a g))
      (λ q. omega (arith, pow-lt {i = units_before a g} {j = units_before a f} (omega (arith, units_next a g q))))
      (λ q. omega (arith, s.next g (omega arith), pow_mono {i = units_before a g} {j = units_before a f} (omega arith)))

  -- the columns of a set with last letter f
  last_total : (w : ℕ) → w / 2 ^ f ≡ 1 → total a n w ≡ bit_xor (total a f (w % 2 ^ f)) (get_or a f 0)
  last_total w q =
      let r = w % 2 ^ f in
      let e : w ≡ 1 * 2 ^ f + r = sym (split w f) ∙ ap (λ (d : ℕ). d * 2 ^ f + r) q in
      let o : get_or a f 0 * 1 ≡ get_or a f 0 = omega arith in
      total_more a (suc f) n w h (last_lt f w q) ∙ ap (total a (suc f)) e ∙ total_next a f 1 r (omega arith) (mod-lt w (pow_pos f))
      ∙ ap (bit_xor (total a f r)) o

  pub basic_last_of_none : get_or a f 0 ≡ 2 ^ units_before a f → (w : ℕ) → Word n (plan_of n m a) w → w / 2 ^ f ≡ 1 → ⊥
  basic_last_of_none e w word q =
      let A = total a f (w % 2 ^ f) in
      let z : bit_xor A (get_or a f 0) ≡ 0 = sym (last_total w q) ∙ word_cancels n m a (standard_below n m a s) w word in
      let p : get_or a f 0 ≡ A = sym (xor_none A (get_or a f 0) z) in
      omega (arith, total_lt a f (units_before a f) (w % 2 ^ f) below_at)

  pub other_last_of_one : (get_or a f 0 ≡ 2 ^ units_before a f → ⊥) → Word n (plan_of n m a) (word_at a f) × (word_at a f / 2 ^ f ≡ 1)
  other_last_of_one ne =
      let q = word_last a f in
      let l = last_lt f (word_at a f) q in
      let r : total a f (word_at a f % 2 ^ f) ≡ get_or a f 0 =
      sym (total_low a f 1 (word_at a f % 2 ^ f) (mod-lt (word_at a f) (pow_pos f)))
      ∙ ap (total a f) (ap (λ (d : ℕ). d * 2 ^ f + word_at a f % 2 ^ f) (sym q) ∙ split (word_at a f) f)
      ∙ word_total n m a s f (omega (arith, s.next f h)) in (
        cancels_word n m a (word_at a f)
            (omega (arith, word_sum a f, pow_pos f))
            (omega (arith, l, pow_mono {i = suc f} {j = n} h))
            (last_total (word_at a f) q ∙ ap (λ (y : ℕ). bit_xor y (get_or a f 0)) r ∙ xor_self (get_or a f 0)),
        q,
      )
