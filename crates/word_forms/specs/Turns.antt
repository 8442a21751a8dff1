-- What a turn of each loop does, and what the elimination answers.
use Rattle.std.specs.Prelude.{◌≡◌, refl, Bool, true, false, List, ℕ, zero, suc, ◌+◌, ◌-◌, ◌*◌, ◌/◌, ◌^◌, ◌<◌, ◌≤◌, ◌⊎◌, min, eqb}
use Rattle.std.specs.Prelude.{length, get_or, take, set, replicate}
use Rattle.std.proofs.Common.{sym, ap, ap₂, ◌∙◌, subst, inl, inr, mod-lt, pow_pos, pow_mono, true≢false, one-add, add-one, arith}
use Rattle.std.proofs.Common.{eq-eqb, ne_eqb, shr-shr, length-take-le}
use Rattle.std.proofs.Math.Decide.{dec_le}
use Rattle.std.proofs.Math.Logic.{by_cases}
use Rattle.std.proofs.Math.Nat.{two-pow-succ}
use Rattle.std.proofs.Math.Seq.{get_or-take}
use Rattle.std.proofs.lemmas.Bool.{false≢true}
use Rattle.std.proofs.lemmas.Nat.{div_below, le-div}
use Rattle.std.specs.Int.Bits.{bit_xor, xor_zero_r}
use Rattle.gf2.specs.Digits.{bit, pick}
use Rattle.gf2.specs.Fill.{Filled, fill_unused}
use Rattle.gf2.specs.DigitLaws.{pow_most, pow_twice, xor_assoc, xor_low, xor_half, bit_suc}
use Rattle.regular.specs.Words.{total, Generated, Independent}
use Rattle.standard.specs.Finding.{StandardFound, is_found}
use Rattle.standard.specs.Total.{total_cols, total_turn}
use Rattle.words.specs.FromWords.{wc_at, pivots_words}
use Rattle.words.specs.Model.{reduced, last_of, free_before, word_columns, Pivots}
use Rattle.words.specs.Pivots.{last_is}
use Rattle.words.proofs.Pivots.{reduced_lt, pivots_more, empty_word}
use Rattle.words.specs.Standards.{standard_cols}

-- a number times a digit
pub times_none : (x d : ℕ) → d ≡ 0 → x * d ≡ 0
times_none x d e = rw e (omega arith)

pub times_one : (x d : ℕ) → d ≡ 1 → x * d ≡ x
times_one x d e = rw e (omega arith)

-- v with p where a digit is 1, and v where it is not
pub digit_taken : (v p d : ℕ) → d ≡ 1 → bit_xor v (p * d) ≡ bit_xor v p
digit_taken v p d e = ap (bit_xor v) (times_one p d e)

pub digit_left : (v p d : ℕ) → d < 2 → (d ≡ 1 → ⊥) → bit_xor v (p * d) ≡ v
digit_left v p d h ne = ap (bit_xor v) (times_none p d (omega arith)) ∙ xor_zero_r v

-- the reduction, letter by letter
pub reduce_turn : (piv : List ℕ) (f v : ℕ) → 0 < f → reduced piv f v ≡ reduced piv (f - 1) (bit_xor v (get_or piv (f - 1) 0 * bit (f - 1) v))
unfolding reduced
reduce_turn piv zero v h = absurd (omega arith)
reduce_turn piv (suc f) v h =
    let e : f ≡ suc f - 1 = omega arith in
    ap (λ (g : ℕ). reduced piv g (bit_xor v (get_or piv g 0 * bit g v))) e

-- at each place below n stands a word whose last letter is that place, or 0
abbrev pub LastLetters : ℕ → List ℕ → Type 0
LastLetters n piv = (f : ℕ) → f < n → (get_or piv f 0 ≡ 0) ⊎ (get_or piv f 0 / 2 ^ f ≡ 1)

-- the sum with a word whose last letter is f is less where the letter goes, and more where it comes
one_half : (p : ℕ) → p / 2 ^ 0 ≡ 1 → p / 2 ≡ 0
one_half p e = omega (arith, e)

last_half : (f p : ℕ) → p / 2 ^ suc f ≡ 1 → p / 2 / 2 ^ f ≡ 1
last_half f p e = shr-shr p 1 f ∙ ap (λ (k : ℕ). p / 2 ^ k) (one-add f) ∙ e

gone : (f v p : ℕ) → p / 2 ^ f ≡ 1 → bit f v ≡ 1 → bit_xor v p < v
gone zero v p e b = omega (arith, e, b, xor_low v p, xor_half v p, ap (λ (q : ℕ). bit_xor (v / 2) q) (one_half p e), xor_zero_r (v / 2))
gone (suc f) v p e b = omega (arith, gone f (v / 2) (p / 2) (last_half f p e) (sym (bit_suc f v) ∙ b), xor_half v p)

come : (f v p : ℕ) → p / 2 ^ f ≡ 1 → bit f v ≡ 0 → v < bit_xor v p
come zero v p e b = omega (arith, e, b, xor_low v p, xor_half v p, ap (λ (q : ℕ). bit_xor (v / 2) q) (one_half p e), xor_zero_r (v / 2))
come (suc f) v p e b = omega (arith, come f (v / 2) (p / 2) (last_half f p e) (sym (bit_suc f v) ∙ b), xor_half v p)

-- the smaller of a word and its sum with the word at a place is the word without the letter
smaller_is : (f v p : ℕ) → (p ≡ 0) ⊎ (p / 2 ^ f ≡ 1) → min v (bit_xor v p) ≡ bit_xor v (p * bit f v)
smaller_is f v p (inl e) =
    let none : 0 * bit f v ≡ 0 = omega arith in
    rw e (omega (arith, xor_zero_r v, ap (bit_xor v) none))
smaller_is f v p (inr e) = go (bit f v) (mod-lt (v / 2 ^ f) (omega arith)) refl
  where
    go : (d : ℕ) → d < 2 → bit f v ≡ d → min v (bit_xor v p) ≡ bit_xor v (p * d)
    go zero l is = omega (arith, come f v p e is, digit_left v p 0 l (λ q. omega (arith, q)))
    go (suc zero) l is = omega (arith, gone f v p e is, digit_taken v p 1 refl)
    go (suc (suc d)) l is = absurd (omega arith)

pub smaller_turn : (piv : List ℕ) (n f v r : ℕ) → LastLetters n piv → f ≤ n → 0 < f → r ≡ min v (bit_xor v (get_or piv (f - 1) 0))
    → reduced piv f v ≡ reduced piv (f - 1) r
smaller_turn piv n f v r last l h is =
    reduce_turn piv f v h ∙ ap (reduced piv (f - 1)) (sym (is ∙ smaller_is (f - 1) v (get_or piv (f - 1) 0) (last (f - 1) (omega arith))))

pub reduce_end : (piv : List ℕ) (f v : ℕ) → f ≤ 0 → reduced piv f v ≡ v
unfolding reduced
reduce_end piv zero v h = refl
reduce_end piv (suc f) v h = absurd (omega arith)

-- the last letter
last_step : (f w : ℕ) (t : Bool) → eqb (bit f w) 1 ≡ t → last_of (suc f) w ≡ pick t f (last_of f w)
unfolding last_of
last_step f w t e = ap (λ (b : Bool). pick b f (last_of f w)) e

pub last_here : (f w : ℕ) → 0 < f → bit (f - 1) w ≡ 1 → last_of f w ≡ f - 1
last_here zero w h e = absurd (omega arith)
last_here (suc f) w h e =
    let p : suc f - 1 ≡ f = omega arith in
    last_step f w true (eq-eqb (bit f w) 1 (ap (λ (g : ℕ). bit g w) (sym p) ∙ e)) ∙ sym p

pub last_turn : (f w : ℕ) → 0 < f → (bit (f - 1) w ≡ 1 → ⊥) → last_of f w ≡ last_of (f - 1) w
last_turn zero w h e = absurd (omega arith)
last_turn (suc f) w h e =
    let p : suc f - 1 ≡ f = omega arith in
    last_step f w false (ne_eqb (bit f w) 1 (λ q. e (ap (λ (g : ℕ). bit g w) p ∙ q))) ∙ ap (λ (g : ℕ). last_of g w) (sym p)

pub last_end : (f w : ℕ) → f ≤ 0 → last_of f w ≡ 0
unfolding last_of
last_end zero w h = refl
last_end (suc f) w h = absurd (omega arith)

-- .. by the powers of 2 on both sides
pub last_log : (n w r : ℕ) → w < 2 ^ n → 2 ^ r ≤ w → w < 2 * 2 ^ r → r ≡ last_of n w
last_log n w r h low high =
    let l = last_of n w in
    let one : w / 2 ^ l ≡ 1 = (last_is n w h (λ z. omega (arith, z, pow_pos r))).1 in
    let least : l < r → ⊥ = λ s. omega (arith, le-div 2 w (2 ^ l) (pow_pos l) (omega (arith, two-pow-succ l, pow_mono {i = suc l} {j = r} s))) in
    let most : r < l → ⊥ = λ s. omega (arith, div_below w (2 ^ l) 1 (pow_pos l) (omega (arith, two-pow-succ r, pow_mono {i = suc r} {j = l} s))) in
    by_cases (dec_le r l) (λ p. by_cases (dec_le l r) (λ q. omega arith) (λ q. absurd (most (omega arith)))) (λ p. absurd (least (omega arith)))

-- a sum of columns, column by column, and of the first columns of an array
module _ (s : ℕ) (c : List ℕ) (g w t : ℕ) (e : t ≡ bit_xor s (total c g w)) where
  pub total_taken : (x : ℕ) → x ≡ get_or c g 0 → bit g w ≡ 1 → bit_xor t x ≡ bit_xor s (total c (g + 1) w)
  total_taken x is h =
      let u = total c g w in
      let y = get_or c g 0 in
      ap₂ bit_xor e is ∙ xor_assoc s u y
      ∙ ap (bit_xor s) (total_turn c g w u (bit_xor u y) refl (sym (digit_taken u y (bit g w) h)))

  pub total_passed : bit g w < 2 → (bit g w ≡ 1 → ⊥) → t ≡ bit_xor s (total c (g + 1) w)
  total_passed l ne =
      let u = total c g w in
      e ∙ ap (bit_xor s) (total_turn c g w u u refl (sym (digit_left u (get_or c g 0) (bit g w) l ne)))

pub total_part : (a : List ℕ) (f w : ℕ) → f ≤ length a → total (take f a) (length (take f a)) w ≡ total a f w
total_part a f w h =
    ap (λ (n : ℕ). total (take f a) n w) (length-take-le f a h) ∙ total_cols (take f a) a f w (λ i l. get_or-take f a i 0 l)

-- the elimination, word by word
module _ (n i : ℕ) (ws piv : List ℕ) (r : ℕ) (P : Pivots n i ws piv) (hw : get_or ws i 0 < 2 ^ n) (re : r ≡ reduced piv n (get_or ws i 0)) where
  reduced_small : r < 2 ^ n
  reduced_small = subst (λ (y : ℕ). y < 2 ^ n) (sym re) (reduced_lt n i ws piv P hw)

  pub place_lt : (r ≡ 0 → ⊥) → last_of n r < n
  place_lt ne = (last_is n r reduced_small ne).0

  pub eliminate_turn : (p : ℕ) → p ≡ last_of n r → (r ≡ 0 → ⊥) → Pivots n (i + 1) ws (set piv p r)
  eliminate_turn p pe ne =
      let q : set piv p r ≡ set piv (last_of n (reduced piv n (get_or ws i 0))) (reduced piv n (get_or ws i 0)) =
      ap₂ (λ (a b : ℕ). set piv a b) (pe ∙ ap (last_of n) re) re in
      rw (add-one i) (subst (Pivots n (suc i) ws) (sym q) (pivots_more n i ws piv P hw (λ z. ne (re ∙ z))))

  pub eliminate_log : (p : ℕ) → 2 ^ p ≤ r → r < 2 * 2 ^ p → (r ≡ 0 → ⊥) → Pivots n (i + 1) ws (set piv p r)
  eliminate_log p low high ne = eliminate_turn p (last_log n r p reduced_small low high) ne

  pub eliminate_never : (g : ℕ) → i < g → r ≡ 0 → Independent g ws → ⊥
  eliminate_never g h z ind = empty_word n g i ws piv h P hw ind (sym re ∙ z)

-- the answer of the elimination of g words
pub record Elimination (n g : ℕ) (ws : List ℕ) (ok : Bool) (piv : List ℕ) : Type 0 where
  pub done : ok ≡ true → Pivots n g ws piv
  pub dependent : ok ≡ false → Independent g ws → ⊥

pub elimination_done : (n g : ℕ) (ws piv : List ℕ) → Pivots n g ws piv → Elimination n g ws true piv
elimination_done n g ws piv P = record { done = λ e. P; dependent = λ e. absurd (true≢false e) }

pub elimination_not : (n g : ℕ) (ws piv : List ℕ) → (Independent g ws → ⊥) → Elimination n g ws false piv
elimination_not n g ws piv h = record { done = λ e. absurd (false≢true e); dependent = λ e. h }

-- the columns, factor by factor
abbrev pub column_of : List ℕ → ℕ → ℕ → ℕ
column_of piv n f = get_or (word_columns piv n) f 0

abbrev zeros16 : List ℕ
zeros16 = replicate 16 0

pub column_value : (n : ℕ) (piv a : List ℕ) (f unit v : ℕ) → f < n → unit ≡ 2 ^ free_before piv f → Filled (column_of piv n) zeros16 f a
    → v ≡ pick (eqb (get_or piv f 0) 0) unit (total a f (get_or piv f 0)) → v ≡ column_of piv n f
column_value n piv a f unit v hf he fill hv =
    hv
    ∙ ap₂ (pick (eqb (get_or piv f 0) 0)) he (total_cols a (word_columns piv n) f (get_or piv f 0) fill.done)
    ∙ sym (wc_at n piv f hf)

pub unit_next : (piv : List ℕ) (f unit u : ℕ) → unit ≡ 2 ^ free_before piv f → u ≡ pick (eqb (get_or piv f 0) 0) (unit + unit) unit
    → u ≡ 2 ^ free_before piv (f + 1)
unfolding free_before
unit_next piv f unit u e h = rw (add-one f) (h ∙ go (eqb (get_or piv f 0) 0))
  where
    go : (t : Bool) → pick t (unit + unit) unit ≡ 2 ^ (free_before piv f + pick t 1 0)
    go true = pow_twice (free_before piv f) unit e
    go false = let q : free_before piv f + 0 ≡ free_before piv f = omega arith in e ∙ ap (λ (k : ℕ). 2 ^ k) (sym q)

free_mono : (piv : List ℕ) (f d : ℕ) → free_before piv f ≤ free_before piv (d + f)
unfolding free_before
free_mono piv f zero = let e : 0 + f ≡ f = omega arith in rw e (omega arith)
free_mono piv f (suc d) = let e : suc d + f ≡ suc (d + f) = omega arith in rw e (omega (arith, free_mono piv f d))

pub unit_small : (n : ℕ) (piv : List ℕ) (f unit : ℕ) → f ≤ n → free_before piv n ≤ 7 → unit ≡ 2 ^ free_before piv f → unit ≤ 128
unit_small n piv f unit h l e =
    let q : n - f + f ≡ n = omega arith in
    omega (arith, pow_most (free_before piv f) (omega (arith, free_mono piv f (n - f), ap (free_before piv) q)))

-- the answer of `words_columns`
pub found_done : (n g : ℕ) (ws piv a : List ℕ) → g ≤ n → Pivots n g ws piv → Filled (column_of piv n) zeros16 n a
    → StandardFound n (n - g) (Independent g ws) (Generated n g ws) true a
found_done n g ws piv a hg P fill =
    is_found n (n - g) (Independent g ws) (Generated n g ws) a P.free
    (standard_cols n (n - g) (Generated n g ws) (word_columns piv n) a (pivots_words n g ws piv hg P) (λ f h. sym (fill.done f h)))
    (fill_unused (column_of piv n) 16 n a fill)
