-- The reduced words of standard columns as a list, by rising last letter: the words of the factors that are not basic.
-- What stands where in the list, and which letters its words have. That they are the reduced words of the plan is proved in ReducedWords.
use Rattle.std.specs.Prelude.{◌≡◌, refl, ◌≢◌, Bool, true, false, List, [], ◌∷◌, ◌++◌, ℕ, zero, suc, ◌+◌, ◌*◌, ◌%◌, ◌^◌, ◌<◌, eqb, length, get_or}
use Rattle.std.proofs.Common.{sym, ap₂, ◌∙◌, subst, arith, eqb-true, length-append}
use Rattle.std.proofs.Math.Logic.{by_cases}
use Rattle.std.proofs.Math.Decide.{ℕ_discrete}
use Rattle.std.proofs.lemmas.Bool.{eqb-false}
use Rattle.std.proofs.Math.ListN.{get_or-append}
use Rattle.std.proofs.lemmas.List.{get_or_at}
use Rattle.gf2.specs.Digits.{bit, pick}
use Rattle.gf2.specs.DigitLaws.{bit_xor_lem, bit_none, bit_unit}
use Rattle.standard.specs.Model.{choose}
use Rattle.standard.specs.Form.{units_before}
use Rattle.standard.specs.Units.{spread, units_at}
use Rattle.words.specs.ToWords.{word_at}

-- factor f is basic: its column is the next unit
abbrev pub is_unit : List ℕ → ℕ → Type 0
is_unit a f = get_or a f 0 ≡ 2 ^ units_before a f

-- the factors among the first f that are not basic, rising
unfoldable pub others_to : List ℕ → ℕ → List ℕ
others_to a zero = []
others_to a (suc f) = choose (eqb (get_or a f 0) (2 ^ units_before a f)) (others_to a f) (others_to a f ++ (f ∷ []))

-- their words, by rising last letter
unfoldable pub words_to : List ℕ → ℕ → List ℕ
words_to a zero = []
words_to a (suc f) = choose (eqb (get_or a f 0) (2 ^ units_before a f)) (words_to a f) (words_to a f ++ (word_at a f ∷ []))

-- what stands in the lists of the first f factors: os of factors, ws of words
pub record WordsListed (a : List ℕ) (f : ℕ) (os ws : List ℕ) : Type 0 where
  pub count : length os + units_before a f ≡ f
  pub size : length ws ≡ length os
  pub below : (i : ℕ) → i < length os → get_or os i 0 < f
  pub other : (i : ℕ) → i < length os → is_unit a (get_or os i 0) → ⊥
  pub word : (i : ℕ) → i < length os → get_or ws i 0 ≡ word_at a (get_or os i 0)
  pub rising : (i j : ℕ) → i < j → j < length os → get_or os i 0 < get_or os j 0
  pub found : (e : ℕ) → e < f → (is_unit a e → ⊥) → (i : ℕ) × ((i < length os) × (get_or os i 0 ≡ e))

-- one more at the end of a list
snoc_length : (xs : List ℕ) (x : ℕ) → length (xs ++ (x ∷ [])) ≡ length xs + 1
snoc_length xs x = length-append xs (x ∷ [])

snoc_keep : (xs : List ℕ) (x i : ℕ) → i < length xs → get_or (xs ++ (x ∷ [])) i 0 ≡ get_or xs i 0
snoc_keep xs x i h = get_or-append xs (x ∷ []) 0 i h

snoc_last : (xs : List ℕ) (x i : ℕ) → length xs ≡ i → get_or (xs ++ (x ∷ [])) i 0 ≡ x
snoc_last xs x i h = get_or_at xs x [] 0 i h

listed_basic : (a : List ℕ) (f : ℕ) (os ws : List ℕ) → is_unit a f → units_before a (suc f) ≡ units_before a f + 1 → WordsListed a f os ws
    → WordsListed a (suc f) os ws
listed_basic a f os ws b e L = record {
  count = omega (arith, L.count);
  size = L.size;
  below = λ i h. omega (arith, L.below i h);
  other = L.other;
  word = L.word;
  rising = L.rising;
  found = λ d h ne. L.found d (by_cases (ℕ_discrete d f) (λ q. absurd (ne (subst (is_unit a) (sym q) b))) (λ q. omega arith)) ne;
}

module _ (a : List ℕ) (f : ℕ) (os ws : List ℕ) (b : is_unit a f → ⊥) (L : WordsListed a f os ws) where
  abbrev more : List ℕ
  more = os ++ (f ∷ [])

  -- a place is the last or an old one
  place : (P : ℕ → ℕ → Type 0) → ((i : ℕ) → i < length os → P i (get_or os i 0)) → P (length os) f → (i : ℕ) → i < length more → P i (get_or more i 0)
  place P old new i h =
      by_cases (ℕ_discrete i (length os))
      (λ q. subst (λ (k : ℕ). P k (get_or more k 0)) (sym q) (subst (P (length os)) (sym (snoc_last os f (length os) refl)) new))
      (λ q. let l : i < length os = omega (arith, snoc_length os f) in subst (P i) (sym (snoc_keep os f i l)) (old i l))

  listed_other : units_before a (suc f) ≡ units_before a f → WordsListed a (suc f) more (ws ++ (word_at a f ∷ []))
  listed_other e = record {
    count = omega (arith, L.count, snoc_length os f);
    size = omega (arith, L.size, snoc_length os f, snoc_length ws (word_at a f));
    below = place (λ i x. x < suc f) (λ i h. omega (arith, L.below i h)) (omega arith);
    other = place (λ i x. is_unit a x → ⊥) L.other b;
    word = place (λ i x. get_or (ws ++ (word_at a f ∷ [])) i 0 ≡ word_at a x)
        (λ i h. snoc_keep ws (word_at a f) i (omega (arith, L.size)) ∙ L.word i h)
        (snoc_last ws (word_at a f) (length os) L.size);
    rising = λ i j h l.
        let k : i < length os = omega (arith, snoc_length os f) in
        subst (λ (x : ℕ). x < get_or more j 0) (sym (snoc_keep os f i k))
        (place (λ j x. i < j → get_or os i 0 < x) (λ j l h. L.rising i j h l) (λ h. L.below i k) j l h);
    found = λ d h ne. by_cases (ℕ_discrete d f)
        (λ q. (length os, (omega (arith, snoc_length os f), snoc_last os f (length os) refl ∙ sym q)))
        (λ q. let r = L.found d (omega arith) ne in (r.0, (omega (arith, snoc_length os f, r.1.0), snoc_keep os f r.0 r.1.0 ∙ r.1.1)));
  }

listed_at : (a : List ℕ) (f : ℕ) (t : Bool) → eqb (get_or a f 0) (2 ^ units_before a f) ≡ t → units_before a (suc f) ≡ units_before a f + pick t 1 0
    → WordsListed a f (others_to a f) (words_to a f)
    → WordsListed a (suc f) (choose t (others_to a f) (others_to a f ++ (f ∷ []))) (choose t (words_to a f) (words_to a f ++ (word_at a f ∷ [])))
listed_at a f true e u L = listed_basic a f (others_to a f) (words_to a f) (eqb-true (get_or a f 0) (2 ^ units_before a f) e) u L
listed_at a f false e u L = listed_other a f (others_to a f) (words_to a f) (eqb-false (get_or a f 0) (2 ^ units_before a f) e) L (omega arith)

pub listed : (a : List ℕ) (f : ℕ) → WordsListed a f (others_to a f) (words_to a f)
unfolding others_to words_to units_before
listed a zero = record {
  count = refl;
  size = refl;
  below = λ i h. absurd (omega arith);
  other = λ i h. absurd (omega arith);
  word = λ i h. absurd (omega arith);
  rising = λ i j h l. absurd (omega arith);
  found = λ e h ne. absurd (omega arith);
}
listed a (suc f) = listed_at a f (eqb (get_or a f 0) (2 ^ units_before a f)) refl refl (listed a f)

-- the letters of the word of f: f itself, and basics
rest_at : (a : List ℕ) (f e k : ℕ) (t : Bool) → eqb (get_or a f 0) (2 ^ units_before a f) ≡ t → (is_unit a e → ⊥) → bit e (spread (units_at a f) k) ≡ 0
    → bit e (spread (choose t (f ∷ units_at a f) (units_at a f)) k) ≡ 0
unfolding spread
rest_at a f e k true q ne ih =
    let d = bit (length (units_at a f)) k in
    let u : e ≢ f = λ z. ne (subst (is_unit a) (sym z) (eqb-true (get_or a f 0) (2 ^ units_before a f) q)) in
    bit_xor_lem e (spread (units_at a f) k) (d * 2 ^ f)
    ∙ ap₂ (λ (x y : ℕ). (x + y) % 2) ih (bit_unit e f d (omega arith) u)
rest_at a f e k false q ne ih = ih

rest_letters : (a : List ℕ) (f e k : ℕ) → (is_unit a e → ⊥) → bit e (spread (units_at a f) k) ≡ 0
unfolding units_at spread
rest_letters a zero e k ne = bit_none e
rest_letters a (suc f) e k ne = rest_at a f e k (eqb (get_or a f 0) (2 ^ units_before a f)) refl ne (rest_letters a f e k ne)

pub word_letters : (a : List ℕ) (f e : ℕ) → (is_unit a e → ⊥) → e ≢ f → bit e (word_at a f) ≡ 0
word_letters a f e ne h =
    bit_xor_lem e (1 * 2 ^ f) (spread (units_at a f) (get_or a f 0))
    ∙ ap₂ (λ (x y : ℕ). (x + y) % 2) (bit_unit e f 1 (omega arith) h) (rest_letters a f e (get_or a f 0) ne)
