-- The product of a plan's words of one length. A renaming carries it over: so plans are different if these products have different numbers of
-- letters, as where one of them is the identity.
use Rattle.std.specs.Prelude.{◌≡◌, refl, Bool, true, false, List, [], ◌∷◌, ℕ, ◌+◌, ◌%◌, ◌^◌, ◌<◌, eqb, length, get_or}
use Rattle.std.proofs.Common.{sym, ap, subst, ◌∙◌, inl, inr, arith, pow_pos}
use Rattle.std.proofs.Math.Logic.{by_cases}
use Rattle.std.proofs.Math.Decide.{ℕ_discrete}
use borrow.Author.Tests.{eqb-true, eq-eqb, eqb-false}
use Rattle.std.specs.Int.Bits.{bit_xor}
use Rattle.std.proofs.lemmas.Nat.{xor_lt}
use Rattle.gf2.specs.Counts.{Count}
use Rattle.gf2.specs.Digits.{bit}
use Rattle.gf2.specs.DigitLaws.{bit_xor_lem, bit_none}
use Rattle.gf2.specs.Members.{In, Different}
use Rattle.regular.specs.Runs.{Runs}
use Rattle.regular.specs.Same.{moved, Carries, Same}
use Rattle.regular.specs.Words.{Word, Generated, letters}
use Rattle.standard.specs.Model.{choose}
use Rattle.isomorphism_laws.specs.LetterCounts.{Holding, holding_equal}
use Rattle.isomorphism_laws.specs.Renamings.{moved_is, letters_moved}
use Rattle.counts.specs.GivenWords.{WordsGiven, word_list, list_different, list_word, word_list_lem}
use Rattle.whiteboard.specs.Tests.{those, those_in, those_of, those_different}

-- the product of a list of sets of factors
unfoldable pub product : List ℕ → ℕ
product [] = 0
product (x ∷ xs) = bit_xor x (product xs)

-- the words of l letters multiply to v
pub record Multiply (n : ℕ) (s : Runs) (l v : ℕ) : Type 0 where
  pub words : List ℕ
  pub different : Different words
  pub each : (w : ℕ) → In w words → Word n s w × (letters w ≡ l)
  pub all : (w : ℕ) → Word n s w → letters w ≡ l → In w words
  pub product_is : product words ≡ v

-- the words of l letters of the plan that g words generate
abbrev pub of_letters : ℕ → List ℕ → ℕ → List ℕ
of_letters g ws l = those (λ w. eqb (letters w) l) (word_list g ws)

pub given_multiply : (n g : ℕ) (ws : List ℕ) → WordsGiven n g ws → (l : ℕ) → Multiply n (Generated n g ws) l (product (of_letters g ws l))
given_multiply n g ws given l =
    let t : ℕ → Bool = λ w. eqb (letters w) l in
    record {
      words = of_letters g ws l;
      different = those_different t (word_list g ws) (list_different n g ws given);
      each = λ w m. let r = those_of t (word_list g ws) w m in (list_word n g ws given w r.0, eqb-true (letters w) l r.1);
      all = λ w h e. those_in t (word_list g ws) w (word_list_lem n g ws given w h) (eq-eqb (letters w) l e);
      product_is = refl;
    }

product_lt : (n : ℕ) (xs : List ℕ) → ((x : ℕ) → In x xs → x < 2 ^ n) → product xs < 2 ^ n
unfolding product
product_lt n [] h = pow_pos n
product_lt n (x ∷ xs) h = xor_lt n x (product xs) (h x (inl refl)) (product_lt n xs (λ y m. h y (inr m)))

-- a letter stands in the product if an odd number of the sets hold it
unfoldable holding : ℕ → ℕ → Bool
holding f w = eqb (bit f w) 1

product_bit : (f : ℕ) (xs : List ℕ) → bit f (product xs) ≡ length (those (holding f) xs) % 2
unfolding product those holding
product_bit f [] = bit_none f
product_bit f (x ∷ xs) =
    bit_xor_lem f x (product xs) ∙ ap (λ (k : ℕ). (bit f x + k) % 2) (product_bit f xs) ∙ next (holding f x) refl
  where
    next : (b : Bool) → eqb (bit f x) 1 ≡ b
        → (bit f x + length (those (holding f) xs) % 2) % 2 ≡ length (choose b (x ∷ those (holding f) xs) (those (holding f) xs)) % 2
    next true e = omega (arith, eqb-true (bit f x) 1 e)
    next false e = by_cases (ℕ_discrete (bit f x) 1) (λ q. absurd (eqb-false (bit f x) 1 e q)) (λ ne. omega arith)

module _ (n : ℕ) (s : Runs) (l v : ℕ) (a : Multiply n s l v) where
  multiply_lt : v < 2 ^ n
  multiply_lt = subst (λ (x : ℕ). x < 2 ^ n) a.product_is (product_lt n a.words (λ x m. (a.each x m).0.within))

  -- how many words of l letters hold factor f
  multiply_count : (f : ℕ) → Count (Holding n s l f) (length (those (holding f) a.words))
  unfolding holding
  multiply_count f = record {
    members = those (holding f) a.words;
    different = those_different (holding f) a.words a.different;
    each = λ w m. let r = those_of (holding f) a.words w m in let q = a.each w r.0 in (q.0, (q.1, eqb-true (bit f w) 1 r.1));
    all = λ w h. those_in (holding f) a.words w (a.all w h.0 h.1.0) (eq-eqb (bit f w) 1 h.1.1);
    number = refl;
  }

  multiply_bit : (f : ℕ) → bit f v ≡ length (those (holding f) a.words) % 2
  multiply_bit f = ap (λ (x : ℕ). bit f x) (sym a.product_is) ∙ product_bit f a.words

-- a renaming carries the product over: so it keeps its number of letters
module _ (n : ℕ) (s t : Runs) (l v w : ℕ) (a : Multiply n s l v) (b : Multiply n t l w) where
  multiply_moved : (p : List ℕ) (mask : ℕ) → Carries n s t p mask → moved p n v ≡ w
  multiply_moved p mask k =
      moved_is n p k.renaming v w (multiply_lt n t l w b)
      (λ f h. multiply_bit n t l w b (get_or p f 0)
      ∙ ap (λ (c : ℕ). c % 2) (sym (holding_equal n s t p mask k l f h (length (those (holding f) a.words))
      (length (those (holding (get_or p f 0)) b.words))
      (multiply_count n s l v a f) (multiply_count n t l w b (get_or p f 0))))
      ∙ sym (multiply_bit n s l v a f))

  pub multiply_same : Same n s t → letters v ≡ letters w
  multiply_same k =
      sym (letters_moved n k.names k.carries.renaming v (multiply_lt n s l v a)) ∙ ap letters (multiply_moved k.names k.mask k.carries)
