-- The walk over the factors that writes the reduced words: what the two arrays hold after f of them, and what a turn of the loop does.
use Rattle.std.specs.Prelude.{◌≡◌, refl, List, [], ◌∷◌, ◌++◌, ℕ, ◌+◌, ◌-◌, ◌*◌, ◌^◌, ◌≤◌, ◌<◌, set, replicate}
use Rattle.std.proofs.Math.Path.{sym, ap}
use Rattle.std.proofs.Common.{ap₂, ◌∙◌, mul_comm, add-one, arith, length-append, get_or-set_other}
use Rattle.std.proofs.Math.Logic.{by_cases}
use Rattle.std.proofs.Math.Decide.{ℕ_discrete, dec_lt}
use borrow.Author.Tests.{eq-eqb, ne_eqb}
use Rattle.std.specs.Int.Bits.{bit_xor}
use Rattle.std.proofs.Math.ListN.{length, get_or, length-set, get_or-append, get_or-eq_default}
use Rattle.std.proofs.Math.Seq.{get_or-set_same}
use Rattle.std.proofs.lemmas.List.{get_or_at}
use Rattle.gf2.specs.Digits.{bit}
use Rattle.gf2.specs.Fill.{zeros}
use Rattle.gf2.specs.DigitLaws.{pow_twice}
use Rattle.regular.specs.Words.{total}
use Rattle.standard.specs.Form.{units_before}
use Rattle.standard.specs.Units.{spread, units_at, unitary}
use Rattle.words.specs.ToWords.{word_at}
use Rattle.words.specs.WordList.{words_to, listed}
use Rattle.generators.specs.WordTable.{WordTable}

-- the basics as letters: the i-th at place i, the list having the last first
abbrev pub BasicsPlaced : List ℕ → List ℕ → Type 0
BasicsPlaced [] u = Unit {0}
BasicsPlaced (p ∷ bs) u = (get_or u (length bs) 0 ≡ 1 * 2 ^ p) × BasicsPlaced bs u

placed_set : (bs u : List ℕ) (i v : ℕ) → length bs ≤ i → BasicsPlaced bs u → BasicsPlaced bs (set u i v)
placed_set [] u i v h p = tt
placed_set (q ∷ bs) u i v h p = (get_or-set_other u i (length bs) v 0 (λ e. omega arith) ∙ p.0, placed_set bs u i v (omega arith) p.1)

swap : (x d : ℕ) → (1 * x) * d ≡ d * x
swap x d = mul_comm (1 * x) d ∙ ap (λ (y : ℕ). d * y) (omega arith)

-- the sum of the letters at the bits of k is the set of those basics
placed_total : (bs u : List ℕ) (k : ℕ) → BasicsPlaced bs u → total u (length bs) k ≡ spread bs k
unfolding total spread
placed_total [] u k p = refl
placed_total (q ∷ bs) u k p =
    ap₂ bit_xor (placed_total bs u k p.1) (ap (λ (x : ℕ). x * bit (length bs) k) p.0 ∙ swap (2 ^ q) (bit (length bs) k))

-- an array that reads as a list, with one more
snoc_read : (u xs : List ℕ) (x j : ℕ) → length xs ≡ j → j < length u → ((i : ℕ) → get_or u i 0 ≡ get_or xs i 0) → (i : ℕ)
    → get_or (set u j x) i 0 ≡ get_or (xs ++ (x ∷ [])) i 0
snoc_read u xs x j e h same i =
    by_cases (ℕ_discrete i j)
    (λ q. rw q (get_or-set_same u j x 0 h ∙ sym (get_or_at xs x [] 0 j e)))
    (λ ne. get_or-set_other u j i x 0 ne ∙ same i ∙ by_cases (dec_lt i j)
    (λ l. sym (get_or-append xs (x ∷ []) 0 i (omega arith)))
    (λ l. get_or-eq_default xs 0 {n = i} (omega arith) ∙ sym (get_or-eq_default (xs ++ (x ∷ [])) 0 {n = i} (omega (arith, length-append xs (x ∷ []))))))

-- after f factors: m basics, the next unit, the basics as letters, the words
pub record WordsWalk (a : List ℕ) (f m unit : ℕ) (basics words : List ℕ) : Type 0 where
  pub count : m ≡ units_before a f
  pub few : m ≤ f
  pub next : unit ≡ 2 ^ m
  pub basics_size : length basics ≡ 16
  pub words_size : length words ≡ 16
  pub placed : BasicsPlaced (units_at a f) basics
  pub read : (i : ℕ) → get_or words i 0 ≡ get_or (words_to a f) i 0

pub walked_none : (a : List ℕ) → WordsWalk a 0 0 1 (replicate 16 0) (replicate 16 0)
unfolding units_before units_at words_to
walked_none a = record { count = refl; few = omega arith; next = refl; basics_size = refl; words_size = refl; placed = tt; read = zeros 16 }

module _ (a : List ℕ) (f m unit : ℕ) (basics words : List ℕ) (hf : f < 16) (w : WordsWalk a f m unit basics words) where
  basic_count : length (units_at a f) ≡ m
  basic_count = (unitary a f).count ∙ sym w.count

  unit_is : unit ≡ 2 ^ units_before a f
  unit_is = w.next ∙ ap (λ (k : ℕ). 2 ^ k) w.count

  -- factor f is basic
  pub walked_basic : (v : ℕ) → get_or a f 0 ≡ unit → v ≡ 1 * 2 ^ f → WordsWalk a (f + 1) (m + 1) (unit + unit) (set basics m v) words
  unfolding units_before units_at words_to
  walked_basic v e h =
      let t = eq-eqb (get_or a f 0) (2 ^ units_before a f) (e ∙ unit_is) in
      let few = w.few in
      let size = w.basics_size in
      rw (add-one f)
      (record {
        count = rw t (omega (arith, w.count));
        few = omega arith;
        next = pow_twice m _ w.next;
        basics_size = length-set basics m v ∙ size;
        words_size = w.words_size;
        placed = rw t (
          ap (λ (k : ℕ). get_or (set basics m v) k 0) basic_count ∙ get_or-set_same basics m v 0 (omega arith) ∙ h,
          placed_set (units_at a f) basics m v (omega (arith, basic_count)) w.placed,
        );
        read = rw t w.read;
      })

  -- factor f has a word
  pub walked_word : (g v : ℕ) → (get_or a f 0 ≡ unit → ⊥) → g ≡ f - m → v ≡ bit_xor (1 * 2 ^ f) (total basics m (get_or a f 0))
      → WordsWalk a (f + 1) m unit basics (set words g v)
  unfolding units_before units_at words_to
  walked_word g v ne hg h =
      let t = ne_eqb (get_or a f 0) (2 ^ units_before a f) (λ e. ne (e ∙ sym unit_is)) in
      let few = w.few in
      let size = w.words_size in
      let L = listed a f in
      let l : length (words_to a f) ≡ g = omega (arith, L.size, L.count, w.count) in
      let e : v ≡ word_at a f =
      h ∙ ap (bit_xor (1 * 2 ^ f)) (ap (λ (k : ℕ). total basics k (get_or a f 0)) (sym basic_count)
      ∙ placed_total (units_at a f) basics (get_or a f 0) w.placed) in
      rw (add-one f)
      (record {
        count = rw t (omega (arith, w.count));
        few = omega arith;
        next = w.next;
        basics_size = w.basics_size;
        words_size = length-set words g v ∙ size;
        placed = rw t w.placed;
        read = rw (t, e) (snoc_read words (words_to a f) (word_at a f) g l (omega arith) w.read);
      })

pub walked_all : (a : List ℕ) (f n m unit : ℕ) (basics words : List ℕ) → f ≡ n → WordsWalk a f m unit basics words → WordTable n a words
walked_all a f n m unit basics words e w = record { places = w.words_size; word = λ i. w.read i ∙ ap (λ (k : ℕ). get_or (words_to a k) i 0) e }
