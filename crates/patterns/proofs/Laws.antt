-- Each turn of the loops, and what the tables give in the end, over plain numbers and lists. Assumes nothing.
use mathlib.Core.Path.{◌≡◌, refl, sym, ap, subst, ◌∙◌}
use mathlib.Core.Logic.{by_cases}
use mathlib.Core.Bool.{Bool, true, false}
use mathlib.Core.List.{List}
use Prim.Native.Nat.{ℕ, suc, min, ◌+◌, ◌-◌, ◌*◌, ◌^◌, ◌≤◌, ◌<◌}
use native.Mathlib.Nat.{two-pow-succ}
use native.Mathlib.Numerals.{add-one}
use native.Mathlib.Omega.{arith}
use native.Mathlib.Decide.{ℕ_discrete, dec_lt}
use borrow.Author.Tests.{ltb-true, ltb-false}
use lib.Bits.{bit_xor}
use lib.Dec.{ltb}
use lib.ListN.{length, get_or, set, take, replicate, length-set, get_or-eq_default}
use lib.Pow.{pow_mono}
use lib.Seq.{get_or-set_same, get_or-set_other}
use Rattle.std.proofs.Common.{get_or-take, length-take-le}
use Rattle.std.specs.Bool.{MatchBool}
use Rattle.std.specs.List.{AllWithin, HoldsAt}
use Rattle.gf2.specs.Answers.{Tells, tells_yes, tells_no}
use Rattle.gf2.specs.Doubling.{Doubling}
use Rattle.gf2.specs.Fill.{zeros}
use Rattle.counts.specs.Models.{PatternModel, DistanceModel, first_length}
use Rattle.counts.specs.Resolutions.{first_length_lem}
use Rattle.counts.specs.ShortWords.{CountBelow, NoneBelow}
use Rattle.counts.specs.Tally.{tally, tally_start, tally_hit, tally_miss, tally_le, tally_same}
use Rattle.regular.specs.Pattern.{Better, of_length}
use Rattle.regular.specs.Words.{letters, total}
use Rattle.standard.specs.Total.{total_more, total_next}
use Rattle.patterns.specs.Steps.{Products, LettersCounted, FromOne}

-- the products
pub products_none : (ws : List ℕ) → Products 0 ws (replicate 2048 0)
unfolding total
products_none ws = record { places = refl; product = λ t h. zeros 2048 t }

pub products_more : (d half : ℕ) (ws u v : List ℕ) → half ≡ 2 ^ d → Products d ws u → Doubling (get_or ws d 0) half half u v → Products (d + 1) ws v
products_more d half ws u v e p b =
    subst (λ (k : ℕ). Products k ws v) (sym (add-one d))
    (record {
      places = b.size ∙ p.places;
      product = λ t h. by_cases (dec_lt t (2 ^ d))
          (λ l. b.low t (omega arith) ∙ p.product t l ∙ sym (total_more ws d (suc d) t (omega arith) l))
          (λ l.
          let i = t - half in
          let li : i < 2 ^ d = omega (arith, two-pow-succ d) in
          let ti : t ≡ half + i = omega arith in
          let tn : t ≡ 1 * 2 ^ d + i = omega arith in
          let w1 : get_or ws d 0 * 1 ≡ get_or ws d 0 = omega arith in
          ap (λ (j : ℕ). get_or v j 0) ti ∙ b.high i (omega arith) ∙ ap (λ (y : ℕ). bit_xor y (get_or ws d 0)) (p.product i li)
          ∙ sym (ap (total ws (suc d)) tn ∙ total_next ws d 1 i (omega arith) li ∙ ap (bit_xor (total ws d i)) w1));
    })

pub products_all : (d g : ℕ) (ws u : List ℕ) → d ≤ g → g ≤ d → Products d ws u → Products g ws u
products_all d g ws u p q h = let e : d ≡ g = omega arith in subst (λ (k : ℕ). Products k ws u) e h

-- the letter counts
pub counts_none : (xs : List ℕ) → LettersCounted 0 xs (replicate 17 0)
counts_none xs = record { places = refl; count = λ i h. zeros 17 i ∙ sym (tally_start (λ j. letters (get_or xs j 0)) i) }

pub counts_le : (k l : ℕ) (xs t : List ℕ) → l ≤ 16 → LettersCounted k xs t → get_or t l 0 ≤ k
counts_le k l xs t h c = omega (arith, c.count l h, tally_le (λ j. letters (get_or xs j 0)) k l)

pub counts_more : (k l : ℕ) (xs t : List ℕ) → l ≡ letters (get_or xs k 0) → l ≤ 16 → LettersCounted k xs t
    → LettersCounted (k + 1) xs (set t l (get_or t l 0 + 1))
counts_more k l xs t e h c =
    let v : ℕ → ℕ = λ j. letters (get_or xs j 0) in
    let y = get_or t l 0 + 1 in
    subst (λ (j : ℕ). LettersCounted j xs (set t l y)) (sym (add-one k))
    (record {
      places = length-set t l y ∙ c.places;
      count = λ i b. by_cases (ℕ_discrete i l)
          (λ q. ap (λ (j : ℕ). get_or (set t l y) j 0) q ∙ get_or-set_same t l y 0 (omega (arith, c.places)) ∙ ap (λ (x : ℕ). x + 1) (c.count l h)
          ∙ sym (tally_hit v k l (sym e)) ∙ ap (tally v (suc k)) (sym q))
          (λ ne. get_or-set_other t l i y 0 ne ∙ c.count i b ∙ sym (tally_miss v k i (λ q. ne (sym q ∙ sym e))));
    })

pub counts_all : (k end : ℕ) (xs t : List ℕ) → k ≤ end → end ≤ k → LettersCounted k xs t → LettersCounted end xs t
counts_all k end xs t p q c = let e : k ≡ end = omega arith in subst (λ (j : ℕ). LettersCounted j xs t) e c

-- those of the first numbers of a list
pub counts_front : (end : ℕ) (xs t : List ℕ) → end ≤ length xs → LettersCounted (length (take end xs)) (take end xs) t → LettersCounted end xs t
counts_front end xs t h c =
    let e : length (take end xs) ≡ end = length-take-le end xs h in
    record {
      places = c.places;
      count = λ i b. c.count i b ∙ ap (λ (k : ℕ). tally (λ j. letters (get_or (take end xs) j 0)) k i) e
          ∙ tally_same (λ j. letters (get_or (take end xs) j 0)) (λ j. letters (get_or xs j 0)) end i (λ j l. ap letters (get_or-take end xs j 0 l));
    }

-- the lengths from 1
pub from_all : (k n : ℕ) (counts p : List ℕ) → k ≤ n → n ≤ k → FromOne k counts p → FromOne n counts p
from_all k n counts p a b f = let e : k ≡ n = omega arith in subst (λ (j : ℕ). FromOne j counts p) e f

-- the pattern
pub pattern_model : (n g end : ℕ) (ws sums counts p : List ℕ) → n ≤ 16 → end ≡ 2 ^ g → Products g ws sums → LettersCounted end sums counts
    → FromOne n counts p → PatternModel n g ws p
pattern_model n g end ws sums counts p h e a b f =
    record {
      counts = λ l low high.
          let i : suc (l - 1) ≡ l = omega arith in
          f.same (l - 1) (omega arith) ∙ ap (λ (j : ℕ). get_or counts j 0) i ∙ b.count l (omega arith)
          ∙ ap (λ (k : ℕ). tally (λ j. letters (get_or sums j 0)) k l) e
          ∙ tally_same (λ j. letters (get_or sums j 0)) (λ t. letters (total ws g t)) (2 ^ g) l (λ t k. ap letters (a.product t k));
      unused = f.unused;
    }

-- the distance counts
pub distance_model : (end : ℕ) (runs d : List ℕ) → LettersCounted end runs d → DistanceModel 16 end runs d
distance_model end runs d c = record { counts = c.count; unused = λ i l. get_or-eq_default d 0 {n = i} (omega (arith, c.places)) }

-- the first difference
module _ (m : ℕ) (p q : List ℕ) (l : ℕ) (from : 3 ≤ l) (same : (k : ℕ) → k < l → 3 ≤ k → of_length p k ≡ of_length q k) where
  pub better_at : l ≤ m → (of_length p l ≡ of_length q l → ⊥)
      → ((ltb (of_length p l) (of_length q l) ≡ true) → Better m p q) × ((ltb (of_length p l) (of_length q l) ≡ false) → Better m p q → ⊥)
  better_at to ne = (
    (λ t. record { at = l; from = from; to = to; before = λ k a b. same k b a; fewer = ltb-true (of_length p l) (of_length q l) t }),
    (λ t b.
        let more = ltb-false (of_length p l) (of_length q l) t in
        let k = b.at in
        by_cases (dec_lt k l)
        (λ less. omega (arith, same k less b.from, b.fewer))
        (λ not_less. by_cases (ℕ_discrete k l)
        (λ e. omega (arith, subst (λ (j : ℕ). of_length p j < of_length q j) e b.fewer))
        (λ other. ne (b.before l from (omega arith))))),
  )

  pub better_none : m < l → Better m p q → ⊥
  better_none h b = omega (arith, same b.at (omega (arith, b.to)) b.from, b.fewer)

-- one length more without a count
pub none_next : {l : ℕ} (p : List ℕ) → ((k : ℕ) → 1 ≤ k → k < l → of_length p k ≡ 0) → of_length p l ≡ 0 → (k : ℕ) → 1 ≤ k → k < l + 1 → of_length p k ≡ 0
none_next {l} p none z k some few = by_cases (ℕ_discrete k l) (λ e. ap (of_length p) e ∙ z) (λ ne. none k some (omega arith))

-- the first lengths, looked through for a count
at_front : (end : ℕ) (p : List ℕ) (l : ℕ) → 1 ≤ l → l ≤ end → get_or (take end p) (l - 1) 0 ≡ of_length p l
at_front end p l some most = get_or-take end p (l - 1) 0 (omega arith)

at_place : (end : ℕ) (p : List ℕ) (k : ℕ) → k < end → get_or (take end p) k 0 ≡ of_length p (k + 1)
at_place end p k h = get_or-take end p k 0 h ∙ ap (λ (j : ℕ). get_or p j 0) (omega arith)

module _ (end : ℕ) (p : List ℕ) (h : end ≤ length p) where
  size : length (take end p) ≡ end
  size = length-take-le end p h

  pub below_tells : (n r : ℕ) (b : Bool) → end ≡ min n (r - 1)
      → MatchBool b ((k : ℕ) × (k < length (take end p)) × HoldsAt (λ x. 0 < x) (take end p) k)
      (AllWithin (λ x. x ≡ 0) (take end p) 0 (length (take end p)))
      → Tells b (CountBelow n r p) (NoneBelow n r p)
  below_tells n r true e (k, within, some) =
      let w : k < end = omega (arith, within, size) in
      tells_yes _ _ (k + 1, (omega arith, (omega (arith, w, e), (omega (arith, w, e), omega (arith, some 0, at_place end p k w)))))
  below_tells n r false e none =
      tells_no _ _ (λ l some most few. let w : l ≤ end = omega (arith, e) in sym (at_front end p l some w)
      ∙ none (l - 1) 0 (omega arith) (omega (arith, size)))

module _ (n : ℕ) (p : List ℕ) (h : n ≤ length p) where
  long : length (take n p) ≡ n
  long = length-take-le n p h

  none_to : (i : ℕ) → i ≤ n → AllWithin (λ x. x ≡ 0) (take n p) 0 i → (k : ℕ) → 1 ≤ k → k < i + 1 → of_length p k ≡ 0
  none_to i most none k some few = sym (at_front n p k some (omega arith)) ∙ none (k - 1) 0 (omega arith) (omega arith)

  pub first_found : (i : ℕ) → (i < length (take n p)) × HoldsAt (λ x. x ≡ 0 → ⊥) (take n p) i × AllWithin (λ x. x ≡ 0) (take n p) 0 i
      → i + 1 ≡ first_length n p
  first_found i (within, some, none) =
      let w : i < n = omega (arith, within, long) in
      let nz = some 0 in
      first_length_lem (record {
        some = omega arith;
        within = omega arith;
        before = none_to i (omega arith) none;
        counted = λ few. omega (arith, nz, at_place n p i w);
      })

  pub none_found : AllWithin (λ x. x ≡ 0) (take n p) 0 (length (take n p)) → n + 1 ≡ first_length n p
  none_found none =
      first_length_lem (record {
        some = omega arith;
        within = omega arith;
        before = none_to n (omega arith) (subst (AllWithin (λ x. x ≡ 0) (take n p) 0) long none);
        counted = λ few. absurd (omega arith);
      })

-- how many products there are
pub products_long : (g end : ℕ) (ws sums : List ℕ) → g ≤ 11 → end ≡ 2 ^ g → Products g ws sums → end ≤ length sums
products_long g end ws sums h e p = omega (arith, e, p.places, pow_mono {i = g} {j = 11} h)
