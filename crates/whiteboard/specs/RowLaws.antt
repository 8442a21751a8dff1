-- A row that passes its tests is true: one law for each kind of row, and so for a whole table.
use Rattle.std.specs.Prelude.{◌≡◌, true, not, ◌||◌, List, [], ◌∷◌, ℕ, zero, suc, ◌+◌, ◌-◌, ◌^◌, ◌≤◌, eqb, ltb, get_or, length}
use Rattle.std.proofs.Common.{sym, ap, subst, ◌∙◌, ⊎_elim, arith, eqb-true, leb-true, ltb-true, pow_pos}
use Rattle.std.proofs.lemmas.Bool.{eqb-false, not-true}
use Rattle.std.specs.Int.Bits.{bit_xor, xor_zero_r}
use Rattle.gf2.specs.Counts.{Count}
use Rattle.gf2.specs.Digits.{bit, odd}
use Rattle.gf2.specs.Truth.{or_cases}
use Rattle.regular.specs.Columns.{plan_of, run_of, Listed}
use Rattle.regular.specs.Comparisons.{Differ}
use Rattle.regular.specs.Smallest.{Catalogue}
use Rattle.regular.specs.Pattern.{Pattern, Resolution, Distances, of_length}
use Rattle.regular.specs.Words.{Word, Generated, Fraction, letters, total}
use Rattle.standard.specs.Form.{units_before}
use Rattle.standard.specs.Runs.{run_zero}
use Rattle.words.specs.Model.{word_columns, pivots_at}
use Rattle.words.specs.Standards.{form_standard, standard_cols}
use Rattle.counts.specs.Distances.{levels_count}
use Rattle.counts.specs.GivenWords.{WordsGiven, given_standard, given_generators}
use Rattle.counts.specs.Models.{products, first_length}
use Rattle.counts.specs.Resolutions.{resolution_of_pattern}
use Rattle.counts.specs.Tally.{tally}
use Rattle.counts.specs.WordCounts.{length_count}
use Rattle.signs.specs.FractionLaws.{fraction_standard}
use Rattle.signs.specs.MaskLaws.{mask_of_standard}
use Rattle.signs.specs.Masks.{MaskOf}
use Rattle.catalogue_laws.specs.Listing.{model_catalogue}
use Rattle.catalogue_laws.specs.Model.{entries}
use Rattle.whiteboard.specs.Products.{given_multiply, Multiply, multiply_same, product, of_letters}
use Rattle.whiteboard.specs.Rows.{Row, RunsRow, WordsRow, SignedRow, DifferentRow, CatalogueRow, Says, given, counts, tests, AllTrue, all_pass}
use Rattle.whiteboard.specs.Tests.{every, Passed, passed, below_at, agree_at, only_zero_lem, alike, alike_is}

-- columns, their runs and distance counts
runs_true : (n m : ℕ) (c t d : List ℕ) → Passed (tests (Row.runs n m c t d)) → RunsRow n m c t d
runs_true n m c t d e =
    let table : Listed n m c t = agree_at (λ j. get_or t j 0) (run_of c n) (2 ^ m) e.1.0 in
    let levels : ℕ → ℕ = tally (λ j. letters (run_of c n j)) (2 ^ m) in
    let sizes = e.1.1.1 in
    record {
      sizes = (eqb-true (length c) n sizes.0, eqb-true (length t) (2 ^ m) sizes.1.0, eqb-true (length d) (suc n) sizes.1.1.0);
      table = table;
      distances = subst (λ (x : ℕ). Distances n (plan_of n m c) x d) (sym (table 0 (pow_pos m) ∙ run_zero c n)) (record {
        counts = λ i h.
            subst (Count (λ x. plan_of n m c x × (letters (bit_xor x 0) ≡ i)))
            (sym (agree_at (λ k. get_or d k 0) levels (suc n) e.1.1.0 i (omega arith)))
            (levels_count n m c (only_zero_lem (run_of c n) (2 ^ m) e.0) i);
      });
    }

-- what the tests of words and of a pattern say
pub is_given : (n g : ℕ) (ws : List ℕ) → every (given n g ws) ≡ true → WordsGiven n g ws
is_given n g ws e =
    let p = passed (given n g ws) e in
    record {
      few = leb-true n 16 p.0;
      less = leb-true g n p.1.0;
      within = λ i h. ltb-true (get_or ws i 0) (2 ^ n) (below_at (λ j. ltb (get_or ws j 0) (2 ^ n)) g p.1.1.0 i h);
      independent = only_zero_lem (total ws g) (2 ^ g) p.1.1.1.0;
    }

is_pattern : (n g : ℕ) (ws p : List ℕ) → WordsGiven n g ws → counts n g ws p ≡ true → Pattern n (Generated n g ws) p
is_pattern n g ws p a e = record { counts = at }
  where
    at : (l : ℕ) → 1 ≤ l → l ≤ n → Count (λ w. Word n (Generated n g ws) w × (letters w ≡ l)) (of_length p l)
    at zero h k = absurd (omega arith)
    at (suc l) h k =
        subst (Count (λ w. Word n (Generated n g ws) w × (letters w ≡ suc l)))
        (sym (agree_at (λ i. of_length p (suc i)) (λ i. products g ws (suc i)) n e l k))
        (length_count n g (Generated n g ws) ws (given_generators n g ws a) (suc l) h)

-- words, and the plan that they generate
words_true : (n g : ℕ) (ws c p : List ℕ) (r : ℕ) → Passed (tests (Row.words n g ws c p r)) → WordsRow n g (Generated n g ws) c p r
words_true n g ws c p r e =
    let s = Generated n g ws in
    let a = word_columns (pivots_at ws n g) n in
    let h = is_given n g ws e.0 in
    let q = is_pattern n g ws p h e.1.1.0 in
    let sizes = e.1.1.1.1 in
    record {
      sizes = (eqb-true (length c) n sizes.0, eqb-true (length p) n sizes.1.0);
      columns = form_standard n (n - g) s c
          (standard_cols n (n - g) s a c (given_standard n g ws h) (agree_at (λ f. get_or a f 0) (λ f. get_or c f 0) n e.1.0));
      pattern = q;
      resolution = subst (Resolution n s) (eqb-true (first_length n p) r e.1.1.1.0) (resolution_of_pattern n s p q);
    }

-- words with signs: the mask is one of their runs, and high at every basic factor
signed_true : (n g : ℕ) (ws : List ℕ) (signs : ℕ) (c : List ℕ) (mask : ℕ) (t : List ℕ) → Passed (tests (Row.signed n g ws signs c mask t))
    → SignedRow n g (Fraction n g ws signs) c mask t
signed_true n g ws signs c mask t e =
    let a = word_columns (pivots_at ws n g) n in
    let st = standard_cols n (n - g) (Generated n g ws) a c (given_standard n g ws (is_given n g ws e.0))
    (agree_at (λ f. get_or a f 0) (λ f. get_or c f 0) n e.1.0) in
    let run : Fraction n g ws signs mask = record {
      within = ltb-true mask (2 ^ n) e.1.1.0;
      product = agree_at (λ i. odd mask (get_or ws i 0)) (λ i. bit i signs) g e.1.1.1.0;
    } in
    let own : MaskOf n c mask mask = record {
      run = 0;
      below = pow_pos (units_before c n);
      is = sym (ap (bit_xor mask) (run_zero c n) ∙ xor_zero_r mask);
      high = λ f h u. high_at f u
          (below_at (λ i. not (eqb (get_or c i 0) (2 ^ units_before c i)) || eqb (bit i mask) 0) n e.1.1.1.1.0 f h);
    } in
    let sizes = e.1.1.1.1.1.1 in
    record {
      sizes = (eqb-true (length c) n sizes.0, eqb-true (length t) (2 ^ (n - g)) sizes.1.0);
      columns = mask_of_standard n (n - g) (Fraction n g ws signs) mask c mask (fraction_standard n g ws signs mask c run st) own run.within;
      table = agree_at (λ j. get_or t j 0) (λ j. bit_xor (run_of c n j) mask) (2 ^ (n - g)) e.1.1.1.1.1.0;
    }
  where
    high_at : (f : ℕ) → get_or c f 0 ≡ 2 ^ units_before c f → (not (eqb (get_or c f 0) (2 ^ units_before c f)) || eqb (bit f mask) 0) ≡ true → bit f mask ≡ 0
    high_at f u o =
        let unit = eqb (get_or c f 0) (2 ^ units_before c f) in
        ⊎_elim (λ q. absurd (eqb-false (get_or c f 0) (2 ^ units_before c f) (not-true unit q) u)) (eqb-true (bit f mask) 0)
        (or_cases (not unit) (eqb (bit f mask) 0) o)

-- different plans of one pattern
different_true : (n g : ℕ) (vs ws p : List ℕ) (l v w : ℕ) → Passed (tests (Row.different n g vs ws p l v w))
    → DifferentRow n (Generated n g vs) (Generated n g ws) p l v w
different_true n g vs ws p l v w e =
    let s = Generated n g vs in
    let t = Generated n g ws in
    let a = is_given n g vs e.0 in
    let b = is_given n g ws e.1.0 in
    let first : Multiply n s l v = subst (Multiply n s l) (eqb-true (product (of_letters g vs l)) v e.1.1.1.1.0) (given_multiply n g vs a l) in
    let second : Multiply n t l w = subst (Multiply n t l) (eqb-true (product (of_letters g ws l)) w e.1.1.1.1.1.0) (given_multiply n g ws b l) in
    let one = is_pattern n g vs p a e.1.1.0 in
    let other = is_pattern n g ws p b e.1.1.1.0 in
    record {
      different = λ k. eqb-false (letters v) (letters w) (not-true (eqb (letters v) (letters w)) e.1.1.1.1.1.1.0)
          (multiply_same n s t l v w first second k);
      patterns = (one, other);
      length = Differ.nowhere p one other;
      first = first;
      second = second;
    }

-- a catalogue: the model lists it at each resolution
catalogue_true : (n g low high : ℕ) (es : List (List ℕ)) → Passed (tests (Row.catalogue n g low high es)) → CatalogueRow n g low high es
catalogue_true n g low high es e r a b =
    let same : entries n (n - g) (low + (r - low)) ≡ es =
    alike_is (alike eqb) (alike_is eqb eqb-true) (entries n (n - g) (low + (r - low))) es
    (below_at (λ i. alike (alike eqb) (entries n (n - g) (low + i)) es) (suc high - low) e.0 (r - low) (omega arith)) in
    let at : low + (r - low) ≡ r = omega arith in
    subst (λ (l : List (List ℕ)). Catalogue n (n - g) r (length l) (λ i. get_or l i [])) (ap (entries n (n - g)) (sym at) ∙ same) (model_catalogue n (n - g) r)

-- any row, and a table
row_true : (r : Row) → Passed (tests r) → Says r
row_true (Row.runs n m c t d) e = runs_true n m c t d e
row_true (Row.words n g ws c p r) e = words_true n g ws c p r e
row_true (Row.signed n g ws signs c mask t) e = signed_true n g ws signs c mask t e
row_true (Row.different n g vs ws p l v w) e = different_true n g vs ws p l v w e
row_true (Row.catalogue n g low high es) e = catalogue_true n g low high es e

pub table_true : (rs : List Row) → all_pass rs ≡ true → AllTrue rs
table_true [] e = tt
table_true (r ∷ rs) e =
    let p = passed (every (tests r) ∷ all_pass rs ∷ []) e in
    (row_true r (passed (tests r) p.0), table_true rs p.1.0)
