-- The kinds of examples: a row of the table is plain numbers; what it says, by the definitions of document 01; and a test of it that computes.
-- That a row which passes is true is proved in RowLaws. A further kind of example is a constructor here, with its meaning, its test and its law.
use Rattle.std.specs.Prelude.{Bool, not, true, ◌||◌, List, [], ◌∷◌, ◌≡◌, ℕ, suc, ◌+◌, ◌-◌, ◌^◌, ◌≤◌, eqb, leb, ltb, get_or, length}
use Rattle.std.specs.Int.Bits.{bit_xor}
use Rattle.gf2.specs.Digits.{bit, odd}
use Rattle.regular.specs.Columns.{plan_of, run_of, Listed, ListedWith, StandardColumns, Standard}
use Rattle.regular.specs.Comparisons.{Differ}
use Rattle.regular.specs.Pattern.{Pattern, Resolution, Distances, of_length}
use Rattle.regular.specs.Runs.{Runs}
use Rattle.regular.specs.Same.{Same}
use Rattle.regular.specs.Smallest.{Catalogue}
use Rattle.regular.specs.Words.{Generated, Fraction, letters, total}
use Rattle.standard.specs.Form.{units_before}
use Rattle.words.specs.Model.{word_columns, pivots_at}
use Rattle.counts.specs.Models.{products, first_length}
use Rattle.counts.specs.Tally.{tally}
use Rattle.catalogue_laws.specs.Model.{entries}
use Rattle.whiteboard.specs.Products.{Multiply, product, of_letters}
use Rattle.whiteboard.specs.Tests.{below, agree, only_zero, every, alike}

pub data Row : Type 0 where
  -- n columns of m bits, their runs, and the distance counts
  runs : (n m : ℕ) (columns table distances : List ℕ) → Row
  -- g words of n factors, and the columns, the pattern and the resolution of the plan that they generate
  words : (n g : ℕ) (words columns pattern : List ℕ) (resolution : ℕ) → Row
  -- g words of n factors with signs, and the columns, the mask and the runs of their plan
  signed : (n g : ℕ) (words : List ℕ) (signs : ℕ) (columns : List ℕ) (mask : ℕ) (table : List ℕ) → Row
  -- two lists of g words, the pattern that both plans have, and what their words of l letters multiply to
  different : (n g : ℕ) (words others pattern : List ℕ) (l product another : ℕ) → Row
  -- n factors, g generators, and the entries of the catalogue, the same at each resolution from low to high
  catalogue : (n g low high : ℕ) (entries : List (List ℕ)) → Row

-- the runs and distance counts of columns
pub record RunsRow (n m : ℕ) (c t d : List ℕ) : Type 0 where
  pub sizes : (length c ≡ n) × (length t ≡ 2 ^ m) × (length d ≡ suc n)
  pub table : Listed n m c t
  pub distances : Distances n (plan_of n m c) (get_or t 0 0) d

-- the columns, pattern and resolution of a plan of g generators
pub record WordsRow (n g : ℕ) (s : Runs) (c p : List ℕ) (r : ℕ) : Type 0 where
  pub sizes : (length c ≡ n) × (length p ≡ n)
  pub columns : StandardColumns n (n - g) s c
  pub pattern : Pattern n s p
  pub resolution : Resolution n s r

-- the columns, the mask and the runs of a plan of g generators
pub record SignedRow (n g : ℕ) (s : Runs) (c : List ℕ) (mask : ℕ) (t : List ℕ) : Type 0 where
  pub sizes : (length c ≡ n) × (length t ≡ 2 ^ (n - g))
  pub columns : Standard n (n - g) s c mask
  pub table : ListedWith n (n - g) c mask t

-- different plans with the one pattern p, so length 0; the words of l letters multiply to v in the one and to w in the other
pub record DifferentRow (n : ℕ) (s t : Runs) (p : List ℕ) (l v w : ℕ) : Type 0 where
  pub different : Same n s t → ⊥
  pub patterns : Pattern n s p × Pattern n t p
  pub length : Differ n s t 0
  pub first : Multiply n s l v
  pub second : Multiply n t l w

-- the catalogue at each resolution from low to high has exactly these entries, in this order
abbrev pub CatalogueRow : ℕ → ℕ → ℕ → ℕ → List (List ℕ) → Type 0
CatalogueRow n g low high es = (r : ℕ) → low ≤ r → r ≤ high → Catalogue n (n - g) r (length es) (λ i. get_or es i [])

-- what a row says
abbrev pub Says : Row → Type 0
Says (Row.runs n m c t d) = RunsRow n m c t d
Says (Row.words n g ws c p r) = WordsRow n g (Generated n g ws) c p r
Says (Row.signed n g ws signs c mask t) = SignedRow n g (Fraction n g ws signs) c mask t
Says (Row.different n g vs ws p l v w) = DifferentRow n (Generated n g vs) (Generated n g ws) p l v w
Says (Row.catalogue n g low high es) = CatalogueRow n g low high es

-- tests of g words: they are independent, and of at most 16 factors
abbrev pub given : ℕ → ℕ → List ℕ → List Bool
given n g ws = leb n 16 ∷ leb g n ∷ below (λ i. ltb (get_or ws i 0) (2 ^ n)) g ∷ only_zero (total ws g) (2 ^ g) ∷ []

-- a test of a pattern: it has the number of products of each length
abbrev pub counts : ℕ → ℕ → List ℕ → List ℕ → Bool
counts n g ws p = agree (λ i. of_length p (suc i)) (λ i. products g ws (suc i)) n

-- a test of a mask: it is 0 at every factor that takes the next of 1, 2, 4 and so on
abbrev pub high : ℕ → List ℕ → ℕ → Bool
high n c mask = below (λ f. not (eqb (get_or c f 0) (2 ^ units_before c f)) || eqb (bit f mask) 0) n

-- the tests of a row
abbrev pub tests : Row → List Bool
tests (Row.runs n m c t d) =
    only_zero (run_of c n) (2 ^ m)
    ∷ agree (λ j. get_or t j 0) (run_of c n) (2 ^ m)
    ∷ agree (λ i. get_or d i 0) (tally (λ j. letters (run_of c n j)) (2 ^ m)) (suc n)
    ∷ eqb (length c) n
    ∷ eqb (length t) (2 ^ m)
    ∷ eqb (length d) (suc n)
    ∷ []
tests (Row.words n g ws c p r) =
    every (given n g ws)
    ∷ agree (λ f. get_or (word_columns (pivots_at ws n g) n) f 0) (λ f. get_or c f 0) n
    ∷ counts n g ws p
    ∷ eqb (first_length n p) r
    ∷ eqb (length c) n
    ∷ eqb (length p) n
    ∷ []
tests (Row.signed n g ws signs c mask t) =
    every (given n g ws)
    ∷ agree (λ f. get_or (word_columns (pivots_at ws n g) n) f 0) (λ f. get_or c f 0) n
    ∷ ltb mask (2 ^ n)
    ∷ agree (λ i. odd mask (get_or ws i 0)) (λ i. bit i signs) g
    ∷ high n c mask
    ∷ agree (λ j. get_or t j 0) (λ j. bit_xor (run_of c n j) mask) (2 ^ (n - g))
    ∷ eqb (length c) n
    ∷ eqb (length t) (2 ^ (n - g))
    ∷ []
tests (Row.different n g vs ws p l v w) =
    every (given n g vs)
    ∷ every (given n g ws)
    ∷ counts n g vs p
    ∷ counts n g ws p
    ∷ eqb (product (of_letters g vs l)) v
    ∷ eqb (product (of_letters g ws l)) w
    ∷ not (eqb (letters v) (letters w))
    ∷ []
tests (Row.catalogue n g low high es) = below (λ i. alike (alike eqb) (entries n (n - g) (low + i)) es) (suc high - low) ∷ []

-- every row of a table is true; every row passes
abbrev pub AllTrue : List Row → Type 0
AllTrue [] = Unit {0}
AllTrue (r ∷ rs) = Says r × AllTrue rs

abbrev pub all_pass : List Row → Bool
all_pass [] = true
all_pass (r ∷ rs) = every (every (tests r) ∷ all_pass rs ∷ [])
