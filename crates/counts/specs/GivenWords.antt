-- Independent words generate the words of their plan: the words are their products, each product once.
use Rattle.std.specs.Prelude.{◌≡◌, List, ℕ, suc, ◌-◌, ◌^◌, ◌≤◌, ◌<◌, get_or}
use Rattle.std.proofs.Common.{sym, ap, subst, ◌∙◌, arith}
use Rattle.std.proofs.Math.Logic.{by_cases}
use Rattle.std.proofs.Math.Decide.{ℕ_discrete}
use Rattle.gf2.specs.Digits.{odd}
use Rattle.gf2.specs.Lists.{image, upto, upto_lt, upto_length, upto_different, image_length, of_image, image_different}
use Rattle.gf2.specs.Members.{In, Different, pigeon}
use Rattle.gf2.specs.Parity.{odd_zero_l}
use Rattle.regular.specs.Runs.{Runs}
use Rattle.regular.specs.Words.{Word, Generated, Independent, total}
use Rattle.standard.specs.Form.{StandardFor}
use Rattle.standard.specs.Runs.{total_lt, odd_total}
use Rattle.standard.specs.Total.{independent_once}
use Rattle.words.specs.FromWords.{run_none}
use Rattle.words.proofs.FromWords.{words_standard}
use Rattle.words.specs.Generators.{Generators}
use Rattle.words.specs.Model.{word_columns, pivots_at}
use Rattle.words.specs.ReducedWords.{words_generators}
use Rattle.words.specs.WordList.{words_to}
use Rattle.counts.specs.WordCounts.{word_count}

-- g independent words of at most 16 factors
pub record WordsGiven (n g : ℕ) (ws : List ℕ) : Type 0 where
  pub few : n ≤ 16
  pub less : g ≤ n
  pub within : (i : ℕ) → i < g → get_or ws i 0 < 2 ^ n
  pub independent : Independent g ws

-- their products, the empty one left out: the words of the plan
abbrev pub word_list : ℕ → List ℕ → List ℕ
word_list g ws = image (λ t. total ws g (suc t)) (upto (2 ^ g - 1))

module _ (n g : ℕ) (ws : List ℕ) (given : WordsGiven n g ws) where
  abbrev plan : Runs
  plan = Generated n g ws

  -- the plan in standard columns
  pub given_standard : StandardFor n (n - g) plan (word_columns (pivots_at ws n g) n)
  given_standard = words_standard n g ws given.few given.less given.within given.independent

  even : (x t : ℕ) → plan x → odd x (total ws g t) ≡ 0
  even x t p = odd_total ws g x t ∙ ap (λ (r : ℕ). odd r t) (run_none ws g x p.even) ∙ odd_zero_l t

  -- a product is a word of the plan, and each is another
  product_word : (t : ℕ) → 0 < t → t < 2 ^ g → Word n plan (total ws g t)
  product_word t h l = record {
    some = by_cases (ℕ_discrete (total ws g t) 0) (λ e. absurd (omega (arith, given.independent t l e))) (λ ne. omega arith);
    within = total_lt ws g n t given.within;
    constant = λ x y p q. even x t p ∙ sym (even y t q);
  }

  pub list_different : Different (word_list g ws)
  list_different =
      image_different (λ t. total ws g (suc t)) (upto (2 ^ g - 1)) (upto_different (2 ^ g - 1))
      (λ x y p q e. omega (
        arith,
        independent_once g ws given.independent (suc x) (suc y)
            (omega (arith, upto_lt (2 ^ g - 1) x p)) (omega (arith, upto_lt (2 ^ g - 1) y q)) e,
      ))

  of_list : (w : ℕ) → In w (word_list g ws) → (t : ℕ) × ((0 < t) × ((t < 2 ^ g) × (w ≡ total ws g t)))
  of_list w m =
      let r = of_image (λ t. total ws g (suc t)) (upto (2 ^ g - 1)) w m in
      (suc r.0, (omega arith, (omega (arith, upto_lt (2 ^ g - 1) r.0 r.1.0), r.1.1)))

  pub list_word : (w : ℕ) → In w (word_list g ws) → Word n plan w
  list_word w m = let r = of_list w m in subst (Word n plan) (sym r.1.1.1) (product_word r.0 r.1.0 r.1.1.0)

  -- the plan has no more words than that
  pub word_list_lem : (w : ℕ) → Word n plan w → In w (word_list g ws)
  word_list_lem w h =
      let a = word_columns (pivots_at ws n g) n in
      let e : n - (n - g) ≡ g = omega (arith, given.less) in
      let c = word_count n (n - (n - g)) plan (words_to a n) (words_generators n (n - g) plan a given_standard) in
      pigeon (word_list g ws) c.members list_different (λ z m. c.all z (list_word z m))
      (omega (arith, c.number, ap (λ (k : ℕ). 2 ^ k) e, image_length (λ t. total ws g (suc t)) (upto (2 ^ g - 1)), upto_length (2 ^ g - 1)))
      w (c.all w h)

  -- so they generate the plan's words
  pub given_generators : Generators n g plan ws
  given_generators = record {
    within = given.within;
    independent = given.independent;
    word = product_word;
    all = λ w h. of_list w (word_list_lem w h);
  }
