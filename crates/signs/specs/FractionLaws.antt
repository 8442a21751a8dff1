-- Independent words with signs: the words of their plan are their products; so every choice of signs has a run, and its fraction is the plan of one
-- record. The sign of a word is the parity of the mask in it.
use Rattle.std.specs.Prelude.{ℕ, zero, suc, ◌+◌, ◌*◌, ◌-◌, ◌/◌, ◌%◌, ◌^◌, ◌≤◌, ◌<◌, ◌≡◌, refl, List, get_or}
use Rattle.std.proofs.Common.{sym, ap, ap₂, subst, ◌∙◌, inl, inr, ⊎_elim, arith, mod-lt, pow-suc, pow_pos, pow_mono}
use Rattle.std.proofs.Math.Logic.{by_cases}
use Rattle.std.proofs.Math.Decide.{ℕ_discrete}
use Rattle.std.specs.Int.Bits.{bit_xor, xor_zero_r, xor_self}
use Rattle.std.proofs.lemmas.Nat.{xor_comm}
use Rattle.gf2.specs.Digits.{bit, odd}
use Rattle.gf2.specs.DigitLaws.{xor_back}
use Rattle.gf2.specs.Lists.{upto, upto_lt, upto_in, some_or_all}
use Rattle.gf2.specs.Parity.{odd_lt, odd_lin_l}
use Rattle.regular.specs.Runs.{Runs, switched}
use Rattle.regular.specs.Words.{Word, Generated, Independent, total, Fraction}
use Rattle.regular.specs.Columns.{plan_of, run_of, Standard}
use Rattle.standard.specs.Form.{StandardFor}
use Rattle.standard.specs.Total.{total_next, total_none}
use Rattle.words.proofs.FromWords.{words_standard}
use Rattle.words.specs.Model.{pivots_at, word_columns}
use Rattle.words.specs.Switches.{agree_trans}
use Rattle.words.specs.Generators.{Generators}
use Rattle.counts.specs.GivenWords.{WordsGiven, given_standard, given_generators}
use Rattle.signs.specs.MaskLaws.{mask_run}
use Rattle.signs.specs.OneRecord.{OneRecord, record_from}
use Rattle.signs.specs.SignLaws.{fraction_switched, fraction_back}

-- g independent words of n factors
module _ (n g : ℕ) (ws : List ℕ) (hn : n ≤ 16) (hg : g ≤ n) (hw : (i : ℕ) → i < g → get_or ws i 0 < 2 ^ n) (ind : Independent g ws) where
  abbrev plan : Runs
  plan = Generated n g ws

  abbrev columns : List ℕ
  columns = word_columns (pivots_at ws n g) n

  given : WordsGiven n g ws
  given = record { few = hn; less = hg; within = hw; independent = ind }

  standard_plan : StandardFor n (n - g) plan columns
  standard_plan = given_standard n g ws given

  pub words_generate : Generators n g plan ws
  words_generate = given_generators n g ws given

  -- a product of some of the words is a word, and every word is one
  pub sum_word : (t : ℕ) → 0 < t → t < 2 ^ g → Word n plan (total ws g t)
  sum_word = words_generate.word

  pub all_words : (w : ℕ) → Word n plan w → (t : ℕ) × ((t < 2 ^ g) × (w ≡ total ws g t))
  all_words w h = let c = words_generate.all w h in (c.0, c.1.1)

  -- another word, independent of these, has the product − in some run of their plan
  some_minus : (v : ℕ) → 0 < v → v < 2 ^ n → ((t : ℕ) → t < 2 ^ g → v ≡ total ws g t → ⊥) → (y : ℕ) × (plan y × (odd y v ≡ 1))
  some_minus v p l apart =
      ⊎_elim
      (λ r. let j = r.0 in (run_of columns n j, (standard_plan.plan.onto (run_of columns n j) (j, (upto_lt (2 ^ (n - g)) j r.1.0, refl)), r.1.1)))
      (λ all.
      let none : (x : ℕ) → plan x → odd x v ≡ 0 = λ x h.
      let q = standard_plan.plan.into x h in
      ap (λ (y : ℕ). odd y v) q.1.1 ∙ all q.0 (upto_in (2 ^ (n - g)) q.0 q.1.0) in
      let w = all_words v (record { some = p; within = l; constant = λ x y a b. none x a ∙ sym (none y b) }) in
      absurd (apart w.0 w.1.0 w.1.1))
      (some_or_all (λ j. odd (run_of columns n j) v ≡ 1) (λ j. odd (run_of columns n j) v ≡ 0) (upto (2 ^ (n - g)))
      (λ j. by_cases (ℕ_discrete (odd (run_of columns n j) v) 0) (λ e. inr e) (λ ne. inl (omega (arith, odd_lt (run_of columns n j) v)))))

-- the first of independent words, and the next one
module _ (g : ℕ) (ws : List ℕ) (ind : Independent (suc g) ws) where
  fewer_independent : Independent g ws
  fewer_independent t l e =
      let z : 0 * 2 ^ g + t ≡ t = omega arith in
      let none : get_or ws g 0 * 0 ≡ 0 = omega arith in
      ind t (omega (arith, l, pow_mono {i = g} {j = suc g} (omega arith)))
      (ap (total ws (suc g)) (sym z) ∙ total_next ws g 0 t (omega arith) l ∙ ap (bit_xor (total ws g t)) none ∙ xor_zero_r (total ws g t) ∙ e)

  next_apart : (t : ℕ) → t < 2 ^ g → get_or ws g 0 ≡ total ws g t → ⊥
  next_apart t l e =
      let up = pow-suc 2 g in
      let v = get_or ws g 0 in
      let z = ind (1 * 2 ^ g + t) (omega arith) (total_next ws g 1 t (omega arith) l ∙ ap₂ bit_xor (sym e) (omega arith) ∙ xor_self v) in
      omega (arith, z, pow_pos g)

  next_some : 0 < get_or ws g 0
  next_some = by_cases (ℕ_discrete (get_or ws g 0) 0) (λ e. absurd (next_apart 0 (pow_pos g) (e ∙ sym (total_none ws g)))) (λ ne. omega arith)

-- a run of the fraction of the first g words in which word g has its sign, too; and one in which it has not, turned by a run of their plan
module _ (n g : ℕ) (ws : List ℕ) (signs x : ℕ) (q : Fraction n g ws signs x) where
  one_more : odd x (get_or ws g 0) ≡ bit g signs → Fraction n (suc g) ws signs x
  one_more e = record {
    within = q.within;
    product = λ i l. by_cases (ℕ_discrete i g)
        (λ z. subst (λ (k : ℕ). odd x (get_or ws k 0) ≡ bit k signs) (sym z) e) (λ ne. q.product i (omega arith));
  }

  turned : (y : ℕ) → Generated n g ws y → Fraction n g ws signs (bit_xor x y)
  turned y h =
      (fraction_switched n g ws signs x q).onto (bit_xor x y)
      (subst (Generated n g ws) (sym (ap (λ (z : ℕ). bit_xor z x) (xor_comm x y) ∙ xor_back y x)) h)

flip_sum : (a b s : ℕ) → a < 2 → s < 2 → b ≡ 1 → (a ≡ s → ⊥) → (a + b) % 2 ≡ s
flip_sum a b s l h e ne = omega arith

-- every choice of signs has a run
pub fraction_run : (n g : ℕ) (ws : List ℕ) → n ≤ 16 → g ≤ n → ((i : ℕ) → i < g → get_or ws i 0 < 2 ^ n) → Independent g ws → (signs : ℕ)
    → (x : ℕ) × Fraction n g ws signs x
fraction_run n zero ws hn hg hw ind signs = (0, record { within = pow_pos n; product = λ i l. absurd (omega arith) })
fraction_run n (suc g) ws hn hg hw ind signs =
    let few : (i : ℕ) → i < g → get_or ws i 0 < 2 ^ n = λ i l. hw i (omega arith) in
    let less = fewer_independent g ws ind in
    let r = fraction_run n g ws hn (omega arith) few less signs in
    next r.0 r.1 (some_minus n g ws hn (omega arith) few less (get_or ws g 0) (next_some g ws ind) (hw g (omega arith)) (next_apart g ws ind))
  where
    next : (x : ℕ) → Fraction n g ws signs x → (y : ℕ) × (Generated n g ws y × (odd y (get_or ws g 0) ≡ 1)) → (z : ℕ) × Fraction n (suc g) ws signs z
    next x q o =
        let v = get_or ws g 0 in
        let y = o.0 in
        by_cases (ℕ_discrete (odd x v) (bit g signs))
        (λ e. (x, one_more n g ws signs x q e))
        (λ ne. (
          bit_xor x y,
          one_more n g ws signs (bit_xor x y) (turned n g ws signs x q y o.1.0)
              (odd_lin_l x y v ∙ flip_sum (odd x v) (odd y v) (bit g signs) (odd_lt x v) (mod-lt (signs / 2 ^ g) (omega arith)) o.1.1 ne),
        ))

-- the standard columns of the words without signs are those of a fraction switched by one of its runs
pub fraction_standard : (n g : ℕ) (ws : List ℕ) (signs x : ℕ) (c : List ℕ) → Fraction n g ws signs x → StandardFor n (n - g) (Generated n g ws) c
    → StandardFor n (n - g) (switched x (Fraction n g ws signs)) c
fraction_standard n g ws signs x c q st =
    let s = Fraction n g ws signs in
    record {
      form = st.form;
      plan = agree_trans (switched x s) (Generated n g ws) (plan_of n (n - g) c) (fraction_back n g ws signs x q) st.plan;
    }

-- so the fraction is the plan of one record
pub fraction_record : (n g : ℕ) (ws : List ℕ) (signs : ℕ) → n ≤ 16 → g ≤ n → ((i : ℕ) → i < g → get_or ws i 0 < 2 ^ n) → Independent g ws
    → OneRecord n (n - g) (Fraction n g ws signs)
fraction_record n g ws signs hn hg hw ind =
    let r = fraction_run n g ws hn hg hw ind signs in
    let c = word_columns (pivots_at ws n g) n in
    record_from n (n - g) (Fraction n g ws signs) r.0 c r.1.within
    (fraction_standard n g ws signs r.0 c r.1 (words_standard n g ws hn hg hw ind))

-- the sign of a word is the parity of the mask in it
pub sign_of_mask : (n m g : ℕ) (ws : List ℕ) (signs : ℕ) (c : List ℕ) (mask : ℕ) → Standard n m (Fraction n g ws signs) c mask → (i : ℕ) → i < g
    → bit i signs ≡ odd mask (get_or ws i 0)
sign_of_mask n m g ws signs c mask k i l = sym ((mask_run n m (Fraction n g ws signs) c mask k.columns.plan).product i l)
