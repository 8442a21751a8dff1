-- The words of a plan, counted by their generators: 2^g - 1 in all, and for each length as many as the generators' products have.
use Rattle.std.specs.Prelude.{◌≡◌, refl, List, ℕ, zero, suc, ◌-◌, ◌/◌, ◌^◌, ◌≤◌, ◌<◌}
use Rattle.std.proofs.Common.{sym, ap, subst, ◌∙◌, arith, pow_pos}
use Rattle.std.proofs.Math.Logic.{by_cases}
use Rattle.std.proofs.Math.Decide.{ℕ_discrete}
use Rattle.std.proofs.Math.Arith.{bin_ind}
use Rattle.std.specs.Int.Count.{ones, ones_step}
use Rattle.std.proofs.Math.ListN.{get_or-eq_default}
use Rattle.gf2.specs.Counts.{Count, count_same, count_image}
use Rattle.gf2.specs.Lists.{list_to, to_at, to_length}
use Rattle.regular.specs.Pattern.{Pattern}
use Rattle.regular.specs.Runs.{Runs}
use Rattle.regular.specs.Words.{Word, letters, total}
use Rattle.standard.specs.Total.{total_none, independent_once}
use Rattle.words.specs.Generators.{Generators}
use Rattle.counts.specs.Counting.{count_from_one}
use Rattle.counts.specs.Models.{products, PatternModel}
use Rattle.counts.specs.Tally.{tally_image}

-- the empty set has no letters, any other set has one
letters_none : letters 0 ≡ 0
unfolding ones
letters_none = refl

pub letters_some : (w : ℕ) → 0 < w → 1 ≤ letters w
letters_some = bin_ind (λ (w : ℕ). 0 < w → 1 ≤ letters w) (λ h. absurd (omega arith)) (λ w ih h. some w ih h)
  where
    some : (w : ℕ) → (0 < w / 2 → 1 ≤ letters (w / 2)) → 0 < w → 1 ≤ letters w
    some w ih h = by_cases (ℕ_discrete (w / 2) 0) (λ e. omega (arith, ones_step w)) (λ ne. omega (arith, ones_step w, ih (omega arith)))

module _ (n g : ℕ) (s : Runs) (ws : List ℕ) (gen : Generators n g s ws) where
  -- a plan has 2^g - 1 words
  pub word_count : Count (Word n s) (2 ^ g - 1)
  word_count =
      let p = pow_pos g in
      let e : suc (2 ^ g - 1) ≡ 2 ^ g = omega arith in
      count_image (λ t. (0 < t) × (t < suc (2 ^ g - 1))) (Word n s) (2 ^ g - 1) (total ws g)
      (λ t h. gen.word t h.0 (omega (arith, h.1)))
      (λ w h. let a = gen.all w h in (a.0, ((a.1.0, omega (arith, a.1.1.0)), a.1.1.1)))
      (λ i j p q h. independent_once g ws gen.independent i j (omega (arith, p.1)) (omega (arith, q.1)) h)
      (count_from_one (2 ^ g - 1))

  -- and of each length as many as products
  pub length_count : (l : ℕ) → 1 ≤ l → Count (λ w. Word n s w × (letters w ≡ l)) (products g ws l)
  length_count l hl =
      count_same (λ w. (t : ℕ) × ((t < 2 ^ g) × ((letters (total ws g t) ≡ l) × (w ≡ total ws g t)))) (λ w. Word n s w × (letters w ≡ l)) (products g ws l)
      (λ w p.
      let e : w ≡ total ws g p.0 = p.1.1.1 in
      let k : letters w ≡ l = ap letters e ∙ p.1.1.0 in
      (subst (Word n s) (sym e) (gen.word p.0 (not_none p.0 p.1.1.0) p.1.0), k))
      (λ w p. let a = gen.all w p.0 in (a.0, (a.1.1.0, (ap letters (sym a.1.1.1) ∙ p.1, a.1.1.1))))
      (tally_image (total ws g) (λ t. letters (total ws g t)) (2 ^ g) l (independent_once g ws gen.independent))
    where
      not_none : (t : ℕ) → letters (total ws g t) ≡ l → 0 < t
      not_none zero e = absurd (omega (arith, ap letters (total_none ws g) ∙ letters_none))
      not_none (suc t) e = omega arith

  -- the model is the pattern
  pub model_pattern : (p : List ℕ) → PatternModel n g ws p → Pattern n s p
  model_pattern p m = record { counts = λ l h k. subst (Count (λ w. Word n s w × (letters w ≡ l))) (sym (m.counts l h k)) (length_count l h) }

  -- so there is one
  pub generated_pattern : (p : List ℕ) × Pattern n s p
  generated_pattern = (
    p,
    model_pattern p (record {
      counts = λ l h k. let e : suc (l - 1) ≡ l = omega arith in to_at (λ i. products g ws (suc i)) n (l - 1) (omega arith) ∙ ap (products g ws) e;
      unused = λ i h. get_or-eq_default p 0 (omega (arith, to_length (λ i. products g ws (suc i)) n));
    }),
  )
    where
      p : List ℕ
      p = list_to (λ i. products g ws (suc i)) n
