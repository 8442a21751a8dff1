-- Standard columns of an admitted plan: that the plan has few generators, and that what is counted of the columns is what is meant.
use Rattle.std.specs.Prelude.{List, ◌∷◌, ◌≡◌, ℕ, suc, ◌+◌, ◌-◌, ◌^◌, ◌≤◌, ◌<◌, get_or}
use Rattle.std.proofs.Common.{⊎_elim, sym, subst, ◌∙◌, arith, pow_mono, pow_pos}
use Rattle.std.proofs.Math.Logic.{by_cases}
use Rattle.std.proofs.Math.Decide.{dec_lt}
use Rattle.std.specs.Int.Bits.{bit_xor}
use Rattle.std.proofs.lemmas.Nat.{ones-le}
use Rattle.gf2.specs.Counts.{Count}
use Rattle.gf2.specs.Lists.{upto, fewer, upto_in, upto_length, list_to, to_length, to_different, of_to}
use Rattle.gf2.specs.Members.{In}
use Rattle.regular.specs.Columns.{plan_of, RunTable}
use Rattle.regular.specs.Pattern.{Pattern, Distances}
use Rattle.regular.specs.Runs.{Runs}
use Rattle.regular.specs.Words.{Word, letters}
use Rattle.standard.specs.Form.{StandardFor}
use Rattle.standard.specs.Runs.{run_lt}
use Rattle.standard.specs.Units.{standard_below, standard_apart}
use Rattle.words.specs.Generators.{Generators}
use Rattle.counts.specs.Distances.{model_distances}
use Rattle.counts.specs.Models.{PatternModel, DistanceModel}
use Rattle.counts.specs.Tally.{tally_none}
use Rattle.counts.specs.WordCounts.{model_pattern}
use Rattle.admission.specs.Admission.{Ready}
use Rattle.generators.specs.WordTable.{WordTable, table_generators}

module _ {n g : ℕ} {a : List ℕ} (ready : Ready n g a) where
  abbrev column : ℕ → ℕ
  column f = get_or a f 0

  column_once : (i j : ℕ) → i < n → j < n → column i ≡ column j → i ≡ j
  column_once i j hi hj e =
      by_cases (dec_lt i j) (λ l. absurd (ready.distinct.once i j l hj e))
      (λ k. by_cases (dec_lt j i) (λ l. absurd (ready.distinct.once j i l hi (sym e))) (λ l. omega arith))

  column_lt : (f : ℕ) → f < n → column f < 2 ^ (n - g)
  column_lt = standard_below n (n - g) a ready.form

  -- 0 and n different columns from 1 to 2^m - 1
  columns_fit : suc n ≤ 2 ^ (n - g)
  columns_fit =
      let apart : In 0 (list_to column n) → ⊥ = λ m. let r = of_to column n 0 m in omega (arith, r.1.1, ready.distinct.some r.0 r.1.0) in
      let f = fewer (0 ∷ list_to column n) (upto (2 ^ (n - g))) (apart, to_different column n column_once)
      (λ z m. upto_in (2 ^ (n - g)) z (⊎_elim (λ e. omega (arith, pow_pos (n - g)))
      (λ i. let r = of_to column n z i in omega (arith, r.1.1, column_lt r.0 r.1.0)) m)) in
      omega (arith, f, to_length column n, upto_length (2 ^ (n - g)))

  -- at most 11 generators
  pub few_generators : g ≤ 11
  few_generators =
      let z = ready.size in
      by_cases (dec_lt 4 (n - g)) (λ h. omega (arith, z.most))
      (λ h. by_cases (dec_lt 3 (n - g))
      (λ k. omega (arith, columns_fit, pow_mono {i = n - g} {j = 4} (omega arith), z.less))
      (λ k. omega (arith, columns_fit, pow_mono {i = n - g} {j = 3} (omega arith), z.less)))

  -- the plan of the columns
  abbrev plan : Runs
  plan = plan_of n (n - g) a

  standard : StandardFor n (n - g) plan a
  standard = record { form = ready.form; plan = record { into = λ x p. p; onto = λ x p. p } }

  -- the words
  words : (ws : List ℕ) → WordTable n a ws → Generators n g plan ws
  words ws t =
      let z = ready.size in
      let e : n - (n - g) ≡ g = omega (arith, z.less) in
      subst (λ (k : ℕ). Generators n k plan ws) e (table_generators n (n - g) plan a ws standard t)

  -- the pattern
  pub words_pattern : {ws p : List ℕ} → WordTable n a ws → PatternModel n g ws p → Pattern n plan p
  words_pattern {ws} {p} t = model_pattern n g plan ws (words ws t) p

  -- the runs have at most n low levels
  runs_within : {t : List ℕ} → RunTable n (n - g) a t → (j : ℕ) → j < 2 ^ (n - g) → letters (get_or t j 0) ≤ n
  runs_within {t} r j h = ones-le n (get_or t j 0) (omega (arith, r.run j h, run_lt a n j))

  -- the distance counts
  pub runs_distances : {end : ℕ} {t d : List ℕ} → RunTable n (n - g) a t → end ≡ 2 ^ (n - g) → DistanceModel 16 end t d → Distances n plan 0 d
  runs_distances {end} {t} {d} r e c =
      model_distances n (n - g) a (standard_apart n (n - g) a ready.form) end t d r e
      (record {
        counts = λ i l. c.counts i (omega (arith, ready.size.most));
        unused = λ i l. by_cases (dec_lt 16 i) (c.unused i)
            (λ s. c.counts i (omega arith) ∙ tally_none (λ j. letters (get_or t j 0)) end i (λ j h q. omega (arith, runs_within r j (omega arith))));
      })

-- counts in the first places of a longer list
pub pattern_begins : (n : ℕ) (s : Runs) (p q : List ℕ) → ((i : ℕ) → i < n → get_or q i 0 ≡ get_or p i 0) → Pattern n s p → Pattern n s q
pattern_begins n s p q same c =
    record { counts = λ l low high. subst (Count (λ w. Word n s w × (letters w ≡ l))) (sym (same (l - 1) (omega arith))) (c.counts l low high) }

pub distances_begins : (n : ℕ) (s : Runs) (first : ℕ) (d e : List ℕ) → ((i : ℕ) → i < n + 1 → get_or e i 0 ≡ get_or d i 0)
    → Distances n s first d → Distances n s first e
distances_begins n s first d e same c =
    record { counts = λ i h. subst (Count (λ x. s x × (letters (bit_xor x first) ≡ i))) (sym (same i (omega arith))) (c.counts i h) }
