-- The columns before swapping: they are one list, from 1 to the last column, different, and of rank m.
use Rattle.std.specs.Prelude.{◌≡◌, List, ℕ, zero, suc, ◌+◌, ◌-◌, ◌%◌, ◌^◌, ◌≤◌, ◌<◌, get_or}
use Rattle.std.proofs.Common.{sym, subst, ◌∙◌, mod-lt, arith, pow_pos, pow_mono}
use Rattle.std.proofs.Math.Logic.{by_cases}
use Rattle.std.proofs.Math.Decide.{ℕ_discrete, dec_lt}
use Rattle.std.proofs.Math.Pow.{pow-lt}
use Rattle.gf2.specs.DigitLaws.{pow_inj}
use Rattle.regular.specs.Columns.{Below, Spans, Column}
use Rattle.regular.specs.Loads.{draw, Unswapped}
use Rattle.regular.specs.Smallest.{Equal}
use Rattle.standard.specs.Form.{DistinctNonzero}
use Rattle.smallest_laws.specs.UnitForms.{units_spans}
use Rattle.load_laws.specs.Unused.{column_equal, first_unused_lem, first_between, first_one}

-- they are one list
unswapped_next : (n m seed : ℕ) (c d : List ℕ) → Unswapped n m seed c → Unswapped n m seed d → (f : ℕ) → f < n → Equal f c d → get_or c f 0 ≡ get_or d f 0
unswapped_next n m seed c d p q f l same =
    by_cases (dec_lt f m) (λ b. p.basic f b ∙ sym (q.basic f b))
    (λ b. first_one (2 ^ m - 1) (Column f c) (Column f d) (column_equal f c d same f (omega arith))
    (column_equal f d c (λ e h. sym (same e h)) f (omega arith)) (draw seed (f - m) % (2 ^ m - 1) + 1) (get_or c f 0) (get_or d f 0)
    (p.later f (omega arith) l) (q.later f (omega arith) l))

pub unswapped_one : (n m seed : ℕ) (c d : List ℕ) → Unswapped n m seed c → Unswapped n m seed d → (f : ℕ) → f ≤ n → Equal f c d
unswapped_one n m seed c d p q zero l e h = absurd (omega arith)
unswapped_one n m seed c d p q (suc f) l e h =
    let same = unswapped_one n m seed c d p q f (omega arith) in
    by_cases (ℕ_discrete e f)
    (λ i. subst (λ (x : ℕ). get_or c x 0 ≡ get_or d x 0) (sym i) (unswapped_next n m seed c d p q f l same)) (λ ne. same e (omega arith))

module _ (n m seed : ℕ) (c : List ℕ) (some : 1 ≤ m) (within : m ≤ n) (u : Unswapped n m seed c) where
  last_some : 0 < 2 ^ m - 1
  last_some = omega (arith, pow_mono {i = 1} {j = m} some)

  between : (f : ℕ) → f < n → (0 < get_or c f 0) × (get_or c f 0 < 2 ^ m)
  between f h =
      by_cases (dec_lt f m)
      (λ b. (omega (arith, u.basic f b, pow_pos f), omega (arith, u.basic f b, pow-lt {i = f} {j = m} b)))
      (λ b. let d = draw seed (f - m) in
      let r = first_between (2 ^ m - 1) (Column f c) (d % (2 ^ m - 1) + 1) (get_or c f 0) last_some (omega arith) (omega (arith, mod-lt d last_some))
      (u.later f (omega arith) h) in
      (r.0, omega (arith, r.1, pow_pos m)))

  pub unswapped_below : Below n m c
  unswapped_below f h = (between f h).1

  pub unswapped_distinct : DistinctNonzero n c
  unswapped_distinct = record { some = λ f h. (between f h).0; once = apart }
    where
      apart : (f g : ℕ) → f < g → g < n → get_or c f 0 ≡ get_or c g 0 → ⊥
      apart f g h l e =
          by_cases (dec_lt g m)
          (λ b. omega (arith, pow_inj f g (sym (u.basic f (omega arith)) ∙ e ∙ u.basic g b)))
          (λ b. first_unused_lem (2 ^ m - 1) (Column g c) (draw seed (g - m) % (2 ^ m - 1) + 1) (get_or c g 0) (u.later g (omega arith) l) (f, (h, e)))

  pub unswapped_spans : Spans n m c
  unswapped_spans = units_spans n m c (λ i h. (i, (omega arith, u.basic i h)))
