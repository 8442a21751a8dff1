-- Columns under other names: the same plan, by the names, with no switches; of the same rank, and different if those are.
use Rattle.std.specs.Prelude.{◌≡◌, refl, List, ℕ, ◌^◌, ◌<◌, get_or}
use Rattle.std.proofs.Common.{sym, ap, ap₂, subst, ◌∙◌, arith, pow_pos}
use Rattle.std.proofs.Math.Logic.{by_cases}
use Rattle.std.proofs.Math.Decide.{ℕ_discrete, dec_lt}
use Rattle.std.specs.Int.Bits.{xor_zero_r}
use Rattle.gf2.specs.Digits.{odd}
use Rattle.gf2.specs.Parity.{by_parity}
use Rattle.regular.specs.Columns.{plan_of, run_of, Below, Spans}
use Rattle.regular.specs.Same.{moved, Renaming, Carries}
use Rattle.regular.specs.Words.{total}
use Rattle.standard.specs.Form.{DistinctNonzero}
use Rattle.standard.specs.Runs.{run_lt, run_bit, odd_total, total_lt}
use Rattle.isomorphism_laws.specs.Renamings.{unmoved, unmoved_lt, moved_unmoved, moved_is, odd_moved}
use Rattle.load_laws.specs.Swaps.{Rearranged}

module _ (n m : ℕ) (b c p : List ℕ) (r : Renaming n p) (k : Rearranged n b p c) where
  runs_moved : (j : ℕ) → moved p n (run_of c n j) ≡ run_of b n j
  runs_moved j =
      moved_is n p r (run_of c n j) (run_of b n j) (run_lt b n j)
      (λ f h. run_bit b n j (get_or p f 0) (r.within f h) ∙ ap (odd j) (sym (k f h)) ∙ sym (run_bit c n j f h))

  pub rearranged_carries : Carries n (plan_of n m c) (plan_of n m b) p 0
  rearranged_carries = record {
    renaming = r;
    within = pow_pos n;
    into = λ x s. (s.0, (s.1.0, xor_zero_r (moved p n x) ∙ ap (moved p n) s.1.1 ∙ runs_moved s.0));
    onto = λ y s. (run_of c n s.0, ((s.0, (s.1.0, refl)), s.1.1 ∙ sym (xor_zero_r (moved p n (run_of c n s.0)) ∙ runs_moved s.0)));
  }

  pub rearranged_below : Below n m b → Below n m c
  rearranged_below below f h = subst (λ (x : ℕ). x < 2 ^ m) (sym (k f h)) (below (get_or p f 0) (r.within f h))

  pub rearranged_spans : Below n m b → Spans n m b → Spans n m c
  rearranged_spans below rank v h =
      let s = rank v h in
      let w = unmoved p n s.0 in (
        w,
        (
          unmoved_lt n p s.0,
          by_parity m (total c n w) v (total_lt c n m w (rearranged_below below)) h
              (λ j l. odd_total c n j w ∙ sym (odd_moved n p r (run_of c n j) w (unmoved_lt n p s.0))
              ∙ ap₂ odd (runs_moved j) (moved_unmoved n p r s.0 s.1.0) ∙ sym (odd_total b n j s.0) ∙ ap (odd j) s.1.1),
        ),
      )

  pub rearranged_distinct : DistinctNonzero n b → DistinctNonzero n c
  rearranged_distinct q = record {
    some = λ f h. subst (λ (x : ℕ). 0 < x) (sym (k f h)) (q.some (get_or p f 0) (r.within f h));
    once = λ f g l h e. once f g l h (sym (k f (omega arith)) ∙ e ∙ k g h);
  }
    where
      once : (f g : ℕ) → f < g → g < n → get_or b (get_or p f 0) 0 ≡ get_or b (get_or p g 0) 0 → ⊥
      once f g l h e =
          let i = get_or p f 0 in
          let j = get_or p g 0 in
          by_cases (ℕ_discrete i j) (λ same. omega (arith, r.once f g (omega arith) h same))
          (λ ne. by_cases (dec_lt i j) (λ b. q.once i j b (r.within g h) e) (λ b. q.once j i (omega arith) (r.within f (omega arith)) (sym e)))
