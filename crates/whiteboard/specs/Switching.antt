-- Signs make no other plan: a plan with some factors switched is the same plan, each factor keeping its name, and so is that of words with any signs.
use Rattle.std.specs.Prelude.{ℕ, ◌^◌, ◌≤◌, ◌<◌, List, get_or}
use Rattle.std.proofs.Common.{sym, ap, subst, ◌∙◌}
use Rattle.std.specs.Int.Bits.{bit_xor}
use Rattle.gf2.specs.DigitLaws.{xor_back}
use Rattle.regular.specs.Runs.{Runs, Agree, switched}
use Rattle.regular.specs.Same.{Carries, Same, Within}
use Rattle.regular.specs.Words.{Generated, Fraction, Independent}
use Rattle.signs.specs.FractionLaws.{fraction_run}
use Rattle.signs.specs.SignLaws.{fraction_back}
use Rattle.isomorphism_laws.specs.Renamings.{kept, kept_renaming, moved_kept}

-- the switches alone are a witness
pub kept_carries : (n : ℕ) (s t : Runs) (mask : ℕ) → mask < 2 ^ n → Within n s → Agree (switched mask s) t → Carries n s t (kept n) mask
kept_carries n s t mask l w a = record {
  renaming = kept_renaming n;
  within = l;
  into = λ x h. subst (λ (y : ℕ). t (bit_xor y mask)) (sym (moved_kept n x (w x h))) (a.into (bit_xor x mask) (subst s (sym (xor_back x mask)) h));
  onto = λ y h. let x = bit_xor y mask in
      let there : s x = a.onto y h in
      (x, (there, sym (xor_back y mask) ∙ ap (λ (z : ℕ). bit_xor z mask) (sym (moved_kept n x (w x there)))));
}

-- words with signs: a run of theirs is such a mask
pub fraction_carries : (n g : ℕ) (ws : List ℕ) (signs r : ℕ) → Fraction n g ws signs r → Carries n (Fraction n g ws signs) (Generated n g ws) (kept n) r
fraction_carries n g ws signs r q =
    kept_carries n (Fraction n g ws signs) (Generated n g ws) r q.within (λ x h. h.within) (fraction_back n g ws signs r q)

-- independent words with any signs are the plan without
pub signs_same : (n g : ℕ) (ws : List ℕ) → n ≤ 16 → g ≤ n → ((i : ℕ) → i < g → get_or ws i 0 < 2 ^ n) → Independent g ws → (signs : ℕ)
    → Same n (Fraction n g ws signs) (Generated n g ws)
signs_same n g ws hn hg hw ind signs =
    let r = fraction_run n g ws hn hg hw ind signs in
    record { names = kept n; mask = r.0; carries = fraction_carries n g ws signs r.0 r.1 }
