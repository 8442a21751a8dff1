-- Signs change no measure of a plan: pattern, resolution and distance counts are those of the words without signs, the distances from whichever run.
use Rattle.std.specs.Prelude.{ℕ, ◌+◌, ◌%◌, ◌^◌, ◌≤◌, ◌<◌, ◌≡◌, List, get_or}
use Rattle.std.proofs.Common.{ap₂, subst, ◌∙◌, arith}
use Rattle.std.specs.Int.Bits.{bit_xor}
use Rattle.std.proofs.lemmas.Nat.{xor_lt}
use Rattle.gf2.specs.Digits.{bit}
use Rattle.gf2.specs.Parity.{odd_lin_l, odd_lt}
use Rattle.regular.specs.Pattern.{Pattern, Resolution, Distances}
use Rattle.regular.specs.Runs.{Agree, Regular, switched}
use Rattle.regular.specs.Words.{Generated, Fraction, Independent}
use Rattle.words.specs.Switches.{agree_sym, pattern_agree, resolution_agree, distances_agree, pattern_switched, resolution_switched, distances_switched}
use Rattle.counts.specs.Distances.{distances_any_run}
use Rattle.signs.specs.FractionLaws.{fraction_run}
use Rattle.signs.specs.SignLaws.{fraction_back}

-- a fraction with the run r, switched by it
module _ (n g : ℕ) (ws : List ℕ) (signs r : ℕ) (q : Fraction n g ws signs r) where
  back : Agree (Generated n g ws) (switched r (Fraction n g ws signs))
  back = agree_sym (switched r (Fraction n g ws signs)) (Generated n g ws) (fraction_back n g ws signs r q)

  -- distances from it are those of the words without signs
  pub plain_distances : (d : List ℕ) → Distances n (Generated n g ws) 0 d → Distances n (Fraction n g ws signs) r d
  plain_distances d h =
      distances_switched n r (Fraction n g ws signs) d (distances_agree n (Generated n g ws) (switched r (Fraction n g ws signs)) back 0 d h)

three : (b : ℕ) → b < 2 → ((b + b) % 2 + b) % 2 ≡ b
three b h = omega arith

-- a fraction is regular
pub fraction_regular : (n g : ℕ) (ws : List ℕ) (signs : ℕ) → Regular (Fraction n g ws signs)
fraction_regular n g ws signs x y z p q r = record {
  within = xor_lt n (bit_xor x y) z (xor_lt n x y p.within q.within) r.within;
  product = λ i h.
      let w = get_or ws i 0 in
      let s = bit i signs in
      odd_lin_l (bit_xor x y) z w
      ∙ ap₂ (λ (a b : ℕ). (a + b) % 2) (odd_lin_l x y w ∙ ap₂ (λ (a b : ℕ). (a + b) % 2) (p.product i h) (q.product i h)) (r.product i h)
      ∙ three s (subst (λ (d : ℕ). d < 2) (p.product i h) (odd_lt x w));
}

-- so its distances are the same from every run
pub signed_distances : (n g : ℕ) (ws : List ℕ) (signs r t : ℕ) → Fraction n g ws signs r → Fraction n g ws signs t → (d : List ℕ)
    → Distances n (Fraction n g ws signs) r d → Distances n (Fraction n g ws signs) t d
signed_distances n g ws signs r t p q d h = distances_any_run (Fraction n g ws signs) (fraction_regular n g ws signs) r t p q n d h

-- independent words
module _ (n g : ℕ) (ws : List ℕ) (signs : ℕ) (hn : n ≤ 16) (hg : g ≤ n) (hw : (i : ℕ) → i < g → get_or ws i 0 < 2 ^ n) (ind : Independent g ws) where
  run : (x : ℕ) × Fraction n g ws signs x
  run = fraction_run n g ws hn hg hw ind signs

  pub signed_pattern : (p : List ℕ) → Pattern n (Generated n g ws) p → Pattern n (Fraction n g ws signs) p
  signed_pattern p h =
      pattern_switched n run.0 (Fraction n g ws signs) p
      (pattern_agree n (Generated n g ws) (switched run.0 (Fraction n g ws signs)) (back n g ws signs run.0 run.1) p h)

  pub signed_resolution : (k : ℕ) → Resolution n (Generated n g ws) k → Resolution n (Fraction n g ws signs) k
  signed_resolution k h =
      resolution_switched n run.0 (Fraction n g ws signs) k
      (resolution_agree n (Generated n g ws) (switched run.0 (Fraction n g ws signs)) (back n g ws signs run.0 run.1) k h)
