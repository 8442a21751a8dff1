-- Laws of distance counts: the definition fixes them, every run of a regular plan has the same ones, and the runs' low levels give them.
use Rattle.std.specs.Prelude.{◌≡◌, List, ℕ, ◌^◌, ◌≤◌, ◌<◌, get_or}
use Rattle.std.proofs.Common.{sym, ap, subst, ◌∙◌}
use Rattle.std.specs.Int.Bits.{bit_xor, xor_zero_r}
use Rattle.gf2.specs.Counts.{Count, count_same, count_image, count_unique}
use Rattle.gf2.specs.DigitLaws.{xor_back, xor_cancel}
use Rattle.regular.specs.Columns.{run_of, plan_of, RunTable}
use Rattle.regular.specs.Pattern.{Distances}
use Rattle.regular.specs.Runs.{Runs, Regular}
use Rattle.regular.specs.Words.{letters}
use Rattle.standard.specs.Form.{ZeroOnce}
use Rattle.standard.specs.FromColumns.{apart_inj}
use Rattle.counts.specs.Models.{DistanceModel}
use Rattle.counts.specs.Tally.{tally, tally_same, tally_image}

-- one list of distance counts
pub distances_unique : (n : ℕ) (s : Runs) (r : ℕ) (d e : List ℕ) → Distances n s r d → Distances n s r e → (i : ℕ) → i ≤ n → get_or d i 0 ≡ get_or e i 0
distances_unique n s r d e a b i h = count_unique (λ x. s x × (letters (bit_xor x r) ≡ i)) (get_or d i 0) (get_or e i 0) (a.counts i h) (b.counts i h)

-- from any run of a regular plan
module _ (s : Runs) (regular : Regular s) (r t : ℕ) (hr : s r) (ht : s t) where
  abbrev moved : ℕ → ℕ
  moved x = bit_xor (bit_xor x r) t

  moved_back : (y : ℕ) → y ≡ moved (bit_xor (bit_xor y t) r)
  moved_back y = sym (ap (λ (z : ℕ). bit_xor z t) (xor_back (bit_xor y t) r) ∙ xor_back y t)

  moved_once : (x y : ℕ) → moved x ≡ moved y → x ≡ y
  moved_once x y e = xor_cancel x y r (xor_cancel (bit_xor x r) (bit_xor y r) t e)

  pub distances_any_run : (n : ℕ) (d : List ℕ) → Distances n s r d → Distances n s t d
  distances_any_run n d h = record {
    counts = λ i l. count_image (λ x. s x × (letters (bit_xor x r) ≡ i)) (λ y. s y × (letters (bit_xor y t) ≡ i)) (get_or d i 0) moved
        (λ x p. (regular x r t p.0 hr ht, ap letters (xor_back (bit_xor x r) t) ∙ p.1))
        (λ y q. (bit_xor (bit_xor y t) r, ((regular y t r q.0 ht hr, ap letters (xor_back (bit_xor y t) r) ∙ q.1), moved_back y)))
        (λ x y p q e. moved_once x y e)
        (h.counts i l);
  }

-- columns of rank m: the runs of i low levels
module _ (n m : ℕ) (c : List ℕ) (apart : ZeroOnce n m c) where
  pub levels_count : (i : ℕ) → Count (λ x. plan_of n m c x × (letters (bit_xor x 0) ≡ i)) (tally (λ j. letters (run_of c n j)) (2 ^ m) i)
  levels_count i =
      count_same (λ x. (j : ℕ) × ((j < 2 ^ m) × ((letters (run_of c n j) ≡ i) × (x ≡ run_of c n j)))) (λ x. plan_of n m c x × (letters (bit_xor x 0) ≡ i))
      (tally (λ j. letters (run_of c n j)) (2 ^ m) i)
      (λ x p. ((p.0, (p.1.0, p.1.1.1)), ap letters (xor_zero_r x ∙ p.1.1.1) ∙ p.1.1.0))
      (λ x p. let a = p.0 in (a.0, (a.1.0, (ap letters (sym a.1.1 ∙ sym (xor_zero_r x)) ∙ p.1, a.1.1))))
      (tally_image (run_of c n) (λ j. letters (run_of c n j)) (2 ^ m) i (apart_inj n m c apart))

  -- the model is the distance counts from the first run
  pub model_distances : (end : ℕ) (t d : List ℕ) → RunTable n m c t → end ≡ 2 ^ m → DistanceModel n end t d → Distances n (plan_of n m c) 0 d
  model_distances end t d table e model = record {
    counts = λ i l.
        subst (Count (λ x. plan_of n m c x × (letters (bit_xor x 0) ≡ i)))
        (sym (model.counts i l ∙ ap (λ (k : ℕ). tally (λ j. letters (get_or t j 0)) k i) e
        ∙ tally_same (λ j. letters (get_or t j 0)) (λ j. letters (run_of c n j)) (2 ^ m) i (λ j h. ap letters (table.run j h))))
        (levels_count i);
  }
