-- The run table of columns of rank m is a regular table of 2^m different runs. Rank m is: no run but the first is 0. m independent columns have it.
use Rattle.std.specs.Prelude.{◌≡◌, List, ℕ, ◌^◌, ◌<◌}
use Rattle.std.proofs.Common.{sym, ap, ap₂, ◌∙◌, subst, pow_pos}
use Rattle.std.specs.Int.Bits.{bit_xor, xor_self}
use Rattle.std.proofs.lemmas.Nat.{xor_lt}
use Rattle.gf2.specs.DigitLaws.{xor_none}
use Rattle.gf2.specs.Digits.{odd}
use Rattle.gf2.specs.Lists.{to_length, in_to, of_to, to_different, onto_range}
use Rattle.gf2.specs.Members.{In}
use Rattle.gf2.specs.Parity.{odd_comm, odd_zero_l, by_parity, odd_zero_r}
use Rattle.regular.specs.Columns.{run_of, Spans, Below}
use Rattle.regular.specs.Runs.{Table}
use Rattle.regular.specs.Words.{total, Independent}
use Rattle.standard.specs.FromTable.{Space}
use Rattle.standard.specs.Model.{run_table}
use Rattle.standard.specs.Form.{ZeroOnce}
use Rattle.standard.specs.Runs.{run_lt, run_zero, run_xor, odd_total, total_lt}
use Rattle.standard.specs.Total.{independent_once}

-- columns of rank m: only run 0 is 0
pub spans_apart : (n m : ℕ) (c : List ℕ) → Spans n m c → ZeroOnce n m c
spans_apart n m c sp j hj e =
    by_parity m j 0 hj (pow_pos m)
    (λ i hi.
    let s = sp i hi in
    odd_comm i j ∙ ap (odd j) (sym s.1.1) ∙ odd_total c n j s.0 ∙ ap (λ (r : ℕ). odd r s.0) e
    ∙ odd_zero_l s.0 ∙ sym (odd_zero_r i))

-- different runs
pub apart_inj : (n m : ℕ) (c : List ℕ) → ZeroOnce n m c → (i j : ℕ) → i < 2 ^ m → j < 2 ^ m → run_of c n i ≡ run_of c n j → i ≡ j
apart_inj n m c ap0 i j hi hj e =
    let z : run_of c n (bit_xor i j) ≡ 0 = run_xor c n i j ∙ ap (λ (r : ℕ). bit_xor r (run_of c n j)) e ∙ xor_self (run_of c n j) in
    let d : bit_xor i j ≡ 0 = ap0 (bit_xor i j) (xor_lt m i j hi hj) z in
    xor_none i j d

-- m independent columns of m bits reach every number, and so do their runs
pub independent_spans : (m : ℕ) (t : List ℕ) → Independent m t → Below m m t → Spans m m t
independent_spans m t ind b = onto_range (total t m) (2 ^ m) (λ i l. total_lt t m m i b) (independent_once m t ind)

pub runs_all : (m : ℕ) (t : List ℕ) → Spans m m t → (v : ℕ) → v < 2 ^ m → (j : ℕ) × ((j < 2 ^ m) × (run_of t m j ≡ v))
runs_all m t sp = onto_range (run_of t m) (2 ^ m) (λ j l. run_lt t m j) (apart_inj m m t (spans_apart m m t sp))

module _ (n m : ℕ) (c : List ℕ) where
  abbrev runs : List ℕ
  runs = run_table n m c

  runs_closed : (x y : ℕ) → In x runs → In y runs → In (bit_xor x y) runs
  runs_closed x y p q =
      let a = of_to (run_of c n) (2 ^ m) x p in
      let b = of_to (run_of c n) (2 ^ m) y q in
      subst (λ (z : ℕ). In z runs) (run_xor c n a.0 b.0 ∙ sym (ap₂ bit_xor a.1.1 b.1.1))
      (in_to (run_of c n) (2 ^ m) (bit_xor a.0 b.0) (xor_lt m a.0 b.0 a.1.0 b.1.0))

  runs_within : (x : ℕ) → In x runs → x < 2 ^ n
  runs_within x p = let a = of_to (run_of c n) (2 ^ m) x p in subst (λ (z : ℕ). z < 2 ^ n) (sym a.1.1) (run_lt c n a.0)

  runs_space : ZeroOnce n m c → Space n runs
  runs_space ap0 =
      record {
        zero_in = subst (λ (z : ℕ). In z runs) (run_zero c n) (in_to (run_of c n) (2 ^ m) 0 (pow_pos m));
        closed = runs_closed;
        within = runs_within;
        different = to_different (run_of c n) (2 ^ m) (apart_inj n m c ap0);
      }

  -- the run table of columns of rank m is a regular table
  pub runs_table : ZeroOnce n m c → Table n m runs
  runs_table ap0 =
      record {
        count = to_length (run_of c n) (2 ^ m);
        within = runs_within;
        different = (runs_space ap0).different;
        regular = λ x y z p q r. runs_closed (bit_xor x y) z (runs_closed x y p q) r;
      }
