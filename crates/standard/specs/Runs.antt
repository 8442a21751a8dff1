-- Laws of the runs of columns: linear; parity with a run is parity with the columns' sum.
use Rattle.std.specs.Prelude.{◌≡◌, refl, List, ℕ, zero, suc, ◌+◌, ◌*◌, ◌%◌, ◌^◌, ◌<◌, min, get_or}
use Rattle.std.proofs.Common.{sym, ap, ap₂, ◌∙◌, add_comm, arith}
use Rattle.std.proofs.Math.Logic.{by_cases}
use Rattle.std.proofs.Math.Nat.{two-pow-succ}
use Rattle.std.proofs.Math.Decide.{ℕ_discrete}
use Rattle.std.specs.Int.Bits.{bit_xor, xor_shifted}
use Rattle.std.proofs.lemmas.Nat.{xor_block, xor_lt}
use lib.Arith.{digits_lt, digits_div}
use Rattle.gf2.specs.DigitLaws.{xor_digit, low_bit}
use Rattle.gf2.specs.Digits.{bit, odd}
use Rattle.gf2.specs.Parity.{odd_lin_l, odd_lin_r, odd_lt, odd_zero_l, odd_zero_r, odd_shift, odd_times}
use Rattle.regular.specs.Columns.{run_of, plan_of}
use Rattle.regular.specs.Words.{total}
use Rattle.regular.specs.Runs.{Agree}

pub run_lt : (c : List ℕ) (n j : ℕ) → run_of c n j < 2 ^ n
unfolding run_of
run_lt c zero j = omega arith
run_lt c (suc n) j =
    omega (arith, two-pow-succ n, digits_lt {q = odd j (get_or c n 0)} {m = 2} {r = run_of c n j} {c = 2 ^ n} (odd_lt j (get_or c n 0)) (run_lt c n j))

run_suc : (c : List ℕ) (n j : ℕ) → run_of c (suc n) j ≡ odd j (get_or c n 0) * 2 ^ n + run_of c n j
unfolding run_of
run_suc c n j = add_comm (run_of c n j) (odd j (get_or c n 0) * 2 ^ n)

pub run_zero : (c : List ℕ) (n : ℕ) → run_of c n 0 ≡ 0
unfolding run_of
run_zero c zero = refl
run_zero c (suc n) = ap₂ (λ (r d : ℕ). r + d * 2 ^ n) (run_zero c n) (odd_zero_l (get_or c n 0)) ∙ omega arith

pub run_xor : (c : List ℕ) (n i j : ℕ) → run_of c n (bit_xor i j) ≡ bit_xor (run_of c n i) (run_of c n j)
unfolding run_of
run_xor c zero i j = refl
run_xor c (suc n) i j =
    let x = get_or c n 0 in
    run_suc c n (bit_xor i j)
    ∙ ap₂ (λ (d r : ℕ). d * 2 ^ n + r) (odd_lin_l i j x ∙ sym (xor_digit (odd i x) (odd j x) (odd_lt i x) (odd_lt j x))) (run_xor c n i j)
    ∙ sym (xor_block n (odd i x) (odd j x) (run_of c n i) (run_of c n j) (run_lt c n i) (run_lt c n j))
    ∙ sym (ap₂ bit_xor (run_suc c n i) (run_suc c n j))

-- the level of factor f in run j
pub run_bit : (c : List ℕ) (n j f : ℕ) → f < n → bit f (run_of c n j) ≡ odd j (get_or c f 0)
run_bit c zero j f h = absurd (omega arith)
run_bit c (suc n) j f h =
    by_cases (ℕ_discrete f n)
    (λ e. rw (e, run_suc c n j, digits_div (odd j (get_or c n 0)) {m = 2 ^ n} {r = run_of c n j} (run_lt c n j)) (omega (arith, odd_lt j (get_or c n 0))))
    (λ ne. rw run_suc (low_bit f n (odd j (get_or c n 0)) (run_of c n j) (omega arith) (run_lt c n j)) ∙ run_bit c n j f (omega arith))

-- equal columns, equal runs
pub run_cols : (c d : List ℕ) (n j : ℕ) → ((f : ℕ) → f < n → get_or c f 0 ≡ get_or d f 0) → run_of c n j ≡ run_of d n j
unfolding run_of
run_cols c d zero j h = refl
run_cols c d (suc n) j h = ap₂ (λ (r x : ℕ). r + odd j x * 2 ^ n) (run_cols c d n j (λ f l. h f (omega arith))) (h n (omega arith))

-- .. and the same plan
pub plan_cols : (n m : ℕ) (c d : List ℕ) → ((f : ℕ) → f < n → get_or c f 0 ≡ get_or d f 0) → Agree (plan_of n m c) (plan_of n m d)
plan_cols n m c d e = record {
  into = λ x p. (p.0, (p.1.0, p.1.1 ∙ run_cols c d n p.0 e));
  onto = λ x p. (p.0, (p.1.0, p.1.1 ∙ sym (run_cols c d n p.0 e)));
}

pub total_lt : (c : List ℕ) (n m w : ℕ) → ((f : ℕ) → f < n → get_or c f 0 < 2 ^ m) → total c n w < 2 ^ m
unfolding total
total_lt c zero m w h = lib.Pow.pow_pos m
total_lt c (suc n) m w h =
    xor_lt m (total c n w) (get_or c n 0 * bit n w) (total_lt c n m w (λ f l. h f (omega arith)))
    (by_cases (ℕ_discrete (bit n w) 0)
    (λ e. rw e (omega (arith, lib.Pow.pow_pos m)))
    (λ ne. let e : bit n w ≡ 1 = omega arith in rw e (omega (arith, h n (omega arith)))))

pub odd_total : (c : List ℕ) (n j w : ℕ) → odd j (total c n w) ≡ odd (run_of c n j) w
unfolding total
odd_total c zero j w = odd_zero_r j ∙ sym (ap (λ (r : ℕ). odd r w) (lib.Arith.lt-one (run_lt c 0 j)) ∙ odd_zero_l w)
odd_total c (suc n) j w =
    let x = get_or c n 0 in
    let d = odd j x in
    let p : odd (run_of c (suc n) j) w ≡ (min d (bit n w) + odd (run_of c n j) w) % 2 =
    ap (λ (r : ℕ). odd r w) (run_suc c n j ∙ sym (xor_shifted d n (run_of c n j) (run_lt c n j)))
    ∙ odd_lin_l (d * 2 ^ n) (run_of c n j) w
    ∙ ap (λ (o : ℕ). (o + odd (run_of c n j) w) % 2) (odd_shift n d w (odd_lt j x)) in
    odd_lin_r j (total c n w) (x * bit n w)
    ∙ ap₂ (λ (a b : ℕ). (a + b) % 2) (odd_total c n j w) (odd_times j x (bit n w) (omega arith))
    ∙ ap (λ (s : ℕ). s % 2) (omega arith)
    ∙ sym p
