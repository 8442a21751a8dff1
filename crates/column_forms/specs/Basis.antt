-- Independent columns: they are no more than the bits of their numbers, columns that reach every number are no fewer, and one more may join them.
use Rattle.std.specs.Prelude.{◌≡◌, refl, List, [], ◌∷◌, ◌++◌, ℕ, zero, suc, ◌+◌, ◌-◌, ◌*◌, ◌^◌, ◌≤◌, ◌<◌, length, get_or}
use Rattle.std.proofs.Common.{sym, ap, ap₂, ◌∙◌, subst, arith, pow_pos}
use Rattle.std.proofs.Math.Logic.{by_cases}
use Rattle.std.proofs.Math.Nat.{two-pow-succ}
use Rattle.std.proofs.Math.Decide.{dec_lt}
use Rattle.std.specs.Int.Bits.{bit_xor, xor_zero_l}
use Rattle.std.proofs.Math.ListN.{get_or-append}
use Rattle.std.proofs.lemmas.List.{get_or_at}
use Rattle.gf2.specs.DigitLaws.{xor_none, pow_le_inv}
use Rattle.gf2.specs.Digits.{odd}
use Rattle.gf2.specs.Lists.{upto, upto_in, upto_lt, upto_length, upto_different, list_to, to_length, in_to, of_to, to_different, fewer}
use Rattle.gf2.specs.Members.{In}
use Rattle.regular.specs.Columns.{run_of, Below}
use Rattle.regular.specs.Words.{total, Independent}
use Rattle.standard.specs.Runs.{total_lt, odd_total}
use Rattle.standard.specs.Total.{total_cols, total_none, total_next, total_more, InSpan, independent_once}

-- independent columns are at most as many as their bits
pub independent_few : (r m : ℕ) (t : List ℕ) → Independent r t → Below r m t → r ≤ m
independent_few r m t ind b =
    pow_le_inv r m
    (omega (
      arith,
      to_length (total t r) (2 ^ r),
      upto_length (2 ^ m),
      fewer (list_to (total t r) (2 ^ r)) (upto (2 ^ m)) (to_different (total t r) (2 ^ r) (independent_once r t ind))
          (λ z m0. let o = of_to (total t r) (2 ^ r) z m0 in upto_in (2 ^ m) z (omega (arith, o.1.1, total_lt t r m o.0 b))),
    ))

-- columns that reach every number are no fewer than the bits
pub spans_many : (r m : ℕ) (t : List ℕ) → ((v : ℕ) → v < 2 ^ m → InSpan t r v) → m ≤ r
spans_many r m t sp =
    pow_le_inv m r
    (omega (
      arith,
      to_length (total t r) (2 ^ r),
      upto_length (2 ^ m),
      fewer (upto (2 ^ m)) (list_to (total t r) (2 ^ r)) (upto_different (2 ^ m))
          (λ z m0. let o = sp z (upto_lt (2 ^ m) z m0) in
          subst (λ (x : ℕ). In x (list_to (total t r) (2 ^ r))) o.1.1 (in_to (total t r) (2 ^ r) o.0 o.1.0)),
    ))

-- one more column
module _ (t : List ℕ) (r : ℕ) (size : length t ≡ r) (c : ℕ) where
  abbrev more : List ℕ
  more = t ++ (c ∷ [])

  pub more_old : (i : ℕ) → i < r → get_or more i 0 ≡ get_or t i 0
  more_old i h = get_or-append t (c ∷ []) 0 i (omega arith)

  pub more_new : get_or more r 0 ≡ c
  more_new = get_or_at t c [] 0 r size

  pub more_low : (k : ℕ) → k < 2 ^ r → total more (suc r) k ≡ total t r k
  more_low k h = total_more more r (suc r) k (omega arith) h ∙ total_cols more t r k more_old

  pub more_high : (k : ℕ) → k < 2 ^ r → total more (suc r) (2 ^ r + k) ≡ bit_xor (total t r k) c
  more_high k h =
      let e : 2 ^ r + k ≡ 1 * 2 ^ r + k = omega arith in
      let q : get_or more r 0 * 1 ≡ c = omega (arith, more_new) in
      ap (total more (suc r)) e ∙ total_next more r 1 k (omega arith) h ∙ ap₂ bit_xor (total_cols more t r k more_old) q

  pub more_unit : total more (suc r) (2 ^ r) ≡ c
  more_unit =
      let e : 2 ^ r ≡ 2 ^ r + 0 = omega arith in
      ap (total more (suc r)) e ∙ more_high 0 (pow_pos r) ∙ ap (λ (x : ℕ). bit_xor x c) (total_none t r) ∙ xor_zero_l c

  -- that is no sum of the others
  pub more_independent : Independent r t → (InSpan t r c → ⊥) → Independent (suc r) more
  more_independent ind out s h e =
      by_cases (dec_lt s (2 ^ r))
      (λ l. ind s l (sym (more_low s l) ∙ e))
      (λ l.
      let k = s - 2 ^ r in
      let hk : k < 2 ^ r = omega (arith, two-pow-succ r) in
      let q : s ≡ 2 ^ r + k = omega arith in
      absurd (out (k, (hk, xor_none (total t r k) c (sym (more_high k hk) ∙ ap (total more (suc r)) (sym q) ∙ e)))))

-- columns a that the columns t take to c: run j of c is the run of a that run j of t says
pub run_through : (t : List ℕ) (r : ℕ) (a c : List ℕ) (n j : ℕ) → ((f : ℕ) → f < n → total t r (get_or a f 0) ≡ get_or c f 0)
    → run_of c n j ≡ run_of a n (run_of t r j)
unfolding run_of
run_through t r a c zero j h = refl
run_through t r a c (suc n) j h =
    ap₂ (λ (x d : ℕ). x + d * 2 ^ n) (run_through t r a c n j (λ f l. h f (omega arith)))
    (ap (odd j) (sym (h n (omega arith))) ∙ odd_total t r j (get_or a n 0))
