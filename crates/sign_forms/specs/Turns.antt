-- A turn of the loop over the words: the sign of one word more.
use Rattle.std.specs.Prelude.{◌≡◌, List, ℕ, ◌+◌, ◌*◌, ◌%◌, ◌^◌, ◌<◌, get_or}
use Rattle.std.proofs.Common.{ap, ap₂, ◌∙◌, add-one, arith, shl_exact}
use Rattle.std.specs.Int.Bits.{bit_or, or_shifted_r}
use Rattle.gf2.specs.Digits.{odd}
use Rattle.gf2.specs.Parity.{odd_lt}
use Rattle.regular.specs.Columns.{run_of}
use Rattle.standard.specs.Runs.{run_lt}

pub run_turn : (c : List ℕ) (i j w x : ℕ) → i < 16 → w ≡ run_of c i j → x ≡ odd j (get_or c i 0) → bit_or w (x * 2 ^ i % 2 ^ 16) ≡ run_of c (i + 1) j
unfolding run_of
run_turn c i j w x h e p =
    let r = run_of c i j in
    let q : x * 2 ^ i % 2 ^ 16 ≡ x * 2 ^ i = shl_exact 1 i 16 (omega (arith, odd_lt j (get_or c i 0))) (omega arith) in
    rw (add-one i) (ap₂ bit_or e q ∙ or_shifted_r x i r (run_lt c i j) ∙ ap (λ (a : ℕ). a * 2 ^ i + r) p ∙ omega arith)
