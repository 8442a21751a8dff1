-- Folding: a number exclusive-or itself shifted by k has, in its k lowest digits, the parity that its k + k lowest digits had. A number of 2^d digits
-- that is folded d times, at half of them first, has its parity in the last digit. `bits::parity` folds four times, for sixteen digits.
use Rattle.std.specs.Prelude.{◌≡◌, ℕ, zero, suc, ◌+◌, ◌-◌, ◌/◌, ◌%◌, ◌^◌, ◌<◌}
use Rattle.std.proofs.Common.{sym, ap, ◌∙◌, mod-lt, mod-eq_of_lt, lt_of_le_of_lt, arith, pow_pos}
use Rattle.std.proofs.Math.Nat.{two-pow-succ}
use Rattle.std.specs.Int.Bits.{bit_xor, bit_and}
use Rattle.std.proofs.lemmas.Nat.{and_mask, and_le_l, mod-pow-add, ones_cat}
use Rattle.std.specs.Int.Count.{ones}
use Rattle.gf2.specs.Digits.{odd}
use Rattle.gf2.specs.Parity.{odd_comm, odd_bit, odd_lin_l}

-- x with its digits from place k on put over its digits from place 0 on
abbrev pub fold : ℕ → ℕ → ℕ
fold k x = bit_xor x (x / 2 ^ k)

-- x folded d times: at 2^(d - 1), at half of that, and so on down to 1
unfoldable pub folded : ℕ → ℕ → ℕ
folded zero x = x
folded (suc d) x = folded d (fold (2 ^ d) x)

-- the parity of the k lowest digits
low_parity : (k x : ℕ) → odd x (2 ^ k - 1) ≡ ones (x % 2 ^ k) % 2
unfolding odd
low_parity k x = ap (λ (y : ℕ). ones y % 2) (and_mask x k)

-- k digits, and the k digits above them
ones_halves : (k x : ℕ) → ones (x % 2 ^ (k + k)) ≡ ones (x / 2 ^ k % 2 ^ k) + ones (x % 2 ^ k)
ones_halves k x = ap ones (mod-pow-add x k k) ∙ ones_cat k (x / 2 ^ k % 2 ^ k) (x % 2 ^ k) (mod-lt x (pow_pos k))

-- folded once
fold_parity : (k x : ℕ) → odd (fold k x) (2 ^ k - 1) ≡ odd x (2 ^ (k + k) - 1)
fold_parity k x =
    odd_lin_l x (x / 2 ^ k) (2 ^ k - 1)
    ∙ omega (arith, low_parity k x, low_parity k (x / 2 ^ k), low_parity (k + k) x, ones_halves k x)

-- folded d times
folded_parity : (d x : ℕ) → folded d x % 2 ≡ odd x (2 ^ 2 ^ d - 1)
unfolding folded
folded_parity zero x = sym (odd_comm x 1 ∙ odd_bit 0 x ∙ omega arith)
folded_parity (suc d) x =
    folded_parity d (fold (2 ^ d) x)
    ∙ fold_parity (2 ^ d) x
    ∙ ap (λ (k : ℕ). odd x (2 ^ k - 1)) (omega (arith, two-pow-succ d))

-- what two numbers of 2^d digits share
pub shared_parity : (d j c : ℕ) → j < 2 ^ 2 ^ d → folded d (bit_and j c) % 2 ≡ odd j c
unfolding odd
shared_parity d j c h =
    folded_parity d (bit_and j c)
    ∙ low_parity (2 ^ d) (bit_and j c)
    ∙ ap (λ (x : ℕ). ones x % 2) (mod-eq_of_lt (lt_of_le_of_lt (and_le_l j c) h))
