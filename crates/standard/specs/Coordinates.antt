-- Coordinates of a run: its levels at the basic factors.
use Rattle.std.specs.Prelude.{◌≡◌, refl, List, [], ◌∷◌, ℕ, ◌+◌, ◌*◌, ◌^◌, ◌<◌, length}
use Rattle.std.proofs.Common.{sym, ap₂, ◌∙◌, arith}
use Rattle.std.proofs.Math.Nat.{two-pow-succ}
use Rattle.std.specs.Int.Bits.{bit_xor}
use Rattle.std.proofs.lemmas.Nat.{xor_block}
use Rattle.std.proofs.Math.Arith.{digits_lt}
use Rattle.gf2.specs.Digits.{bit}
use Rattle.gf2.specs.DigitLaws.{bit_xor_lem, xor_digit}
use Rattle.standard.specs.Model.{coord_of}

pub coord_lt : (bs : List ℕ) (x : ℕ) → coord_of bs x < 2 ^ length bs
unfolding coord_of
coord_lt [] x = omega arith
coord_lt (p ∷ bs) x =
    omega (arith, two-pow-succ (length bs), digits_lt {q = bit p x} {m = 2} {r = coord_of bs x} {c = 2 ^ length bs} (omega arith) (coord_lt bs x))

pub coord_xor : (bs : List ℕ) (x y : ℕ) → coord_of bs (bit_xor x y) ≡ bit_xor (coord_of bs x) (coord_of bs y)
unfolding coord_of
coord_xor [] x y = refl
coord_xor (p ∷ bs) x y =
    ap₂ (λ (d c : ℕ). d * 2 ^ length bs + c)
    (bit_xor_lem p x y ∙ sym (xor_digit (bit p x) (bit p y) (omega arith) (omega arith)))
    (coord_xor bs x y)
    ∙ sym (xor_block (length bs) (bit p x) (bit p y) (coord_of bs x) (coord_of bs y) (coord_lt bs x) (coord_lt bs y))
