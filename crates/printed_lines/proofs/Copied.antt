-- A text copied over a part of a list was added there.
use Rattle.std.specs.Prelude.{◌≡◌, refl, List, ℕ, ◌+◌, ◌≤◌, length, take, ◌++◌}
use Rattle.std.proofs.Common.{sym, ap, ◌∙◌, arith}
use Rattle.std.proofs.lemmas.Slice.{put_mid-paste, take-put_mid, drop-put_mid}
use Rattle.std.proofs.Math.Seq.{length-paste}
use borrow.Rule.Slice.PartMut.{put_mid}
use Rattle.printed_lines.specs.Text.{TextAdded}

pub text_put : (xs ys text : List ℕ) (at k : ℕ) → ys ≡ text → length text ≡ k → at + length text ≤ length xs
    → TextAdded xs (put_mid at k xs ys) at text (at + length text)
text_put xs ys text at k e size room =
    record {
      text = take-put_mid at k xs ys (at + length text) (ap (λ (l : List ℕ). at + length l) (sym e)) (omega (arith, room))
          ∙ ap (λ (l : List ℕ). take at xs ++ l) e;
      place = refl;
      rest = drop-put_mid at k xs ys (at + length text) (omega (arith, size)) (omega (arith, room)) (ap length e ∙ size);
      size = ap length (put_mid-paste at k xs ys text (length text) e size refl) ∙ length-paste xs at text (length text) room (omega arith);
    }
