-- The first k numbers of an array, lent.
use Rattle.std.specs.Prelude.{List, ℕ, ◌≤◌, length, take}
use Rattle.std.proofs.Common.{sym, length-take-le}
use Rattle.lent.specs.Copied.{Starts}
use Rattle.lent.specs.Lends.{Lends, lends_part}
use Rattle.regular.specs.Smallest.{Equal}

pub part_lent : (k : ℕ) (arr : List ℕ) {ys zs : List ℕ} {r : ℕ} → k ≤ length arr → Lends 0 (length (take k arr)) (Starts (take k arr)) ys zs r
    → Lends 0 k (λ us. Equal k us arr) ys zs r
part_lent k arr {ys} {zs} {r} h l = lends_part k arr ys zs r (sym (length-take-le k arr h)) l
