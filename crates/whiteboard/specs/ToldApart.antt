-- The plain numbers that the C planner gets tell a comparison's answers apart: no number stands for two of them.
use Rattle.std.specs.Prelude.{◌≡◌, List, ℕ, ◌^◌, ◌≤◌, ◌<◌}
use Rattle.std.proofs.Common.{ap, arith, pow_mono}
use Rattle.regular.specs.Comparisons.{Compares, compared_faults, compared_number}
use Rattle.regular.specs.Given.{Given}
use Rattle.regular.specs.Answers.{Compared}

mask_most : (n : ℕ) → n ≤ 16 → (mask : ℕ) → mask < 2 ^ n → mask < 65536
mask_most n h mask l = omega (arith, pow_mono {i = n} {j = 16} h)

module _ (n : ℕ) (s t : Given) (entry : List ℕ) (few : (k : ℕ) → compared_faults n s t entry k → k ≤ 9) (most : n ≤ 16) where
  pub told_apart : (x y : List ℕ) (a b : Compared) → Compares n s t entry x a → Compares n s t entry y b → compared_number a ≡ compared_number b → a ≡ b
  told_apart x y a b (Compares.same m l c k p z) (Compares.same m2 l2 c2 k2 p2 z2) e = let q : m ≡ m2 = omega arith in ap Compared.Same q
  told_apart x y a b (Compares.same m l c k p z) (Compares.different l2 o d f z2) e = absurd (omega (arith, mask_most n most m c.within))
  told_apart x y a b (Compares.same m l c k p z) (Compares.refused r h o z2) e = absurd (omega (arith, few r (o.applies h)))
  told_apart x y a b (Compares.different l o d f z) (Compares.same m l2 c k p z2) e = absurd (omega (arith, mask_most n most m c.within))
  told_apart x y a b (Compares.different l o d f z) (Compares.different l2 o2 d2 f2 z2) e = let q : l ≡ l2 = omega arith in ap Compared.Different q
  told_apart x y a b (Compares.different l o d f z) (Compares.refused r h o2 z2) e = absurd (omega (arith, few r (o2.applies h)))
  told_apart x y a b (Compares.refused r h o z) (Compares.same m l c k p z2) e = absurd (omega (arith, few r (o.applies h)))
  told_apart x y a b (Compares.refused r h o z) (Compares.different l o2 d f z2) e = absurd (omega (arith, few r (o.applies h)))
  told_apart x y a b (Compares.refused r h o z) (Compares.refused r2 h2 o2 z2) e = ap Compared.Refused e
