-- Two records are equal if their parts are, two lists of one length if their places are. The first columns of two lists are the same list, or the
-- lists differ among them.
use Rattle.std.specs.Prelude.{◌≡◌, List, ℕ, ◌≤◌, ◌<◌, length, get_or, take}
use Rattle.std.proofs.Common.{sym, ap, ◌∙◌, arith, length-take-le, get_or-take}
use Rattle.std.proofs.Math.Seq.{ext_get_or}
use Rattle.regular.specs.Designs.{design_with}
use Rattle.regular.specs.declared.Design.{Design}
use Rattle.regular.specs.Smallest.{Equal}

pub columns_equal : (c d : List ℕ) (f : ℕ) → length c ≡ 16 → length d ≡ 16 → 16 ≤ f → ((g : ℕ) → g < f → get_or c g 0 ≡ get_or d g 0) → c ≡ d
columns_equal c d f p q h eq = ext_get_or 0 c d (p ∙ sym q) (λ g l. eq g (omega arith))

pub design_equal : (c d : Design) → c.factors ≡ d.factors → c.basics ≡ d.basics → c.mask ≡ d.mask → c.columns ≡ d.columns → c ≡ d
design_equal c d f b m e =
    ap (λ (x : ℕ). design_with x c.basics c.columns c.mask) f ∙ ap (λ (x : ℕ). design_with d.factors x c.columns c.mask) b
    ∙ ap (design_with d.factors d.basics c.columns) m ∙ ap (λ (x : List ℕ). design_with d.factors d.basics x d.mask) e

module _ (n : ℕ) (p c : List ℕ) (hp : n ≤ length p) (hc : n ≤ length c) where
  pub first_equal : take n p ≡ take n c → Equal n p c
  first_equal e f h = sym (get_or-take n p f 0 h) ∙ ap (λ (x : List ℕ). get_or x f 0) e ∙ get_or-take n c f 0 h

  pub equal_first : Equal n p c → take n p ≡ take n c
  equal_first q =
      let size = length-take-le n p hp in
      ext_get_or 0 (take n p) (take n c) (size ∙ sym (length-take-le n c hc))
      (λ f l. let h : f < n = omega (arith, l, size) in get_or-take n p f 0 h ∙ q f h ∙ sym (get_or-take n c f 0 h))
