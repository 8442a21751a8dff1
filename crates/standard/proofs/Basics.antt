-- The walk over the factors, on: what holds of the next factor, and of each number of them.
use Rattle.std.specs.Prelude.{◌≡◌, Bool, true, false, eqb}
use Rattle.std.proofs.Math.Path.{refl, sym}
use Rattle.std.proofs.Common.{◌∙◌, subst, ⊎_elim, eqb-true, pow_pos}
use Rattle.std.proofs.Math.Logic.{by_cases}
use mathlib.Core.List.{List, [], ◌∷◌}
use Prim.Native.Nat.{ℕ, zero, suc, ◌^◌, ◌<◌}
use Rattle.std.proofs.Math.Nat.{two-pow-succ}
use native.Mathlib.Omega.{arith}
use Rattle.std.proofs.Math.Decide.{ℕ_discrete}
use Rattle.std.proofs.lemmas.Bool.{eqb-false}
use Rattle.std.specs.Int.Bits.{bit_xor}
use Rattle.std.proofs.Math.ListN.{length}
use Rattle.gf2.specs.Members.{In}
use Rattle.standard.specs.Coordinates.{coord_lt}
use Rattle.standard.specs.Model.{fits_all, first_fit, choose, basics_at, column_at}
use Rattle.standard.specs.Basics.{ColumnFits, fits_all_lem, FirstFit, first_fit_lem, fits_keep, fits_fresh, onto_next, After, NextFactor}

module _ (u : List ℕ) (closed : (x y : ℕ) → In x u → In y u → In (bit_xor x y) u) where
  next_at : (bs : List ℕ) (f c : ℕ) (t : Bool) → After u bs f → column_at u f ≡ c → FirstFit bs u f 0 (2 ^ length bs) c → eqb c (2 ^ length bs) ≡ t
      → NextFactor u f bs (choose t (f ∷ bs) bs)
  next_at bs f c true a e fst t =
      let l = length bs in
      let q : c ≡ 2 ^ l = eqb-true c (2 ^ l) t in
      let al = a.small in
      let tw = two-pow-succ l in
      let pp = pow_pos l in
      record {
        column_le = omega arith;
        units = rw (e, t) (omega arith);
        after = record {
          small = omega arith;
          onto = onto_next u closed bs f a.onto (⊎_elim (λ r i h. r.1 i (omega arith) h) (λ r i h. absurd (omega (arith, r.0))) fst);
          fits = λ g h. by_cases (ℕ_discrete g f)
              (λ s. rw s (omega arith, subst (λ (k : ℕ). ColumnFits (f ∷ bs) u f k) (sym (e ∙ q)) (fits_fresh bs u f)))
              (λ ne. let r = a.fits g (omega arith) in (omega (arith, r.0), fits_keep bs u f g (column_at u g) r.0 r.1));
        };
      }
  next_at bs f c false a e fst t =
      let l = length bs in
      let nq = eqb-false c (2 ^ l) t in
      let al = a.small in
      let hit : (c < 2 ^ l) × (fits_all bs u f c ≡ true) = ⊎_elim (λ r. absurd (nq r.0)) (λ r. r) fst in
      let lt = hit.0 in
      record {
        column_le = omega arith;
        units = rw (e, t) (omega arith);
        after = record {
          small = omega arith;
          onto = a.onto;
          fits = λ g h. by_cases (ℕ_discrete g f)
              (λ s. rw s (omega arith, subst (λ (k : ℕ). ColumnFits bs u f k) (sym e) (fits_all_lem bs u f c hit.1)))
              (λ ne. a.fits g (omega arith));
        };
      }

  pub next_is : (f : ℕ) → After u (basics_at u f) f → NextFactor u f (basics_at u f) (basics_at u (suc f))
  unfolding basics_at column_at
  next_is f a =
      let bs = basics_at u f in
      next_at bs f (first_fit bs u f) (eqb (first_fit bs u f) (2 ^ length bs)) a refl (first_fit_lem bs u f) refl

  pub after_is : In 0 u → (f : ℕ) → After u (basics_at u f) f
  unfolding basics_at
  after_is m zero =
      record {
        small = omega arith;
        onto = λ j l. (0, (m, omega (arith, coord_lt [] 0)));
        fits = λ g l. absurd (omega arith);
      }
  after_is m (suc f) = (next_is f (after_is m f)).after
