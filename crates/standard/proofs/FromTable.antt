-- A regular run table has standard columns: the model gives them.
use Rattle.std.specs.Prelude.{◌≡◌, List, length, get_or}
use Rattle.std.proofs.Common.{sym, ap, ◌∙◌, subst, mod-eq_of_lt, arith}
use Prim.Native.Nat.{ℕ, zero, suc, ◌^◌, ◌≤◌, ◌<◌}
use Rattle.gf2.specs.DigitLaws.{pow_le_inv}
use Rattle.gf2.specs.Digits.{odd}
use Rattle.gf2.specs.Lists.{image, fewer, upto, upto_lt, upto_in, upto_length, upto_different, image_length, in_image, of_image, image_different}
use Rattle.gf2.specs.Members.{In}
use Rattle.regular.specs.Columns.{run_of, plan_of}
use Rattle.regular.specs.Runs.{Table, runs_of, switched}
use Rattle.standard.specs.Basics.{After}
use Rattle.standard.proofs.Basics.{next_is, after_is}
use Rattle.standard.specs.Coordinates.{coord_lt}
use Rattle.standard.specs.Model.{diffs, coord_of, basics_at, columns_to, standard}
use Rattle.standard.specs.Form.{units_before, StandardForm, StandardFor}
use Rattle.standard.specs.FromTable.{columns_at_lem, run_is, Space, back_in, diff_in, table_space, diffs_count}

module _ (n : ℕ) (u : List ℕ) (s : Space n u) where
  abbrev cols : List ℕ
  cols = columns_to u n

  after_at : (f : ℕ) → After u (basics_at u f) f
  after_at f = after_is u s.closed s.zero_in f

  basics_few : (f : ℕ) → 2 ^ length (basics_at u f) ≤ length u
  basics_few f =
      let bs = basics_at u f in
      let c = coord_of bs in
      let k = 2 ^ length bs in
      let l : length (upto k) ≤ length (image c u) = fewer (upto k) (image c u) (upto_different k)
      (λ j m. let o = (after_at f).onto j (upto_lt k j m) in subst (λ (i : ℕ). In i (image c u)) o.1.1 (in_image c u o.0 o.1.0)) in
      omega (arith, upto_length k, image_length c u)

  run_of_coord : (x : ℕ) → In x u → x ≡ run_of cols n (coord_of (basics_at u n) x)
  run_of_coord x m =
      let a = after_at n in
      sym (mod-eq_of_lt (s.within x m))
      ∙ run_is cols (coord_of (basics_at u n) x) x n
      (λ g h. (a.fits g h).1 x m ∙ ap (odd (coord_of (basics_at u n) x)) (sym (columns_at_lem u n g h)))

  basics_many : length u ≤ 2 ^ length (basics_at u n)
  basics_many =
      let bs = basics_at u n in
      let c = coord_of bs in
      let k = 2 ^ length bs in
      let l : length (image c u) ≤ length (upto k) = fewer (image c u) (upto k)
      (image_different c u s.different (λ x y p q e. run_of_coord x p ∙ ap (run_of cols n) e ∙ sym (run_of_coord y q)))
      (λ y m. let o = of_image c u y m in upto_in k y (subst (λ (i : ℕ). i < k) (sym o.1.1) (coord_lt bs o.0))) in
      omega (arith, upto_length k, image_length c u)

  units_at_lem : (f : ℕ) → f ≤ n → units_before cols f ≡ length (basics_at u f)
  unfolding units_before
  units_at_lem zero h = omega (arith, (after_at zero).small)
  units_at_lem (suc f) h =
      let e = units_at_lem f (omega arith) in
      let p = columns_at_lem u n f (omega arith) in
      let q = (next_is u s.closed f (after_at f)).units in
      rw (e, p) (sym q)

  module _ (m : ℕ) (count : length u ≡ 2 ^ m) where
    rank_is : length (basics_at u n) ≡ m
    rank_is =
        let p = pow_le_inv (length (basics_at u n)) m (omega (arith, basics_few n)) in
        let q = pow_le_inv m (length (basics_at u n)) (omega (arith, basics_many)) in
        omega arith

    space_form : StandardForm n m cols
    space_form =
        record {
          next = λ f h. rw (columns_at_lem u n f h, units_at_lem f (omega arith)) (next_is u s.closed f (after_at f)).column_le;
          units = units_at_lem n (omega arith) ∙ rank_is;
        }

    space_into : (x : ℕ) → In x u → plan_of n m cols x
    space_into x i = (
      coord_of (basics_at u n) x,
      (
        subst (λ (b : ℕ). coord_of (basics_at u n) x < 2 ^ b) rank_is (coord_lt (basics_at u n) x),
        run_of_coord x i,
      ),
    )

    space_onto : (j : ℕ) → j < 2 ^ m → In (run_of cols n j) u
    space_onto j h =
        let o = (after_at n).onto j (subst (λ (b : ℕ). j < 2 ^ b) (sym rank_is) h) in
        subst (λ (y : ℕ). In y u) (run_of_coord o.0 o.1.0 ∙ ap (run_of cols n) o.1.1) o.1.0

-- the theorem: a regular table, its first run switched to 0, has standard columns
pub table_standard : (n m : ℕ) (t : List ℕ) → Table n m t → StandardFor n m (switched (get_or t 0 0) (runs_of t)) (standard t n)
table_standard n m t tab =
    let s = table_space n m t tab in
    let c = diffs_count n m t tab in
    record {
      form = space_form n (diffs t) s m c;
      plan = record {
        into = λ x i. space_into n (diffs t) s m c x (diff_in n m t tab x i);
        onto = λ x p. back_in n m t tab x (subst (λ (y : ℕ). In y (diffs t)) (sym p.1.1) (space_onto n (diffs t) s m c p.0 p.1.0));
      };
    }
