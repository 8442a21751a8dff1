-- The end of the walk: the runs are different and regular exactly if their basic levels are different, and then the columns are the standard ones.
use Rattle.std.specs.Prelude.{◌≡◌, refl, true, false, List, ℕ, ◌^◌, ◌<◌, length, get_or, replicate}
use Rattle.std.proofs.Common.{sym, ap, ap₂, ◌∙◌, subst, mod-eq_of_lt, arith, pow_mono}
use Rattle.std.specs.Int.Bits.{bit_xor, xor_self, xor_zero_r}
use Rattle.std.proofs.lemmas.Nat.{xor_lt}
use Rattle.gf2.specs.DigitLaws.{xor_assoc, xor_back, xor_4, pow_le_inv, xor_move, xor_cancel}
use Rattle.gf2.specs.Lists.{fewer, upto, upto_in, upto_length, list_to, to_length, of_to, to_different}
use Rattle.gf2.specs.Members.{In, pigeon}
use Rattle.gf2.specs.Places.{place_in, in_place, different_once, once_different}
use Rattle.regular.specs.Columns.{run_of, plan_of}
use Rattle.regular.specs.Runs.{Agree, Table, runs_of, switched}
use Rattle.standard.specs.Coordinates.{coord_lt}
use Rattle.standard.specs.Finding.{StandardFound, is_found, not_found}
use Rattle.standard.specs.FromTable.{run_is}
use Rattle.standard.specs.Model.{coord_of}
use Rattle.standard.specs.Runs.{run_xor}
use Rattle.table_forms.specs.declared.Walked.{Walked}
use Rattle.table_forms.specs.Steps.{at_diff}
use Rattle.table_forms.specs.Walk.{diff_at, TableWalk, AllLast}

-- g reads the levels of a difference, and the columns a give the difference back
module _ (n m : ℕ) (t a : List ℕ) (g : ℕ → ℕ) (count : length t ≡ 2 ^ m) (within : (x : ℕ) → In x t → x < 2 ^ n)
    (runs : (i : ℕ) → i < length t → diff_at t i ≡ run_of a n (g (diff_at t i)))
    (below : (i : ℕ) → i < length t → g (diff_at t i) < 2 ^ m)
    (once : (i j : ℕ) → i < length t → j < length t → g (diff_at t i) ≡ g (diff_at t j) → i ≡ j) where
  abbrev levels : List ℕ
  levels = list_to (λ i. g (diff_at t i)) (2 ^ m)

  -- all levels occur
  each : (j : ℕ) → j < 2 ^ m → (i : ℕ) × ((i < length t) × (j ≡ g (diff_at t i)))
  each j h =
      let k = 2 ^ m in
      let c : ℕ → ℕ = λ i. g (diff_at t i) in
      let d = to_different c k (λ i l p q e. once i l (omega arith) (omega arith) e) in
      let p : In j levels = pigeon levels (upto k) d
      (λ z q. let r = of_to c k z q in upto_in k z (subst (λ (y : ℕ). y < k) (sym r.1.1) (below r.0 (omega (arith, r.1.0)))))
      (omega (arith, to_length c k, upto_length k)) j (upto_in k j h) in
      let r = of_to c k j p in
      (r.0, (omega (arith, r.1.0), r.1.1))

  table_plan : Agree (switched (get_or t 0 0) (runs_of t)) (plan_of n m a)
  table_plan =
      let r = get_or t 0 0 in
      record {
        into = λ x q.
            let p = in_place t (bit_xor x r) q in
            let i = p.0 in
            let e : x ≡ diff_at t i = xor_move x r (get_or t i 0) p.1.1 in
            (g (diff_at t i), (below i p.1.0, e ∙ runs i p.1.0));
        onto = λ x q.
            let p = each q.0 q.1.0 in
            let i = p.0 in
            let e : x ≡ diff_at t i = q.1.1 ∙ ap (run_of a n) p.1.1 ∙ sym (runs i p.1.0) in
            subst (λ (y : ℕ). In y t) (sym (ap (λ (y : ℕ). bit_xor y r) e ∙ xor_back (get_or t i 0) r)) (place_in t i p.1.0);
      }

  plan_closed : (x y : ℕ) → plan_of n m a x → plan_of n m a y → plan_of n m a (bit_xor x y)
  plan_closed x y p q =
      (bit_xor p.0 q.0, (xor_lt m p.0 q.0 p.1.0 q.1.0, ap₂ bit_xor p.1.1 q.1.1 ∙ sym (run_xor a n p.0 q.0)))

  table_regular : (x y z : ℕ) → In x t → In y t → In z t → In (bit_xor (bit_xor x y) z) t
  table_regular x y z p q s =
      let r = get_or t 0 0 in
      let lift : (v : ℕ) → In v t → plan_of n m a (bit_xor v r) = λ v i. table_plan.into (bit_xor v r) (subst (λ (y : ℕ). In y t) (sym (xor_back v r)) i) in
      let two : bit_xor (bit_xor x r) (bit_xor y r) ≡ bit_xor x y = xor_4 x r y r ∙ ap (bit_xor (bit_xor x y)) (xor_self r) ∙ xor_zero_r (bit_xor x y) in
      let three : bit_xor (bit_xor (bit_xor (bit_xor x r) (bit_xor y r)) (bit_xor z r)) r ≡ bit_xor (bit_xor x y) z =
      ap (λ (v : ℕ). bit_xor (bit_xor v (bit_xor z r)) r) two
      ∙ ap (λ (v : ℕ). bit_xor v r) (sym (xor_assoc (bit_xor x y) z r))
      ∙ xor_back (bit_xor (bit_xor x y) z) r in
      subst (λ (v : ℕ). In v t) three
      (table_plan.onto (bit_xor (bit_xor (bit_xor x r) (bit_xor y r)) (bit_xor z r))
      (plan_closed (bit_xor (bit_xor x r) (bit_xor y r)) (bit_xor z r) (plan_closed (bit_xor x r) (bit_xor y r) (lift x p) (lift y q)) (lift z s)))

  table_is : Table n m t
  table_is =
      record {
        count = count;
        within = within;
        different = once_different t (λ i j p q e. once i j p q (ap (λ (x : ℕ). g (bit_xor x (get_or t 0 0))) e));
        regular = table_regular;
      }

-- what the end of the walk decides
module _ (n m : ℕ) (t : List ℕ) (w : Walked) (count : length t ≡ 2 ^ m) (within : (x : ℕ) → In x t → x < 2 ^ n) (s : TableWalk m t n w) where
  runs_at : (i : ℕ) → i < length t → diff_at t i ≡ run_of w.columns n (coord_of s.bs (diff_at t i))
  runs_at i h =
      let d = diff_at t i in
      let l : d < 2 ^ n = xor_lt n (get_or t i 0) (get_or t 0 0) (within (get_or t i 0) (place_in t i h))
      (within (get_or t 0 0) (place_in t 0 (omega arith))) in
      sym (mod-eq_of_lt l) ∙ run_is w.columns (coord_of s.bs d) d n (λ f q. (s.fits f q).1 d (at_diff t i h))

  below_at : (i : ℕ) → i < length t → coord_of s.bs (diff_at t i) < 2 ^ m
  below_at i h = omega (arith, coord_lt s.bs (diff_at t i), pow_mono {i = length s.bs} {j = m} s.few)

  once_at : ((i : ℕ) → i < length t → get_or w.place (get_or w.coords i 0) 0 ≡ i)
      → (i j : ℕ) → i < length t → j < length t → coord_of s.bs (diff_at t i) ≡ coord_of s.bs (diff_at t j) → i ≡ j
  once_at h i j p q e =
      sym (h i p) ∙ ap (λ (c : ℕ). get_or w.place c 0) (s.held i p ∙ e ∙ sym (s.held j q)) ∙ h j q

  -- different levels: there are as many basic factors as there can be
  rank_at : ((i j : ℕ) → i < length t → j < length t → coord_of s.bs (diff_at t i) ≡ coord_of s.bs (diff_at t j) → i ≡ j) → length s.bs ≡ m
  rank_at once =
      let k = 2 ^ m in
      let b = 2 ^ length s.bs in
      let c : ℕ → ℕ = λ i. coord_of s.bs (diff_at t i) in
      let l = fewer (list_to c k) (upto b) (to_different c k (λ i j p q e. once i j (omega arith) (omega arith) e))
      (λ z q. let r = of_to c k z q in upto_in b z (subst (λ (y : ℕ). y < b) (sym r.1.1) (coord_lt s.bs (diff_at t r.0)))) in
      let p = pow_le_inv m (length s.bs) (omega (arith, to_length c k, upto_length b)) in
      omega (arith, s.few)

  -- two runs with the same levels are equal
  repeat_refused : (i : ℕ) → i < length t → (get_or w.place (get_or w.coords i 0) 0 ≡ i → ⊥) → Table n m t → ⊥
  repeat_refused i h ne tab =
      let x = get_or w.place (get_or w.coords i 0) 0 in
      let hx : x < length t = s.latest.within (get_or w.coords i 0) in
      let r = get_or t 0 0 in
      let e : coord_of s.bs (diff_at t x) ≡ coord_of s.bs (diff_at t i) = sym (s.held x hx) ∙ s.latest.same i h ∙ s.held i h in
      let d : diff_at t x ≡ diff_at t i = runs_at x hx ∙ ap (run_of w.columns n) e ∙ sym (runs_at i h) in
      ne (different_once t tab.different x i hx h (xor_cancel (get_or t x 0) (get_or t i 0) r d))

  -- each run is the last with its levels: the table is regular
  pub verdict_regular : AllLast (length t) w.coords w.place true → StandardFound n m (Table n m t) (switched (get_or t 0 0) (runs_of t)) true w.columns
  verdict_regular l =
      let g = coord_of s.bs in
      let once = once_at (l.all refl) in
      is_found n m (Table n m t) (switched (get_or t 0 0) (runs_of t)) w.columns
      (table_is n m t w.columns g count within runs_at below_at once)
      (record {
        form = record { next = s.next; units = s.units ∙ rank_at once };
        plan = table_plan n m t w.columns g count within runs_at below_at once;
      })
      s.unused

  pub verdict_repeat : AllLast (length t) w.coords w.place false
      → StandardFound n m (Table n m t) (switched (get_or t 0 0) (runs_of t)) false (replicate 16 0)
  verdict_repeat l =
      not_found n m (Table n m t) (switched (get_or t 0 0) (runs_of t)) (λ tab. let r = l.some refl in repeat_refused r.0 r.1.0 r.1.1 tab)
