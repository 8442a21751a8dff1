-- The steps of the walk: its start, a factor that follows the basic factors, one more basic factor, and the runs that are refused.
use Rattle.std.specs.Prelude.{◌≡◌, refl, Bool, true, false, List, [], ◌∷◌, ℕ, ◌+◌, ◌*◌, ◌^◌, ◌<◌, ◌≤◌, eqb, length, get_or, set, replicate}
use Rattle.std.proofs.Common.{sym, ap, ap₂, ◌∙◌, subst, true≢false, arith, eq-eqb, ne_eqb, pow_pos, length-set}
use Rattle.std.proofs.Math.Nat.{two-pow-succ}
use Rattle.std.specs.Int.Bits.{bit_xor}
use Rattle.std.proofs.lemmas.Bool.{false≢true}
use Rattle.std.proofs.Math.Pow.{pow-lt}
use Rattle.gf2.specs.Digits.{bit, odd, pick}
use Rattle.gf2.specs.DigitLaws.{bit_ext, pow_most, pow_half}
use Rattle.gf2.specs.Lists.{image, image_length, in_image, of_image, fewer, upto, upto_lt, upto_length, upto_different}
use Rattle.gf2.specs.Members.{In}
use Rattle.gf2.specs.Parity.{odd_bit}
use Rattle.gf2.specs.Places.{place_in, in_place}
use Rattle.gf2.specs.Fill.{zeros, set_unused}
use Rattle.regular.specs.Runs.{Table}
use Rattle.standard.specs.Basics.{ColumnFits, Onto, fits_all_lem, fits_keep, fits_fresh, onto_next}
use Rattle.standard.specs.Coordinates.{coord_lt}
use Rattle.standard.specs.Form.{units_before}
use Rattle.standard.specs.FromTable.{table_space, diffs_count}
use Rattle.standard.specs.Model.{diffs, coord_of, fits_all}
use Rattle.standard.specs.NextColumn.{set_column, set_next, units_more}
use Rattle.table_forms.specs.declared.Walked.{Walked}
use Rattle.table_forms.specs.Walk.{diff_at, LevelsHeld, Latest, Alone, Read, Candidate, FitsAt, Fitting}
use Rattle.table_forms.specs.Walk.{LevelsExtended, TableWalk, ColumnGiven, BasicAdded, WalkReached}

-- the differences are those of the places
pub at_diff : (t : List ℕ) (i : ℕ) → i < length t → In (diff_at t i) (diffs t)
at_diff t i h = in_image (λ (x : ℕ). bit_xor x (get_or t 0 0)) t (get_or t i 0) (place_in t i h)

diff_at_lem : (t : List ℕ) (x : ℕ) → In x (diffs t) → (i : ℕ) × ((i < length t) × (x ≡ diff_at t i))
diff_at_lem t x m =
    let r = get_or t 0 0 in
    let o = of_image (λ (y : ℕ). bit_xor y r) t x m in
    let p = in_place t o.0 o.1.0 in
    (p.0, (p.1.0, o.1.1 ∙ ap (λ (y : ℕ). bit_xor y r) p.1.1))

-- the levels that are held are below the next unit
held_lt : (bs t coords : List ℕ) (half : ℕ) → half ≡ 2 ^ length bs → LevelsHeld bs t coords → (i : ℕ) → i < length t → get_or coords i 0 < half
held_lt bs t coords half e held i h = omega (arith, held i h, coord_lt bs (diff_at t i))

-- a column that fits every place fits every difference
fits_places : (bs t coords : List ℕ) (f k : ℕ) → LevelsHeld bs t coords → ((i : ℕ) → i < length t → FitsAt t coords f k i) → ColumnFits bs (diffs t) f k
fits_places bs t coords f k held h x m =
    let p = diff_at_lem t x m in
    ap (bit f) p.1.1 ∙ h p.0 p.1.0 ∙ ap (λ (c : ℕ). odd c k) (held p.0 p.1.0 ∙ ap (coord_of bs) (sym p.1.1))

-- the walk before the first factor
pub walk_start_lem : (m : ℕ) (t place : List ℕ) → Latest (length t) (length t) (replicate 128 0) place
    → TableWalk m t 0 (record { columns = replicate 16 0; basics = 0; half = 1; coords = replicate 128 0; place = place })
unfolding coord_of units_before
walk_start_lem m t place l =
    record {
      bs = [];
      basics = refl;
      few = omega arith;
      half = refl;
      held = λ i h. zeros 128 i;
      latest = l;
      onto = λ n tab j h. (0, ((table_space n m t tab).zero_in, omega arith));
      size = refl;
      fits = λ g h. absurd (omega arith);
      next = λ g h. absurd (omega arith);
      units = refl;
      unused = λ g h. zeros 16 g;
    }

-- a factor that follows the basic factors
walk_follow : (m : ℕ) (t : List ℕ) (f k : ℕ) (w : Walked) → f < 16 → (s : TableWalk m t f w) → k < 2 ^ length s.bs → ColumnFits s.bs (diffs t) f k
    → TableWalk m t (f + 1) (record { columns = set w.columns f k; basics = w.basics; half = w.half; coords = w.coords; place = w.place })
walk_follow m t f k w hf s l fit =
    let a = w.columns in
    let bs = s.bs in
    let h : f < length a = omega (arith, s.size) in
    let e : pick (eqb k (2 ^ length bs)) 1 0 ≡ 0 = rw (ne_eqb k (2 ^ length bs) (λ p. omega arith)) refl in
    record {
      bs = bs;
      basics = s.basics;
      few = s.few;
      half = s.half;
      held = s.held;
      latest = s.latest;
      onto = s.onto;
      size = length-set a f k ∙ s.size;
      fits = set_column a f k h (λ g x. (x < 2 ^ length bs) × ColumnFits bs (diffs t) g x) (l, fit) s.fits;
      next = set_next a f k h (omega (arith, ap (λ (u : ℕ). 2 ^ u) s.units)) s.next;
      units = units_more a f k h (length bs) s.units ∙ omega arith;
      unused = set_unused a f k s.unused;
    }

-- one more basic factor
walk_grow : (m : ℕ) (t : List ℕ) (f k : ℕ) (w : Walked) (coords place : List ℕ) → f < 16 → (s : TableWalk m t f w) → k ≡ w.half → length s.bs < m
    → LevelsExtended t w.coords coords f w.half (length t) → Latest (length t) (length t) coords place
    → ((n : ℕ) → Table n m t → Onto (f ∷ s.bs) (diffs t))
    → TableWalk m t (f + 1) (record {
      columns = set w.columns f k;
      basics = w.basics + 1;
      half = w.half + w.half;
      coords = coords;
      place = place;
    })
unfolding coord_of
walk_grow m t f k w coords place hf s ke few x l onto =
    let a = w.columns in
    let bs = s.bs in
    let h : f < length a = omega (arith, s.size) in
    let v : k ≡ 2 ^ length bs = ke ∙ s.half in
    let e : pick (eqb k (2 ^ length bs)) 1 0 ≡ 1 = rw (eq-eqb k (2 ^ length bs) v) refl in
    let tw = two-pow-succ (length bs) in
    let pos = pow_pos (length bs) in
    record {
      bs = f ∷ bs;
      basics = omega (arith, s.basics);
      few = few;
      half = omega (arith, s.half);
      held = λ i q. x.made i q ∙ ap₂ (λ (p c : ℕ). bit f (diff_at t i) * p + c) s.half (s.held i q);
      latest = l;
      onto = onto;
      size = length-set a f k ∙ s.size;
      fits = set_column a f k h (λ g x. (x < 2 ^ length (f ∷ bs)) × ColumnFits (f ∷ bs) (diffs t) g x)
          (omega arith, subst (λ (c : ℕ). ColumnFits (f ∷ bs) (diffs t) f c) (sym v) (fits_fresh bs (diffs t) f))
          (λ g q. let r = s.fits g q in (omega (arith, r.0), fits_keep bs (diffs t) f g (get_or a g 0) r.0 r.1));
      next = set_next a f k h (omega (arith, ap (λ (u : ℕ). 2 ^ u) s.units)) s.next;
      units = units_more a f k h (length bs) s.units ∙ omega arith;
      unused = set_unused a f k s.unused;
    }

-- the candidate is the only column that can fit
fits_only : (bs t coords : List ℕ) (f k i : ℕ) → LevelsHeld bs t coords → k < 2 ^ length bs → ((j : ℕ) → j < length bs → Read t coords f k j)
    → i < 2 ^ length bs → ColumnFits bs (diffs t) f i → i ≡ k
fits_only bs t coords f k i held hk read hi fit =
    bit_ext (length bs) i k hi hk
    (λ j h.
    let r = read j h in
    let x = diff_at t r.0 in
    let e : coord_of bs x ≡ 2 ^ j = sym (held r.0 r.1.0) ∙ r.1.1.0 in
    sym (odd_bit j i) ∙ ap (λ (c : ℕ). odd c i) (sym e) ∙ sym (fit x (at_diff t r.0 r.1.0)) ∙ sym r.1.1.1)

-- where the candidate does not fit, the factor is basic
onto_grown : (n m : ℕ) (t coords : List ℕ) (bs : List ℕ) (f k : ℕ) → Table n m t → LevelsHeld bs t coords → k < 2 ^ length bs
    → ((j : ℕ) → j < length bs → Read t coords f k j)
    → (i : ℕ) × ((i < length t) × (FitsAt t coords f k i → ⊥)) → Onto bs (diffs t) → Onto (f ∷ bs) (diffs t)
onto_grown n m t coords bs f k tab held hk read bad onto =
    onto_next (diffs t) (table_space n m t tab).closed bs f onto (λ i h. none i h (fits_all bs (diffs t) f i) refl)
  where
    none : (i : ℕ) → i < 2 ^ length bs → (b : Bool) → fits_all bs (diffs t) f i ≡ b → b ≡ false
    none i h true e =
        let fit = fits_all_lem bs (diffs t) f i e in
        let p : i ≡ k = fits_only bs t coords f k i held hk read h fit in
        let x = bad.0 in
        absurd (bad.1.1 (fit (diff_at t x) (at_diff t x bad.1.0) ∙ ap₂ odd (sym (held x bad.1.0)) p))
    none i h false e = refl

-- every choice of levels occurs: there are bad more choices than runs
onto_few : (bs u : List ℕ) → Onto bs u → 2 ^ length bs ≤ length u
onto_few bs u onto =
    let c = coord_of bs in
    let k = 2 ^ length bs in
    let l : length (upto k) ≤ length (image c u) = fewer (upto k) (image c u) (upto_different k)
    (λ j m. let o = onto j (upto_lt k j m) in subst (λ (i : ℕ). In i (image c u)) o.1.1 (in_image c u o.0 o.1.0)) in
    omega (arith, upto_length k, image_length c u)

-- as many basic factors as there can be: bad more of them
full_refused : (n m : ℕ) (t : List ℕ) (bs : List ℕ) (f : ℕ) → Table n m t → length bs ≡ m → Onto (f ∷ bs) (diffs t) → ⊥
full_refused n m t bs f tab e onto =
    let l = onto_few (f ∷ bs) (diffs t) onto in
    let p = two-pow-succ (length bs) in
    let q = ap (λ (k : ℕ). 2 ^ k) e in
    omega (arith, diffs_count n m t tab, pow_pos m)

-- a basic factor is low alone in some run
missing_refused : (bs t coords place : List ℕ) (i : ℕ) → LevelsHeld bs t coords → Latest (length t) (length t) coords place → Onto bs (diffs t) → i < length bs
    → (Alone coords i (get_or place (2 ^ i) 0) → ⊥) → ⊥
missing_refused bs t coords place i held l onto h ne =
    let o = onto (2 ^ i) (pow-lt {i = i} {j = length bs} h) in
    let p = diff_at_lem t o.0 o.1.0 in
    let x = p.0 in
    let e : get_or coords x 0 ≡ 2 ^ i = held x p.1.0 ∙ ap (coord_of bs) (sym p.1.1) ∙ o.1.1 in
    ne (ap (λ (y : ℕ). get_or coords (get_or place y 0) 0) (sym e) ∙ l.same x p.1.0 ∙ e)

-- the outcomes of a step
pub ended : (m : ℕ) (t : List ℕ) (f : ℕ) (v : Walked) → ((n : ℕ) → Table n m t → ⊥) → WalkReached m t f false v
ended m t f v h = record { walk = λ e. absurd (false≢true e); refused = λ _. h }

pub went : (m : ℕ) (t : List ℕ) (f : ℕ) (v : Walked) → TableWalk m t f v → WalkReached m t f true v
went m t f v w = record { walk = λ _. w; refused = λ e. absurd (true≢false e) }

module _ (m : ℕ) (t : List ℕ) (f : ℕ) (w : Walked) (s : TableWalk m t f w) where
  pub walk_small : m ≤ 7 → (w.basics ≤ 7) × (w.half ≤ 128)
  walk_small h = (omega (arith, s.basics, s.few), omega (arith, s.half, pow_most (length s.bs) (omega (arith, s.few))))

  pub walk_room : m ≤ 7 → (w.basics ≡ m → ⊥) → (w.basics < 7) × (w.half ≤ 64)
  walk_room h room =
      let l : length s.bs < 7 = omega (arith, s.basics, s.few, room) in
      (omega (arith, s.basics), rw s.half (pow_half (length s.bs) 7 l (omega arith)))

  pub walk_below : (i : ℕ) → i < length t → get_or w.coords i 0 < w.half
  walk_below = held_lt s.bs t w.coords w.half s.half s.held

  module _ (k : ℕ) (ok : Bool) (cand : Candidate t w.coords w.place w.basics f ok k) where
    -- no run has some basic factor alone low
    pub step_missing : ok ≡ false → (n : ℕ) → Table n m t → ⊥
    step_missing e n tab =
        let r = cand.missing e in
        missing_refused s.bs t w.coords w.place r.0 s.held s.latest (s.onto n tab) (omega (arith, r.1.0, s.basics)) r.1.1

    pub step_below : ok ≡ true → k < 2 ^ length s.bs
    step_below e = subst (λ (b : ℕ). k < 2 ^ b) s.basics (cand.below e)

    module _ (e : ok ≡ true) (b : Bool) (fit : Fitting t w.coords f k b) where
      -- the candidate fits
      pub step_follow : (v : Walked) → b ≡ true → f < 16 → ColumnGiven f k w v → WalkReached m t (f + 1) true v
      step_follow v fits hf is =
          went m t (f + 1) v
          (subst (TableWalk m t (f + 1)) (sym is.is)
          (walk_follow m t f k w hf s (step_below e) (fits_places s.bs t w.coords f k s.held (fit.all fits))))

      -- it does not: factor f is basic
      step_onto : b ≡ false → (n : ℕ) → Table n m t → Onto (f ∷ s.bs) (diffs t)
      step_onto bad n tab =
          onto_grown n m t w.coords s.bs f k tab s.held (step_below e) (λ j h. cand.reads e j (omega (arith, s.basics)))
          (fit.some bad) (s.onto n tab)

      pub step_full : b ≡ false → w.basics ≡ m → (n : ℕ) → Table n m t → ⊥
      step_full bad full n tab = full_refused n m t s.bs f tab (sym s.basics ∙ full) (step_onto bad n tab)

      pub step_grow : (v : Walked) → b ≡ false → f < 16 → (w.basics ≡ m → ⊥) → BasicAdded t f w v → WalkReached m t (f + 1) true v
      step_grow v bad hf room g =
          went m t (f + 1) v
          (subst (TableWalk m t (f + 1)) (sym g.is)
          (walk_grow m t f w.half w v.coords v.place hf s refl (omega (arith, s.basics, s.few, room)) g.extended g.latest (step_onto bad)))
