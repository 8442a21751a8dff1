-- The walk over columns that finds their standard columns by span doubling: what holds after f of them, its steps, and what it has found.
use Rattle.std.specs.Prelude.{◌≡◌, refl, true, false, List, [], ◌∷◌, ◌++◌, ℕ, suc, ◌+◌, ◌-◌, ◌^◌, ◌≤◌, ◌<◌, length, get_or, set, replicate}
use Rattle.std.proofs.Common.{sym, ap, ◌∙◌, subst, add-one, arith, pow_pos, length-append, get_or-set_same}
use Rattle.std.proofs.Math.Logic.{by_cases}
use Rattle.std.proofs.Math.Nat.{two-pow-succ}
use Rattle.std.proofs.Math.Decide.{ℕ_discrete}
use Rattle.std.specs.Int.Bits.{bit_xor}
use Rattle.gf2.specs.DigitLaws.{pow_inj, pow_most, pow_half}
use Rattle.gf2.specs.Fill.{zeros, set_unused}
use Rattle.regular.specs.Columns.{run_of, plan_of, Below, Spans}
use Rattle.regular.specs.Words.{total, Independent}
use Rattle.standard.specs.Form.{units_before, StandardFor}
use Rattle.standard.specs.Finding.{StandardFound, is_found, not_found}
use Rattle.standard.specs.Runs.{run_lt, total_lt}
use Rattle.standard.specs.Total.{total_none, InSpan, span_at, span_total, independent_once}
use Rattle.standard.specs.Units.{units_next, units_stay}
use Rattle.standard.specs.NextColumn.{set_units, set_column, set_next}
use Rattle.standard.specs.FromColumns.{independent_spans, runs_all}
use Rattle.column_forms.specs.Tables.{SumsHeld, Doubles, SumsGrown}
use Rattle.column_forms.specs.TableLaws.{held_more, held_same}
use Rattle.column_forms.specs.Basis.{independent_few, spans_many, more_old, more_new, more_low, more_high, more_unit, more_independent, run_through}

-- after f of the n columns c: the basis has the columns that were no sum of those before them, in their order; sums holds what it reaches,
-- half numbers, and places finds them again; a has the standard columns so far, each taken by the basis to the column of c
pub record ColumnWalk (n m : ℕ) (c : List ℕ) (f half : ℕ) (sums places a : List ℕ) : Type 0 where
  pub basis : List ℕ
  pub rank : ℕ
  pub count : length basis ≡ rank
  pub size : half ≡ 2 ^ rank
  pub most : rank ≤ m
  pub held : SumsHeld (total basis rank) half sums places
  pub reached : (i : ℕ) → i < rank → InSpan c n (get_or basis i 0)
  pub units : units_before a f ≡ rank
  pub next : (g : ℕ) → g < f → get_or a g 0 ≤ 2 ^ units_before a g
  pub column : (g : ℕ) → g < f → (get_or a g 0 < half) × (total basis rank (get_or a g 0) ≡ get_or c g 0)
  pub unused : (g : ℕ) → f ≤ g → get_or a g 0 ≡ 0

-- all n columns are passed
pub record WalkEnded (n m : ℕ) (c : List ℕ) (half : ℕ) (a : List ℕ) : Type 0 where
  pub sums : List ℕ
  pub places : List ℕ
  pub walk : ColumnWalk n m c n half sums places a

-- nothing passed: the empty basis reaches 0
pub walk_none : (n m : ℕ) (c : List ℕ) → ColumnWalk n m c 0 1 (replicate 128 0) (set (replicate 128 0) 0 1) (replicate 16 0)
unfolding units_before total
walk_none n m c =
    let blank : SumsHeld (λ k. 0) 0 (replicate 128 0) (replicate 128 0) =
    record { filled = λ i h. absurd (omega arith); back = λ i h. absurd (omega arith); only = λ v i e. absurd (omega (arith, zeros 128 v)) } in
    record {
      basis = [];
      rank = 0;
      count = refl;
      size = refl;
      most = omega arith;
      held = held_more (λ k. 0) 0 0 (replicate 128 0) (replicate 128 0) refl (omega arith) (omega arith) (λ i h. absurd (omega arith)) blank;
      reached = λ i h. absurd (omega arith);
      units = refl;
      next = λ g h. absurd (omega arith);
      column = λ g h. absurd (omega arith);
      unused = λ g h. zeros 16 g;
    }

module _ (n m : ℕ) (c : List ℕ) (f half : ℕ) (sums places a : List ℕ) (w : ColumnWalk n m c f half sums places a) where
  -- no sum is taken twice
  pub basis_independent : Independent w.rank w.basis
  basis_independent s h e =
      let F = total w.basis w.rank in
      let p : get_or places (F s) 0 ≡ s + 1 = w.held.back s (omega (arith, w.size)) in
      let q : get_or places (F 0) 0 ≡ 0 + 1 = w.held.back 0 (omega (arith, w.size, pow_pos w.rank)) in
      omega (arith, ap (λ (x : ℕ). get_or places x 0) (e ∙ sym (total_none w.basis w.rank)))

  pub basis_below : Below n m c → Below w.rank m w.basis
  basis_below b i h = let s = w.reached i h in omega (arith, s.1.1, total_lt c n m s.0 b)

  -- the sums fit their table of places
  pub walk_sums : Below n m c → m ≤ 7 → (k : ℕ) → k < half → get_or sums k 0 < 128
  walk_sums b hm k h =
      omega (arith, w.held.filled k h, total_lt w.basis w.rank m k (basis_below b), pow_most m hm)

module _ (n m : ℕ) (c : List ℕ) (f half : ℕ) (sums places a : List ℕ) (w : ColumnWalk n m c f half sums places a) (l : f < length a) where
  -- the next column is a sum of the basis: its place is the standard column
  pub walk_old : (z : ℕ) → z ≡ get_or c f 0 → (get_or places z 0 ≡ 0 → ⊥) → ColumnWalk n m c (f + 1) half sums places (set a f (get_or places z 0 - 1))
  walk_old z is some =
      let i = get_or places z 0 - 1 in
      let e : get_or places (get_or c f 0) 0 ≡ i + 1 = ap (λ (x : ℕ). get_or places x 0) (sym is) ∙ omega arith in
      let r = w.rank in
      let o = w.held.only (get_or c f 0) i e in
      let p : i < 2 ^ r = omega (arith, o.0, w.size) in
      let q = ap (λ (k : ℕ). 2 ^ k) w.units in
      let u = set_units a f i f (omega arith) in
      let lt : get_or (set a f i) f 0 < 2 ^ units_before (set a f i) f = omega (arith, get_or-set_same a f i 0 l, ap (λ (k : ℕ). 2 ^ k) u) in
      record {
        basis = w.basis;
        rank = r;
        count = w.count;
        size = w.size;
        most = w.most;
        held = w.held;
        reached = w.reached;
        units = rw (add-one f) (units_stay (set a f i) f (λ q. omega arith) ∙ u ∙ w.units);
        next = set_next a f i l (omega arith) w.next;
        column = set_column a f i l (λ g v. (v < half) × (total w.basis r v ≡ get_or c g 0)) o w.column;
        unused = set_unused a f i w.unused;
      }

  -- the next column is no sum of the basis
  module _ (below : Below n m c) (hf : f < n) (z : ℕ) (is : z ≡ get_or c f 0) (out : get_or places z 0 ≡ 0) where
    abbrev wider : List ℕ
    wider = w.basis ++ (get_or c f 0 ∷ [])

    wider_independent : Independent (suc w.rank) wider
    wider_independent =
        more_independent w.basis w.rank w.count (get_or c f 0) (basis_independent n m c f half sums places a w)
        (λ s. omega (
          arith,
          ap (λ (x : ℕ). get_or places x 0) (sym is) ∙ out,
          w.held.back s.0 (omega (arith, s.1.0, w.size)),
          ap (λ (x : ℕ). get_or places x 0) s.1.1,
        ))

    wider_reached : (i : ℕ) → i < suc w.rank → InSpan c n (get_or wider i 0)
    wider_reached i h =
        by_cases (ℕ_discrete i w.rank)
        (λ e. subst (InSpan c n) (sym (ap (λ (k : ℕ). get_or wider k 0) e ∙ more_new w.basis w.rank w.count (get_or c f 0))) (span_at c n f hf))
        (λ ne. subst (InSpan c n) (sym (more_old w.basis w.rank w.count (get_or c f 0) i (omega arith))) (w.reached i (omega arith)))

    wider_below : Below (suc w.rank) m wider
    wider_below i h = let s = wider_reached i h in omega (arith, s.1.1, total_lt c n m s.0 below)

    wider_most : w.rank < m
    wider_most = independent_few (suc w.rank) m wider wider_independent wider_below

    -- there is room for twice as many sums
    pub walk_room : m ≤ 7 → half ≤ 64
    walk_room h = omega (arith, w.size, pow_half w.rank m wider_most h)

    doubles : Doubles (total wider (suc w.rank)) (get_or c f 0) half
    doubles =
        let r = w.rank in
        let e = w.size in
        let tw = two-pow-succ r in
        record {
          next = λ k h.
              let hk : k < 2 ^ r = omega arith in
              ap (λ (x : ℕ). total wider (suc r) (x + k)) e ∙ more_high w.basis r w.count (get_or c f 0) k hk
              ∙ ap (λ (x : ℕ). bit_xor x (get_or c f 0)) (sym (more_low w.basis r w.count (get_or c f 0) k hk));
          once = λ i j hi hj p. independent_once (suc r) wider wider_independent i j (omega arith) (omega arith) p;
        }

    -- it joins the basis, and the next unit is its standard column
    pub walk_new : (s p : List ℕ) → SumsGrown (get_or c f 0) half half sums places s p → ColumnWalk n m c (f + 1) (half + half) s p (set a f half)
    walk_new s p g =
        let r = w.rank in
        let t = w.basis in
        let x = get_or c f 0 in
        let e = w.size in
        let tw = two-pow-succ r in
        let pp = pow_pos r in
        let F = total wider (suc r) in
        let low : (k : ℕ) → k < half → total t r k ≡ F k = λ k h. sym (more_low t r w.count x k (omega arith)) in
        let u = set_units a f half f (omega arith) in
        let q : half ≡ 2 ^ units_before a f = e ∙ ap (λ (k : ℕ). 2 ^ k) (sym w.units) in
        let n1 : get_or (set a f half) f 0 ≡ 2 ^ units_before (set a f half) f = get_or-set_same a f half 0 l ∙ q ∙ ap (λ (k : ℕ). 2 ^ k) (sym u) in
        record {
          basis = wider;
          rank = suc r;
          count = length-append t (x ∷ []) ∙ omega (arith, w.count);
          size = omega arith;
          most = wider_most;
          held = g.held F doubles (held_same (total t r) F half sums places low w.held);
          reached = wider_reached;
          units = rw (add-one f) (units_next (set a f half) f n1 ∙ omega (arith, u, w.units));
          next = set_next a f half l (omega arith) w.next;
          column = set_column a f half l (λ i v. (v < half + half) × (F v ≡ get_or c i 0))
              (omega arith, ap F e ∙ more_unit t r w.count x)
              (λ i h. let o = w.column i h in (omega (arith, o.0), sym (low (get_or a i 0) o.0) ∙ o.1));
          unused = set_unused a f half w.unused;
        }

-- all columns passed: they have rank m exactly if the basis reaches 2^m numbers, and then the standard columns have their runs
module _ (n m : ℕ) (c : List ℕ) (half : ℕ) (sums places a : List ℕ) (below : Below n m c) (w : ColumnWalk n m c n half sums places a) where
  module _ (full : half ≡ 2 ^ m) where
    rank_is : w.rank ≡ m
    rank_is = pow_inj w.rank m (sym w.size ∙ full)

    basis_spans : Spans m m w.basis
    basis_spans =
        independent_spans m w.basis
        (subst (λ (r : ℕ). Independent r w.basis) rank_is (basis_independent n m c n half sums places a w))
        (subst (λ (r : ℕ). Below r m w.basis) rank_is (basis_below n m c n half sums places a w below))

    full_spans : Spans n m c
    full_spans v h =
        let s = basis_spans v h in
        subst (InSpan c n) s.1.1 (span_total c n w.basis m s.0 (λ i l. w.reached i (omega (arith, rank_is))))

    through : (j : ℕ) → run_of c n j ≡ run_of a n (run_of w.basis m j)
    through j = run_through w.basis m a c n j (λ f l. ap (λ (r : ℕ). total w.basis r (get_or a f 0)) (sym rank_is) ∙ (w.column f l).1)

    full_standard : StandardFor n m (plan_of n m c) a
    full_standard =
        record {
          form = record { next = w.next; units = w.units ∙ rank_is };
          plan = record {
            into = λ x p. (run_of w.basis m p.0, (run_lt w.basis m p.0, p.1.1 ∙ through p.0));
            onto = λ x p.
                let r = runs_all m w.basis basis_spans p.0 p.1.0 in
                (r.0, (r.1.0, p.1.1 ∙ ap (run_of a n) (sym r.1.1) ∙ sym (through r.0)));
          };
        }

  short_spans : (half ≡ 2 ^ m → ⊥) → Spans n m c → ⊥
  short_spans ne sp =
      let r = w.rank in
      let t = w.basis in
      let many : m ≤ r = spans_many r m t (λ v h.
      let s = sp v h in
      subst (InSpan t r) s.1.1 (span_total t r c n s.0 (λ f l. let o = w.column f l in (get_or a f 0, (omega (arith, o.0, w.size), o.1))))) in
      let e : r ≡ m = omega (arith, w.most) in
      ne (w.size ∙ ap (λ (k : ℕ). 2 ^ k) e)

pub walk_ended : (n m : ℕ) (c : List ℕ) (f half : ℕ) (sums places a : List ℕ) → f ≡ n → ColumnWalk n m c f half sums places a → WalkEnded n m c half a
walk_ended n m c f half sums places a e w =
    record { sums = sums; places = places; walk = subst (λ (g : ℕ). ColumnWalk n m c g half sums places a) e w }

pub walk_full : (n m : ℕ) (c : List ℕ) (half : ℕ) (a : List ℕ) → Below n m c → WalkEnded n m c half a → half ≡ 2 ^ m
    → StandardFound n m (Spans n m c) (plan_of n m c) true a
walk_full n m c half a below o full =
    let w = o.walk in
    is_found n m (Spans n m c) (plan_of n m c) a (full_spans n m c half o.sums o.places a below w full)
    (full_standard n m c half o.sums o.places a below w full) w.unused

pub walk_short : (n m : ℕ) (c : List ℕ) (half : ℕ) (a : List ℕ) → Below n m c → WalkEnded n m c half a → (half ≡ 2 ^ m → ⊥)
    → StandardFound n m (Spans n m c) (plan_of n m c) false (replicate 16 0)
walk_short n m c half a below o short =
    not_found n m (Spans n m c) (plan_of n m c) (short_spans n m c half o.sums o.places a below o.walk short)
