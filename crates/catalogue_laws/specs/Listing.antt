-- The model lists the catalogue: its test decides whether one more column makes an entry, so what it lists are the entries, each once, in order.
use Rattle.std.specs.Prelude.{◌≡◌, ◌⊎◌, Bool, true, false, ◌&&◌, List, [], ◌∷◌, ◌++◌, eqb, ltb, leb, get_or}
use Rattle.std.proofs.Math.Path.{refl, subst}
use Rattle.std.proofs.Common.{sym, ap, ◌∙◌, inl, inr, ⊎_elim, length-append}
use Rattle.std.proofs.Math.Logic.{by_cases}
use Rattle.std.proofs.Math.Bool.{not}
use Prim.Native.Nat.{ℕ, zero, suc, ◌+◌, ◌-◌, ◌^◌, ◌≤◌, ◌<◌}
use native.Mathlib.Omega.{arith}
use Rattle.std.proofs.Math.Decide.{ℕ_discrete, dec_lt}
use Rattle.std.proofs.Math.ListN.{length, get_or-append}
use Rattle.std.proofs.Math.Seq.{get_or-append_seam}
use Rattle.regular.specs.Columns.{plan_of}
use Rattle.regular.specs.Smallest.{Equal, Before, Entry, Catalogue}
use Rattle.regular.specs.Words.{letters, total}
use Rattle.standard.specs.Form.{units_before}
use Rattle.standard.specs.Units.{units_same}
use Rattle.smallest_laws.specs.Beating.{own_beaten}
use Rattle.smallest_laws.specs.Dictionary.{equal_sym}
use Rattle.smallest_laws.specs.Growth.{agree_entry, agree_left, entry_units, entry_none, next_rising, next_long, long_next}
use Rattle.smallest_laws.specs.Prefix.{smallest_next}
use Rattle.smallest_laws.specs.Search.{any_none, none_any, beaten, search_beats, search_smallest}
use Rattle.catalogue_laws.specs.Model.{short, fits, may, keep_if, branch, listing, entries}
use borrow.Author.Tests.{eqb-true, eq-eqb, leb-true, le-leb, ltb-true, lt-ltb, not-true}
use Rattle.gf2.specs.Truth.{clash, told, and_both, both_and, false_not}

-- the test for short words
not_short : (r k : ℕ) (c : List ℕ) → short r k c ≡ false → (w : ℕ) → w < 2 ^ k → total c k w ≡ get_or c k 0 → r ≤ suc (letters w)
unfolding short
not_short r k c e w h z =
    by_cases (dec_lt (suc (letters w)) r)
    (λ l. absurd (clash (both_and (eqb (total c k w) (get_or c k 0)) (ltb (suc (letters w)) r) (eq-eqb (total c k w) (get_or c k 0) z)
    (lt-ltb (suc (letters w)) r l))
    (any_none (λ v. eqb (total c k v) (get_or c k 0) && ltb (suc (letters v)) r) (2 ^ k) w e h)))
    (λ l. omega arith)

long_short : (r k : ℕ) (c : List ℕ) → ((w : ℕ) → w < 2 ^ k → total c k w ≡ get_or c k 0 → r ≤ suc (letters w)) → short r k c ≡ false
unfolding short
long_short r k c h = none_any (λ v. eqb (total c k v) (get_or c k 0) && ltb (suc (letters v)) r) (2 ^ k)
    (λ w l e. let b = and_both (eqb (total c k w) (get_or c k 0)) (ltb (suc (letters w)) r) e in
    omega (arith, h w l (eqb-true (total c k w) (get_or c k 0) b.0), ltb-true (suc (letters w)) r b.1))

-- the test for one more column, after an entry, above its columns
module _ (r k : ℕ) (c : List ℕ) (e : Entry k (units_before c k) r c) (some : 0 < get_or c k 0) (up : (f : ℕ) → f < k → get_or c f 0 < get_or c k 0) where
  fits_entry : fits r k c ≡ true → Entry (suc k) (units_before c (suc k)) r c
  unfolding fits
  fits_entry h =
      let u = units_before c (suc k) in
      let a = and_both (leb (get_or c k 0) (2 ^ units_before c k)) (not (short r k c) && not (beaten (suc k) c u [])) h in
      let b = and_both (not (short r k c)) (not (beaten (suc k) c u [])) a.1 in
      let top = leb-true (get_or c k 0) (2 ^ units_before c k) a.0 in
      let rise = next_rising k r c e some up top in
      record {
        smallest = search_smallest (suc k) u c rise (not-true (beaten (suc k) c u []) b.1);
        long = next_long k u r c (units_before c k) rise.below e.long (not_short r k c (not-true (short r k c) b.0));
      }

  entry_fits : Entry (suc k) (units_before c (suc k)) r c → fits r k c ≡ true
  unfolding fits
  entry_fits h =
      let u = units_before c (suc k) in
      both_and (leb (get_or c k 0) (2 ^ units_before c k)) (not (short r k c) && not (beaten (suc k) c u []))
      (le-leb (get_or c k 0) (2 ^ units_before c k) (smallest_next (suc k) u (plan_of (suc k) u c) c h.smallest k (omega arith)))
      (both_and (not (short r k c)) (not (beaten (suc k) c u []))
      (false_not (short r k c) (long_short r k c (long_next k u r c h.long)))
      (false_not (beaten (suc k) c u []) (⊎_elim
      (λ q. let w = search_beats (suc k) u c h.smallest.columns q in
      absurd (own_beaten (suc k) u c h.smallest.columns w.0 w.1.0 w.1.1 h.smallest))
      (λ q. q) (told (beaten (suc k) c u [])))))

-- members of a list of lists
abbrev pub Among : List ℕ → List (List ℕ) → Type 0
Among c [] = ⊥
Among c (d ∷ ds) = (c ≡ d) ⊎ Among c ds

among_left : (c : List ℕ) (l m : List (List ℕ)) → Among c l → Among c (l ++ m)
among_left c [] m i = absurd i
among_left c (d ∷ l) m (inl e) = inl e
among_left c (d ∷ l) m (inr i) = inr (among_left c l m i)

among_right : (c : List ℕ) (l m : List (List ℕ)) → Among c m → Among c (l ++ m)
among_right c [] m i = i
among_right c (d ∷ l) m i = inr (among_right c l m i)

among_either : (c : List ℕ) (l m : List (List ℕ)) → Among c (l ++ m) → Among c l ⊎ Among c m
among_either c [] m i = inr i
among_either c (d ∷ l) m (inl e) = inl (inl e)
among_either c (d ∷ l) m (inr i) = ⊎_elim (λ a. inl (inr a)) (λ b. inr b) (among_either c l m i)

at_among : (l : List (List ℕ)) (i : ℕ) → i < length l → Among (get_or l i []) l
at_among [] i h = absurd (omega arith)
at_among (c ∷ l) zero h = inl refl
at_among (c ∷ l) (suc i) h = inr (at_among l i (omega arith))

among_at : (l : List (List ℕ)) (c : List ℕ) → Among c l → (i : ℕ) × ((i < length l) × (get_or l i [] ≡ c))
among_at [] c m = absurd m
among_at (d ∷ l) c (inl e) = (0, (omega arith, sym e))
among_at (d ∷ l) c (inr m) = let r = among_at l c m in (suc r.0, (omega (arith, r.1.0), r.1.1))

-- each before all that follow
abbrev pub Ordered : ℕ → List (List ℕ) → Type 0
Ordered n [] = Unit
Ordered n (c ∷ l) = ((d : List ℕ) → Among d l → Before n c d) × Ordered n l

ordered_join : (n : ℕ) (l m : List (List ℕ)) → Ordered n l → Ordered n m → ((c d : List ℕ) → Among c l → Among d m → Before n c d) → Ordered n (l ++ m)
ordered_join n [] m a b h = b
ordered_join n (c ∷ l) m a b h = (
  (λ d i. ⊎_elim (λ j. a.0 d j) (λ j. h c d (inl refl) j) (among_either d l m i)),
  ordered_join n l m a.1 b (λ e d i j. h e d (inr i) j),
)

ordered_at : (n : ℕ) (l : List (List ℕ)) → Ordered n l → (i j : ℕ) → i < j → j < length l → Before n (get_or l i []) (get_or l j [])
ordered_at n [] o i j h k = absurd (omega arith)
ordered_at n (c ∷ l) o i zero h k = absurd (omega arith)
ordered_at n (c ∷ l) o zero (suc j) h k = o.0 (get_or l j []) (at_among l j (omega arith))
ordered_at n (c ∷ l) o (suc i) (suc j) h k = ordered_at n l o.1 i j (omega arith) (omega arith)

module _ (n m r : ℕ) where
  -- the columns p, entries so far, all below lo
  record Start (p : List ℕ) (lo : ℕ) : Type 0 where
    low : 0 < lo
    up : (f : ℕ) → f < length p → get_or p f 0 < lo
    entry : Entry (length p) (units_before p (length p)) r p

  -- l lists the entries that start with p and go on from lo
  record Rows (p : List ℕ) (lo : ℕ) (l : List (List ℕ)) : Type 0 where
    sound : (c : List ℕ) → Among c l → Entry n m r c
    starts : (c : List ℕ) → Among c l → Equal (length p) p c
    from : (c : List ℕ) → Among c l → length p < n → lo ≤ get_or c (length p) 0
    order : Ordered n l
    complete : (e : List ℕ) → Entry n m r e → Equal (length p) p e → (length p < n → lo ≤ get_or e (length p) 0) → (c : List ℕ) × (Among c l × Equal n c e)

  -- the list p, x
  module _ (p : List ℕ) (x : ℕ) where
    abbrev q : List ℕ
    q = p ++ x ∷ []

    len : length (p ++ x ∷ []) ≡ suc (length p)
    len = omega (arith, length-append p (x ∷ []))

    last : get_or (p ++ x ∷ []) (length p) 0 ≡ x
    last = get_or-append_seam p x [] 0

    init : (j : ℕ) → j < length p → get_or (p ++ x ∷ []) j 0 ≡ get_or p j 0
    init j h = get_or-append p (x ∷ []) 0 j h

    -- a list that starts with p, x
    front : (c : List ℕ) → Equal (length q) q c → Equal (length p) p c
    front c e f h = sym (init f h) ∙ e f (omega (arith, len))

    next : (c : List ℕ) → Equal (length q) q c → get_or c (length p) 0 ≡ x
    next c e = sym (e (length p) (omega (arith, len))) ∙ last

    both : (c : List ℕ) → Equal (length p) p c → get_or c (length p) 0 ≡ x → Equal (length q) q c
    both c e z f h =
        by_cases (ℕ_discrete f (length p))
        (λ s. rw s (last ∙ sym z))
        (λ ne. init f (omega (arith, len)) ∙ e f (omega (arith, len)))

    module _ (lo : ℕ) (s : Start p lo) (l : lo ≤ x) where
      abbrev k : ℕ
      k = length p

      was : Entry k (units_before q k) r q
      was = agree_entry k (units_before p k) r p s.entry q k (omega arith) (λ f h. sym (init f h))

      some : 0 < get_or q k 0
      some = omega (arith, last, s.low)

      above : (f : ℕ) → f < k → get_or q f 0 < get_or q k 0
      above f h = omega (arith, last, init f h, s.up f h)

      started : (d : ℕ) → may m r d k q ≡ true → Start q (suc x)
      unfolding may
      started d h = record {
        low = omega arith;
        up = λ f w. by_cases (ℕ_discrete f k) (λ z. rw z (omega (arith, last))) (λ ne. let z : f < k = omega (arith, len) in omega (arith, last, above f z));
        entry = subst (λ (i : ℕ). Entry i (units_before q i) r q) (sym len)
            (fits_entry r k q was some above (and_both (leb m (units_before q (suc k) + d)) (fits r k q) h).1);
      }

      -- no entry starts with a list that fails the test
      dead : (d : ℕ) → suc k + d ≡ n → may m r d k q ≡ false → (e : List ℕ) → Entry n m r e → Equal (length q) q e → ⊥
      unfolding may
      dead d z h e he a =
          let w : suc k ≤ n = omega arith in
          let b = equal_sym (suc k) q e (subst (λ (i : ℕ). Equal i q e) len a) in
          clash (both_and (leb m (units_before q (suc k) + d)) (fits r k q)
          (le-leb m (units_before q (suc k) + d) (omega (arith, agree_left n m r e he q (suc k) w b)))
          (entry_fits r k q was some above (agree_entry n m r e he q (suc k) w b))) h

  -- whole lists
  ends : (p : List ℕ) (lo : ℕ) → Start p lo → length p ≡ n → (b : Bool) → eqb (units_before p (length p)) m ≡ b → Rows p lo (keep_if b (p ∷ []))
  ends p lo s h true e =
      let w : Entry n m r p =
      subst (λ (i : ℕ). Entry i m r p) h (subst (λ (u : ℕ). Entry (length p) u r p) (eqb-true (units_before p (length p)) m e) s.entry) in
      record {
        sound = λ c i. ⊎_elim (λ z. subst (Entry n m r) (sym z) w) (λ z. absurd z) i;
        starts = λ c i. ⊎_elim (λ z f l. ap (λ (d : List ℕ). get_or d f 0) (sym z)) (λ z. absurd z) i;
        from = λ c i l. absurd (omega arith);
        order = ((λ d i. absurd i), tt);
        complete = λ d i a z. (p, (inl refl, subst (λ (j : ℕ). Equal j p d) h a));
      }
  ends p lo s h false e = record {
    sound = λ c i. absurd i;
    starts = λ c i. absurd i;
    from = λ c i l. absurd i;
    order = tt;
    complete = λ d i a z.
        let u = units_same p d n (subst (λ (j : ℕ). Equal j p d) h a) in
        absurd (clash (eq-eqb (units_before p (length p)) m (ap (units_before p) h ∙ u ∙ entry_units n m r d i)) e);
  }

  -- the lists that start with p, x, and then those from p, x + 1 on
  module _ (p : List ℕ) (lo x : ℕ) (s : Start p lo) (g : lo ≤ x) (l : length p < n) (a b : List (List ℕ)) (rest : Rows p (suc x) b) where
    abbrev px : List ℕ
    px = p ++ x ∷ []

    -- what stands in the first part
    record Firsts : Type 0 where
      sound : (c : List ℕ) → Among c a → Entry n m r c
      starts : (c : List ℕ) → Among c a → Equal (length px) px c
      order : Ordered n a
      complete : (e : List ℕ) → Entry n m r e → Equal (length px) px e → (c : List ℕ) × (Among c a × Equal n c e)

    joined : Firsts → Rows p x (a ++ b)
    joined h = record {
      sound = λ c i. ⊎_elim (λ j. h.sound c j) (λ j. rest.sound c j) (among_either c a b i);
      starts = λ c i. ⊎_elim (λ j. front p x c (h.starts c j)) (λ j. rest.starts c j) (among_either c a b i);
      from = λ c i w. ⊎_elim (λ j. omega (arith, next p x c (h.starts c j))) (λ j. omega (arith, rest.from c j w)) (among_either c a b i);
      order = ordered_join n a b h.order rest.order
          (λ c d i j. record {
            at = length p;
            within = l;
            agree = λ f w. sym (front p x c (h.starts c i) f w) ∙ rest.starts d j f w;
            smaller = omega (arith, next p x c (h.starts c i), rest.from d j l);
          });
      complete = λ e he q z.
          by_cases (ℕ_discrete (get_or e (length p) 0) x)
          (λ v. let w = h.complete e he (both p x e q v) in (w.0, (among_left w.0 a b w.1.0, w.1.1)))
          (λ ne. let w = rest.complete e he q (λ y. omega (arith, z y)) in (w.0, (among_right w.0 a b w.1.0, w.1.1)));
    }

  -- the next column of an entry that starts with p, x
  goes_on : (p : List ℕ) (x : ℕ) (e : List ℕ) → Entry n m r e → Equal (length (p ++ x ∷ [])) (p ++ x ∷ []) e → length (p ++ x ∷ []) < n
      → suc x ≤ get_or e (length (p ++ x ∷ [])) 0
  goes_on p x e he a l =
      omega (arith, next p x e a, he.smallest.columns.rising (length p) (length (p ++ x ∷ [])) (omega (arith, len p x)) l)

  picked : (p : List ℕ) (lo x : ℕ) (s : Start p lo) (g : lo ≤ x) (l : length p < n) (a b : List (List ℕ)) (rest : Rows p (suc x) b) (d : ℕ)
      → suc (length p) + d ≡ n → (t : Bool) → may m r d (length p) (p ++ x ∷ []) ≡ t
      → (Start (p ++ x ∷ []) (suc x) → Rows (p ++ x ∷ []) (suc x) a) → Firsts p lo x s g l (keep_if t a) b rest
  picked p lo x s g l a b rest d z true h f =
      let w = f (started p x lo s g d h) in
      record { sound = w.sound; starts = w.starts; order = w.order; complete = λ e he q. w.complete e he q (goes_on p x e he q) }
  picked p lo x s g l a b rest d z false h f =
      record { sound = λ c i. absurd i; starts = λ c i. absurd i; order = tt; complete = λ e he q. absurd (dead p x lo s g d z h e he q) }

  branched : (f : List ℕ → ℕ → List (List ℕ)) (p : List ℕ) (lo d : ℕ) → Start p lo → suc (length p) + d ≡ n
      → ((x : ℕ) → Start (p ++ x ∷ []) (suc x) → Rows (p ++ x ∷ []) (suc x) (f (p ++ x ∷ []) (suc x)))
      → (c x : ℕ) → lo ≤ x → 2 ^ m ≤ x + c → Rows p x (branch (may m r d (length p)) f p c x)
  unfolding branch
  branched f p lo d s l g zero x h e = record {
    sound = λ c i. absurd i;
    starts = λ c i. absurd i;
    from = λ c i w. absurd i;
    order = tt;
    complete = λ b i a z. let w : length p < n = omega arith in absurd (omega (arith, z w, i.smallest.columns.below (length p) w));
  }
  branched f p lo d s l g (suc c) x h e =
      let t = may m r d (length p) (p ++ x ∷ []) in
      let a = f (p ++ x ∷ []) (suc x) in
      let b = branch (may m r d (length p)) f p c (suc x) in
      let w : length p < n = omega arith in
      let rest = branched f p lo d s l g c (suc x) (omega arith) (omega arith) in
      joined p lo x s h w (keep_if t a) b rest (picked p lo x s h w a b rest d l t refl (g x))

  lists : (d : ℕ) (p : List ℕ) (lo : ℕ) → length p + d ≡ n → Start p lo → Rows p lo (listing m r d p lo)
  unfolding listing
  lists zero p lo e s = ends p lo s (omega arith) (eqb (units_before p (length p)) m) refl
  lists (suc d) p lo e s =
      branched (listing m r d) p lo d s (omega arith)
      (λ x st. lists d (p ++ x ∷ []) (suc x) (omega (arith, len p x)) st)
      (2 ^ m - lo) lo (omega arith) (omega arith)

  -- the model is the catalogue
  pub model_catalogue : Catalogue n m r (length (entries n m r)) (λ i. get_or (entries n m r) i [])
  model_catalogue =
      let l = entries n m r in
      let w = lists n [] 1 (omega arith) (record { low = omega arith; up = λ f h. absurd (omega arith); entry = entry_none r [] }) in
      record {
        sound = λ i h. w.sound (get_or l i []) (at_among l i h);
        order = λ i j h k. ordered_at n l w.order i j h k;
        complete = λ c e.
            let o = w.complete c e (λ f h. absurd (omega arith)) (λ h. e.smallest.columns.above 0 h) in
            let i = among_at l o.0 o.1.0 in
            (i.0, (i.1.0, subst (λ (d : List ℕ). Equal n d c) (sym i.1.1) o.1.1));
      }
