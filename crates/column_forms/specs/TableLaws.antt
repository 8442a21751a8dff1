-- The steps of the tables: the tables of span doubling, the marks of columns, run tables.
use Rattle.std.specs.Prelude.{◌≡◌, refl, List, ℕ, ◌+◌, ◌-◌, ◌*◌, ◌%◌, ◌^◌, ◌<◌, length, get_or, set, replicate}
use Rattle.std.proofs.Common.{sym, ap, ap₂, ◌∙◌, subst, inl, inr, ⊎_elim, add-one, arith, shl_exact, length-set, get_or-set_same, get_or-set_other}
use Rattle.std.proofs.Math.Logic.{by_cases}
use Rattle.std.proofs.Math.Decide.{ℕ_discrete, dec_lt}
use Rattle.std.proofs.Math.Arith.{lt-one}
use Rattle.std.specs.Int.Bits.{bit_xor, bit_or, or_shifted_r, xor_shifted}
use Rattle.std.proofs.lemmas.Nat.{xor_comm}
use Rattle.gf2.specs.Digits.{bit}
use Rattle.gf2.specs.Parity.{odd_bit}
use Rattle.gf2.specs.Doubling.{Doubling, doubling_none, doubling_more}
use Rattle.gf2.specs.Fill.{Filled, fill_more, zeros}
use Rattle.gf2.specs.DigitLaws.{pow_twice}
use Rattle.regular.specs.Columns.{run_of, RunTable, RunTableWith}
use Rattle.standard.specs.Form.{Repeat}
use Rattle.standard.specs.Runs.{run_lt, run_zero, run_xor}
use Rattle.column_forms.specs.Tables.{SumsHeld, SumsGrown, Seen}

-- the tables of span doubling: one number more
pub held_more : (F : ℕ → ℕ) (s v : ℕ) (sums places : List ℕ) → v ≡ F s → s < length sums → v < length places → ((i : ℕ) → i < s → F i ≡ F s → ⊥)
    → SumsHeld F s sums places → SumsHeld F (s + 1) (set sums s v) (set places v (s + 1))
held_more F s v sums places e ls lp fresh o =
    record {
      filled = λ i h. by_cases (ℕ_discrete i s)
          (λ q. rw q (get_or-set_same sums s v 0 ls ∙ e))
          (λ ne. get_or-set_other sums s i v 0 ne ∙ o.filled i (omega arith));
      back = λ i h. by_cases (ℕ_discrete i s)
          (λ q. rw (q, ← e) (get_or-set_same places v (s + 1) 0 lp))
          (λ ne. get_or-set_other places v (F i) (s + 1) 0 (λ q. fresh i (omega arith) (q ∙ e)) ∙ o.back i (omega arith));
      only = λ u i p. by_cases (ℕ_discrete u v)
          (λ q.
          let r : i ≡ s = omega (arith, sym (get_or-set_same places v (s + 1) 0 lp) ∙ ap (λ (x : ℕ). get_or (set places v (s + 1)) x 0) (sym q) ∙ p) in
          (omega arith, ap F r ∙ sym e ∙ sym q))
          (λ ne. let r = o.only u i (sym (get_or-set_other places v u (s + 1) 0 ne) ∙ p) in (omega (arith, r.0), r.1));
    }

-- .. the same numbers
pub held_same : (F G : ℕ → ℕ) (s : ℕ) (sums places : List ℕ) → ((i : ℕ) → i < s → F i ≡ G i) → SumsHeld F s sums places → SumsHeld G s sums places
held_same F G s sums places h o =
    record {
      filled = λ i l. o.filled i l ∙ h i l;
      back = λ i l. ap (λ (x : ℕ). get_or places x 0) (sym (h i l)) ∙ o.back i l;
      only = λ v i e. let r = o.only v i e in (r.0, sym (h i r.0) ∙ r.1);
    }

pub grown_none : (c half : ℕ) (s p : List ℕ) → SumsGrown c half 0 s p s p
grown_none c half s p =
    let e : half ≡ half + 0 = omega arith in
    record {
      doubling = doubling_none c half s;
      wide = refl;
      last = λ i h. absurd (omega arith);
      kept = λ v h. refl;
      held = λ F d h. subst (λ (x : ℕ). SumsHeld F x s p) e h;
    }

pub grown_more : (c half k z : ℕ) (s p sums places : List ℕ) → k < half → half + k < length sums → z ≡ bit_xor (get_or sums k 0) c → z < length places
    → SumsGrown c half k s p sums places → SumsGrown c half (k + 1) s p (set sums (half + k) (bit_xor (get_or sums k 0) c)) (set places z (half + k + 1))
grown_more c half k z s p sums places hk ls q lp g =
    let v = bit_xor (get_or sums k 0) c in
    let at : bit_xor (get_or s k 0) c ≡ z = ap (λ (x : ℕ). bit_xor x c) (sym (g.doubling.low k hk)) ∙ sym q in
    record {
      doubling = doubling_more c half k s sums hk ls g.doubling;
      wide = length-set places z (half + k + 1) ∙ g.wide;
      last = λ i h none. by_cases (ℕ_discrete i k)
          (λ e. rw (e, at) (get_or-set_same places z (half + k + 1) 0 lp))
          (λ ne. get_or-set_other places z (bit_xor (get_or s i 0) c) (half + k + 1) 0 (λ e. none k (omega arith) (omega arith) (at ∙ sym e))
          ∙ g.last i (omega arith) (λ j p l. none j p (omega arith)));
      kept = λ u none. get_or-set_other places z u (half + k + 1) 0 (λ e. none k (omega arith) (at ∙ sym e)) ∙ g.kept u (λ i h. none i (omega arith));
      held = λ F d h.
          let o = g.held F d h in
          let e : v ≡ F (half + k) = ap (λ (x : ℕ). bit_xor x c) (o.filled k (omega arith)) ∙ sym (d.next k hk) in
          let a : half + k + 1 ≡ half + (k + 1) = omega arith in
          subst (λ (x : ℕ). SumsHeld F x (set sums (half + k) v) (set places z (half + k + 1))) a
          (subst (λ (x : ℕ). SumsHeld F (half + k + 1) (set sums (half + k) v) (set places x (half + k + 1))) (sym q)
          (held_more F (half + k) v sums places e ls (omega arith) (λ i l t. omega (arith, d.once i (half + k) (omega arith) (omega arith) t)) o));
    }

pub grown_all : (c half k : ℕ) (s p sums places : List ℕ) → k ≡ half → SumsGrown c half k s p sums places → SumsGrown c half half s p sums places
grown_all c half k s p sums places e g = subst (λ (i : ℕ). SumsGrown c half i s p sums places) e g

-- the marks of columns
pub seen_none : (c t : List ℕ) → t ≡ replicate 128 0 → Seen c 0 (set t 0 1)
seen_none c t e =
    let z : (k : ℕ) → get_or t k 0 ≡ 0 = λ k. ap (λ (x : List ℕ). get_or x k 0) e ∙ zeros 128 k in
    let l : length t ≡ 128 = ap length e in
    record {
      size = length-set t 0 1 ∙ l;
      none = λ p. omega (arith, get_or-set_same t 0 1 0 (omega arith));
      passed = λ g h. absurd (omega arith);
      only = λ v p. by_cases (ℕ_discrete v 0) (λ q. inl q) (λ ne. absurd (p (get_or-set_other t 0 v 1 0 ne ∙ z v)));
      distinct = record { some = λ f h. absurd (omega arith); once = λ f g h l. absurd (omega arith) };
    }

module _ (c : List ℕ) (f : ℕ) (t : List ℕ) (x : ℕ) (is : x ≡ get_or c f 0) (s : Seen c f t) where
  pub seen_more : x < 128 → get_or t x 0 ≡ 0 → Seen c (f + 1) (set t x 1)
  seen_more l e =
      let lx : x < length t = omega (arith, s.size) in
      let at : get_or (set t x 1) x 0 ≡ 1 = get_or-set_same t x 1 0 lx in
      let kept : (v : ℕ) → (get_or t v 0 ≡ 0 → ⊥) → get_or (set t x 1) v 0 ≡ 0 → ⊥ =
      λ v h p. by_cases (ℕ_discrete v x) (λ q. h (ap (λ (y : ℕ). get_or t y 0) q ∙ e)) (λ ne. h (sym (get_or-set_other t x v 1 0 ne) ∙ p)) in
      record {
        size = length-set t x 1 ∙ s.size;
        none = kept 0 s.none;
        passed = λ g h. by_cases (ℕ_discrete g f)
            (λ q p. omega (arith, at, ap (λ (y : ℕ). get_or (set t x 1) y 0) (is ∙ ap (λ (y : ℕ). get_or c y 0) (sym q)) ∙ p))
            (λ ne. kept (get_or c g 0) (s.passed g (omega arith)));
        only = λ v p. by_cases (ℕ_discrete v x)
            (λ q. inr (f, (omega arith, sym is ∙ sym q)))
            (λ ne. ⊎_elim (λ q. inl q) (λ r. inr (r.0, (omega (arith, r.1.0), r.1.1))) (s.only v (λ q. p (get_or-set_other t x v 1 0 ne ∙ q))));
        distinct = record {
          some = λ g h. by_cases (ℕ_discrete g f)
              (λ q. by_cases (ℕ_discrete x 0) (λ z. absurd (s.none (ap (λ (y : ℕ). get_or t y 0) (sym z) ∙ e))) (λ nz. rw (q, ← is) (omega arith)))
              (λ ne. s.distinct.some g (omega arith));
          once = λ g i h li p. by_cases (ℕ_discrete i f)
              (λ q. s.passed g (omega arith) (ap (λ (y : ℕ). get_or t y 0) (p ∙ ap (λ (y : ℕ). get_or c y 0) q ∙ sym is) ∙ e))
              (λ ne. s.distinct.once g i h (omega arith) p);
        };
      }

  pub seen_twice : (n : ℕ) → f < n → (get_or t x 0 ≡ 0 → ⊥) → Repeat n c
  seen_twice n h p =
      ⊎_elim (λ e. Repeat.none f h (sym is ∙ e)) (λ r. Repeat.twice r.0 f r.1.0 h (r.1.1 ∙ is)) (s.only x p)

-- run tables
pub unit_turn : (c : List ℕ) (f d w x : ℕ) → f < 16 → w ≡ run_of c f (2 ^ d) → x ≡ bit d (get_or c f 0)
    → bit_or w (x * 2 ^ f % 2 ^ 16) ≡ run_of c (f + 1) (2 ^ d)
unfolding run_of
unit_turn c f d w x h e p =
    let y = get_or c f 0 in
    let r = run_of c f (2 ^ d) in
    let q : x * 2 ^ f % 2 ^ 16 ≡ x * 2 ^ f = shl_exact 1 f 16 (omega arith) (omega arith) in
    rw (add-one f)
    (ap₂ bit_or e q ∙ or_shifted_r x f r (run_lt c f (2 ^ d))
    ∙ ap (λ (a : ℕ). a * 2 ^ f + r) (p ∙ sym (odd_bit d y)) ∙ omega arith)

pub runs_none : (n : ℕ) (c : List ℕ) → RunTable n 0 c (replicate 128 0)
runs_none n c =
    record {
      places = refl;
      run = λ j h. zeros 128 j ∙ sym (ap (run_of c n) (lt-one h) ∙ run_zero c n);
      unused = λ j h. zeros 128 j;
    }

pub runs_more : (n d : ℕ) (c s t : List ℕ) (u half : ℕ) → half ≡ 2 ^ d → u ≡ run_of c n (2 ^ d) → RunTable n d c s → Doubling u half half s t
    → RunTable n (d + 1) c t
runs_more n d c s t u half e p r o =
    let tw = pow_twice d half e in
    record {
      places = o.size ∙ r.places;
      run = λ j h. by_cases (dec_lt j half)
          (λ l. o.low j l ∙ r.run j (omega arith))
          (λ l.
          let k = j - half in
          let one : 2 ^ d ≡ 1 * 2 ^ d = omega arith in
          let q : half + k ≡ j = omega arith in
          let x : bit_xor k (2 ^ d) ≡ half + k = xor_comm k (2 ^ d) ∙ ap (λ (y : ℕ). bit_xor y k) one ∙ xor_shifted 1 d k (omega arith) ∙ omega arith in
          ap (λ (y : ℕ). get_or t y 0) (sym q) ∙ o.high k (omega arith) ∙ ap₂ bit_xor (r.run k (omega arith)) p ∙ sym (run_xor c n k (2 ^ d))
          ∙ ap (run_of c n) (x ∙ q));
      unused = λ j h. o.past j (omega arith) ∙ r.unused j (omega arith);
    }

-- the table s, switched below j
abbrev pub Switching : List ℕ → ℕ → ℕ → List ℕ → Type 0
Switching s mask j t = Filled (λ k. bit_xor (get_or s k 0) mask) s j t

pub switch_more : (s : List ℕ) (mask j : ℕ) (t : List ℕ) → j < length s → Switching s mask j t
    → Switching s mask (j + 1) (set t j (bit_xor (get_or t j 0) mask))
switch_more s mask j t h o =
    fill_more (λ k. bit_xor (get_or s k 0) mask) s j t o (bit_xor (get_or t j 0) mask) h (ap (λ (x : ℕ). bit_xor x mask) (o.kept j (omega arith)))

pub switch_all : (n m : ℕ) (c : List ℕ) (mask : ℕ) (s t : List ℕ) (j : ℕ) → j ≡ 2 ^ m → RunTable n m c s → Switching s mask j t
    → RunTableWith n m c mask t
switch_all n m c mask s t j e r o =
    record {
      places = o.size ∙ r.places;
      run = λ k h. o.done k (omega arith) ∙ ap (λ (x : ℕ). bit_xor x mask) (r.run k h);
      unused = λ k h. o.kept k (omega arith) ∙ r.unused k h;
    }
