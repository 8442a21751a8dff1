-- Demand 3: from any regular table without a word below r exactly one entry of the catalogue can be reached; no two entries reach each other; and
-- the catalogue is fixed by its definition.
use Rattle.std.specs.Prelude.{◌≡◌, refl, List, ℕ, zero, suc, ◌^◌, ◌≤◌, ◌<◌, get_or}
use Rattle.std.proofs.Common.{sym, ap, subst, ◌∙◌, arith}
use Rattle.std.proofs.Math.Logic.{by_cases}
use Rattle.std.proofs.Math.Decide.{ℕ_discrete, dec_lt}
use Rattle.gf2.specs.Lists.{in_to, of_to}
use Rattle.gf2.specs.Members.{In}
use Rattle.isomorphism_laws.specs.KeptWords.{same_no_short}
use Rattle.isomorphism_laws.specs.Masks.{plan_within}
use Rattle.isomorphism_laws.specs.SamePlan.{same_refl, same_sym, same_trans, same_agree}
use Rattle.regular.specs.Columns.{plan_of, run_of}
use Rattle.regular.specs.Runs.{Agree, Table, runs_of}
use Rattle.regular.specs.Same.{Same}
use Rattle.regular.specs.Smallest.{Equal, Before, Smallest, Catalogue, Demand3}
use Rattle.regular.specs.Words.{NoShort}
use Rattle.standard.specs.FromColumns.{spans_apart, runs_table}
use Rattle.standard.specs.Model.{run_table}
use Rattle.standard.specs.Runs.{plan_cols}
use Rattle.words.specs.Switches.{agree_sym, no_short_agree, agree_refl}
use Rattle.smallest_laws.specs.Beating.{own_unique, smallest_own, smallest_moved}
use Rattle.smallest_laws.specs.Dictionary.{before_irrefl, before_equal, equal_before, equal_sym, equal_refl, before_trans, equal_trans}
use Rattle.smallest_laws.specs.Exists.{smallest_exists}

module _ (n m r count : ℕ) (entry : ℕ → List ℕ) (k : Catalogue n m r count entry) where
  -- entries with equal columns stand at one place
  entry_once : (i j : ℕ) → i < count → j < count → Equal n (entry i) (entry j) → i ≡ j
  entry_once i j hi hj e =
      by_cases (dec_lt i j)
      (λ l. absurd (before_irrefl n (entry i) (entry j) e (k.order i j l hj)))
      (λ l. by_cases (ℕ_discrete i j) (λ q. q)
      (λ ne. absurd (before_irrefl n (entry j) (entry i) (equal_sym n (entry i) (entry j) e) (k.order j i (omega arith) hi))))

  -- no two entries reach each other
  pub entries_apart : (i j : ℕ) → i < count → j < count → Same n (plan_of n m (entry i)) (plan_of n m (entry j)) → i ≡ j
  entries_apart i j hi hj s = entry_once i j hi hj (own_unique n m (entry i) (entry j) (k.sound i hi).smallest (k.sound j hj).smallest s)

  -- demand 3
  pub demand_3 : 3 ≤ r → Demand3 n m r count entry
  demand_3 h t tab ns =
      let f = smallest_exists n m t tab (λ w p. omega (arith, ns w p)) in
      let c = f.0 in
      let s = f.1.same in
      let i = k.complete c (record { smallest = smallest_own n m (runs_of t) c f.1; long = same_no_short n (runs_of t) (plan_of n m c) s r ns }) in
      let e = equal_sym n (entry i.0) c i.1.1 in
      let to : Same n (runs_of t) (plan_of n m (entry i.0)) =
      same_agree n (runs_of t) (runs_of t) (plan_of n m c) (plan_of n m (entry i.0)) (agree_refl (runs_of t))
      (plan_cols n m c (entry i.0) e) s in
      record {
        place = i.0;
        within = i.1.0;
        reached = to;
        only = λ j l q. entries_apart i.0 j i.1.0 l
            (same_trans n (plan_of n m (entry i.0)) (runs_of t) (plan_of n m (entry j))
            (same_sym n (runs_of t) (plan_of n m (entry i.0)) tab.within to) q);
      }

-- the plan of columns as a run table
pub plan_runs : (n m : ℕ) (c : List ℕ) → Agree (plan_of n m c) (runs_of (run_table n m c))
plan_runs n m c = record {
  into = λ x p. subst (λ (y : ℕ). In y (run_table n m c)) (sym p.1.1) (in_to (run_of c n) (2 ^ m) p.0 p.1.0);
  onto = λ x i. of_to (run_of c n) (2 ^ m) x i;
}

-- demand 3 whole: any regular plan without short words reaches exactly one entry; every entry is such a plan, in smallest form; no two entries reach
-- each other; the earlier of two has the smaller column where they first differ
pub record Whole (n m r count : ℕ) (entry : ℕ → List ℕ) : Type 0 where
  pub one : Demand3 n m r count entry
  pub table : (i : ℕ) → i < count → Table n m (run_table n m (entry i))
  pub long : (i : ℕ) → i < count → NoShort n r (runs_of (run_table n m (entry i)))
  pub least : (i : ℕ) → i < count → Smallest n m (runs_of (run_table n m (entry i))) (entry i)
  pub apart : (i j : ℕ) → i < count → j < count → Same n (runs_of (run_table n m (entry i))) (runs_of (run_table n m (entry j))) → i ≡ j
  pub order : (i j : ℕ) → i < j → j < count → Before n (entry i) (entry j)

pub whole : (n m r count : ℕ) (entry : ℕ → List ℕ) → 3 ≤ r → Catalogue n m r count entry → Whole n m r count entry
whole n m r count entry h k =
    let own : (c : List ℕ) → Agree (plan_of n m c) (runs_of (run_table n m c)) = plan_runs n m in
    let tab : (i : ℕ) → i < count
    → Table n m (run_table n m (entry i)) = λ i l. runs_table n m (entry i) (spans_apart n m (entry i) (k.sound i l).smallest.columns.rank) in
    let back : (c : List ℕ) → Same n (runs_of (run_table n m c)) (plan_of n m c) = λ c.
    same_agree n (plan_of n m c) (runs_of (run_table n m c)) (plan_of n m c) (plan_of n m c) (own c) (agree_refl (plan_of n m c))
    (same_refl n (plan_of n m c) (plan_within n m c)) in
    record {
      one = demand_3 n m r count entry k h;
      table = tab;
      long = λ i l. no_short_agree n (plan_of n m (entry i)) (runs_of (run_table n m (entry i))) (own (entry i)) r (k.sound i l).long;
      least = λ i l. smallest_moved n m (runs_of (run_table n m (entry i))) (plan_of n m (entry i)) (entry i) (tab i l).within (back (entry i))
          (k.sound i l).smallest;
      apart = λ i j p q s. entries_apart n m r count entry k i j p q
          (same_agree n (runs_of (run_table n m (entry i))) (plan_of n m (entry i)) (runs_of (run_table n m (entry j))) (plan_of n m (entry j))
          (agree_sym (plan_of n m (entry i)) (runs_of (run_table n m (entry i))) (own (entry i)))
          (agree_sym (plan_of n m (entry j)) (runs_of (run_table n m (entry j))) (own (entry j))) s);
      order = k.order;
    }

-- the definition fixes the catalogue: the number of its entries, and their columns
module _ (n m r : ℕ) (a b : ℕ) (c d : ℕ → List ℕ) (k : Catalogue n m r a c) (l : Catalogue n m r b d) where
  -- the place in d of an entry of c
  there : (i : ℕ) → i < a → (j : ℕ) × ((j < b) × Equal n (d j) (c i))
  there i h = l.complete (c i) (k.sound i h)

  -- an entry of c stands no earlier in d
  later : (i : ℕ) (h : i < a) → i ≤ (there i h).0
  later zero h = omega arith
  later (suc i) h =
      let o = there (suc i) h in
      let h' : i < a = omega arith in
      let p = there i h' in
      let low = later i h' in
      let q : Before n (c i) (c (suc i)) = k.order i (suc i) (omega arith) h in
      let w : Before n (d p.0) (d o.0) =
      equal_before n (d p.0) (c i) (d o.0) p.1.1 (before_equal n (c i) (c (suc i)) (d o.0) q (equal_sym n (d o.0) (c (suc i)) o.1.1)) in
      by_cases (dec_lt p.0 o.0) (λ s. omega arith)
      (λ s. by_cases (ℕ_discrete p.0 o.0)
      (λ e. absurd (before_irrefl n (d p.0) (d o.0) (λ f g. ap (λ (z : ℕ). get_or (d z) f 0) e) w))
      (λ ne. absurd (before_irrefl n (d p.0) (d p.0) (equal_refl n (d p.0))
      (before_trans n (d p.0) (d o.0) (d p.0) w (l.order o.0 p.0 (omega arith) p.1.0)))))

  fewer_entries : a ≤ b
  fewer_entries = go a refl
    where
      go : (x : ℕ) → x ≡ a → x ≤ b
      go zero e = omega arith
      go (suc x) e = let h : x < a = omega arith in omega (arith, later x h, (there x h).1.0)

pub catalogue_unique : (n m r a b : ℕ) (c d : ℕ → List ℕ) → Catalogue n m r a c → Catalogue n m r b d → (a ≡ b) × ((i : ℕ) → i < a → Equal n (c i) (d i))
catalogue_unique n m r a b c d k l = (
  omega (arith, fewer_entries n m r a b c d k l, fewer_entries n m r b a d c l k),
  λ i h.
      let o = there n m r a b c d k l i h in
      let p = there n m r b a d c l k o.0 o.1.0 in
      let e = entry_once n m r a c k p.0 i p.1.0 h (equal_trans n (c p.0) (d o.0) (c i) p.1.1 o.1.1) in
      let q : o.0 ≡ i = omega (arith, later n m r a b c d k l i h, later n m r b a d c l k o.0 o.1.0) in
      λ f w. sym (o.1.1 f w) ∙ ap (λ (z : ℕ). get_or (d z) f 0) q,
)
