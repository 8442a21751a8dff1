-- Less aberration by the patterns, whichever lists hold them, and which list is handed back.
use Rattle.std.specs.Prelude.{◌≡◌, refl, Bool, List, ℕ, ◌-◌, ◌≤◌, ◌<◌, take}
use Rattle.std.proofs.Common.{subst, ◌∙◌, arith}
use Rattle.std.specs.Borrow.{Bor}
use Rattle.gf2.specs.Answers.{Tells}
use Rattle.regular.specs.Runs.{Runs}
use Rattle.regular.specs.Pattern.{Pattern, Better, LessAberration, last_length}
use Rattle.regular.specs.Columns.{plan_of}
use Rattle.regular.specs.Refusals.{either, Lowest, Chooses, HandsBack}
use Rattle.regular.specs.Given.{Given}
use Rattle.regular.specs.Measures.{ChoosesLess}
use Rattle.regular.specs.Answers.{Admitted}
use Rattle.counts.specs.Patterns.{pattern_unique}
use Rattle.admission.specs.Admission.{Admission, Ready, ready}
use Rattle.measures.specs.Measured.{pattern_given, pattern_columns}
use Rattle.regular.specs.RefusalLaws.{lowest_unique, Lower, lowest_lower, lower_none}

-- the better of two patterns is better in every pair of lists that hold them
better_same : (n last : ℕ) (s t : Runs) (p q u v : List ℕ) → last ≤ n → Pattern n t p → Pattern n s q → Pattern n t u → Pattern n s v
    → Better last u v → Better last p q
better_same n last s t p q u v h tp sq tu sv b =
    let f = b.from in
    let e = b.to in
    record {
      at = b.at;
      from = f;
      to = e;
      before = λ l low less.
          pattern_unique n t p u tp tu l (omega arith) (omega arith) ∙ b.before l low less ∙ pattern_unique n s v q sv sq l (omega arith) (omega arith);
      fewer = omega (
        arith,
        b.fewer,
        pattern_unique n t p u tp tu b.at (omega arith) (omega arith),
        pattern_unique n s q v sq sv b.at (omega arith) (omega arith),
      );
    }

less_better : (n m : ℕ) (t s : Runs) (p q : List ℕ) → Pattern n t p → Pattern n s q → LessAberration n m t s → Better (last_length n m) p q
less_better n m t s p q tp sq l = better_same n (last_length n m) s t p q l.p l.q (omega arith) tp sq l.of_t l.of_s l.better

-- so the patterns decide, compared up to the last length
pub less_told : {n m : ℕ} {t s : Runs} {p q : List ℕ} {r : Bool} → Pattern n t p → Pattern n s q
    → Tells r (Better (last_length n m) p q) (Better (last_length n m) p q → ⊥) → Tells r (LessAberration n m t s) (LessAberration n m t s → ⊥)
less_told {n} {m} {t} {s} {p} {q} tp sq b = (
  λ y. record { p = p; q = q; of_t = tp; of_s = sq; better = b.0 y },
  λ y less. b.1 y (less_better n m t s p q tp sq less),
)

-- the lists of two admitted plans p and q, of which one is handed back; r is the call's number
module _ {n g : ℕ} {p q : Given} {a b : Admitted} {r : ℕ} (pa : Admission n g p a) (qb : Admission n g q b) (l : Lower a.number b.number r) where
  abbrev Columns : Type 0
  Columns = LessAberration n (n - g) (plan_of n (n - g) b.columns) (plan_of n (n - g) a.columns)

  low : Lowest (either p.faults q.faults) r
  low = lowest_lower p.faults q.faults a.number b.number r pa.lowest qb.lowest l

  pub both_ready : r ≡ 0 → Ready n g a.columns × Ready n g b.columns
  both_ready e = let z = lower_none a.number b.number r l e in (ready pa z.0, ready qb z.1)

  into : r ≡ 0 → Columns → LessAberration n (n - g) q.plan p.plan
  into e k =
      let z = lower_none a.number b.number r l e in
      record { p = k.p; q = k.q; of_t = pattern_given qb z.1 k.p k.of_t; of_s = pattern_given pa z.0 k.q k.of_s; better = k.better }

  onto : r ≡ 0 → LessAberration n (n - g) q.plan p.plan → Columns
  onto e k =
      let z = lower_none a.number b.number r l e in
      record { p = k.p; q = k.q; of_t = pattern_columns qb z.1 k.p k.of_t; of_s = pattern_columns pa z.0 k.q k.of_s; better = k.better }

  -- one is refused
  pub chooses_none : (r ≡ 0 → ⊥) → ChoosesLess n (n - g) p q 0
  chooses_none some = Chooses.refused r (omega (arith, some)) low

  pub chooses_second : r ≡ 0 → LessAberration n (n - g) (plan_of n (n - g) b.columns) (plan_of n (n - g) a.columns) → ChoosesLess n (n - g) p q 2
  chooses_second e less = Chooses.second (subst (Lowest (either p.faults q.faults)) e low) (into e less)

  pub chooses_first : r ≡ 0 → (LessAberration n (n - g) (plan_of n (n - g) b.columns) (plan_of n (n - g) a.columns) → ⊥) → ChoosesLess n (n - g) p q 1
  chooses_first e none = Chooses.first (subst (Lowest (either p.faults q.faults)) e low) (λ less. none (onto e less))

-- what is accepted is not refused
accepted : {fault : ℕ → Type 0} → Lowest fault 0 → (k : ℕ) → 0 < k → Lowest fault k → ⊥
accepted {fault} l k h w = omega (arith, lowest_unique fault k 0 w l)

-- the list that is handed back, by the choice r
module _ {fault : ℕ → Type 0} {B : Type 0} {first second : Bor (List ℕ)} where
  pub hands_start : {r : ℕ} {h : Bor (List ℕ)} → Chooses fault B r → r ≡ 0 → h.now ≡ take 0 first.now → h.ref_ptr ≡ first.ref_ptr
      → HandsBack fault B first second h
  hands_start (Chooses.refused k p l) e w v = record {
    better = λ z _. absurd (omega (arith, lowest_unique fault k 0 l z));
    otherwise = λ z _. absurd (omega (arith, lowest_unique fault k 0 l z));
    refused = λ _ _ _. w;
    start = λ _ _ _. v;
  }
  hands_start (Chooses.first l none) e w v = absurd (omega arith)
  hands_start (Chooses.second l less) e w v = absurd (omega arith)

  pub hands_second : {r : ℕ} → Chooses fault B r → r ≡ 2 → HandsBack fault B first second second
  hands_second (Chooses.refused k p l) e = absurd (omega arith)
  hands_second (Chooses.first l none) e = absurd (omega arith)
  hands_second (Chooses.second l less) e = record {
    better = λ _ _. refl;
    otherwise = λ _ none. absurd (none less);
    refused = λ k h w. absurd (accepted l k h w);
    start = λ k h w. absurd (accepted l k h w);
  }

  pub hands_first : {r : ℕ} → Chooses fault B r → (r ≡ 0 → ⊥) → (r ≡ 2 → ⊥) → HandsBack fault B first second first
  hands_first (Chooses.refused k p l) e w = absurd (e refl)
  hands_first (Chooses.first l none) e w = record {
    better = λ _ less. absurd (none less);
    otherwise = λ _ _. refl;
    refused = λ k h w. absurd (accepted l k h w);
    start = λ k h w. absurd (accepted l k h w);
  }
  hands_first (Chooses.second l less) e w = absurd (w refl)
