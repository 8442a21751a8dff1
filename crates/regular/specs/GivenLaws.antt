-- One given plan standing for another: what a call answers of the one holds of the other. And the plan of a record.
use Rattle.std.specs.Prelude.{ℕ, ◌-◌, ◌≤◌, ◌≡◌, List}
use Rattle.std.proofs.Common.{sym, ap, subst, ◌∙◌, inl, inr, ⊎_elim, arith}
use Rattle.std.specs.Int.Bits.{bit_xor, xor_zero_r}
use Rattle.regular.specs.Runs.{Agree}
use Rattle.regular.specs.Columns.{plan_of}
use Rattle.regular.specs.Designs.{Holds}
use Rattle.regular.specs.declared.Design.{Design}
use Rattle.regular.specs.Refusals.{either, Lowest}
use Rattle.regular.specs.RefusalLaws.{lowest_none, none_lowest}
use Rattle.regular.specs.Given.{Given, of_design}

-- each fault of F has one of H that is no higher
abbrev pub Covered : (ℕ → Type 0) → (ℕ → Type 0) → Type 0
Covered F H = (k : ℕ) → F k → (j : ℕ) × ((j ≤ k) × H j)

-- the same lowest fault
pub record SameLowest (F H : ℕ → Type 0) : Type 0 where
  pub into : Covered F H
  pub onto : Covered H F

covered_refl : (F : ℕ → Type 0) → Covered F F
covered_refl F k f = (k, (omega arith, f))

covered_either : (F H A B : ℕ → Type 0) → Covered F A → Covered H B → Covered (either F H) (either A B)
covered_either F H A B f h k e =
    ⊎_elim (λ x. let r = f k x in (r.0, (r.1.0, inl r.1.1))) (λ x. let r = h k x in (r.0, (r.1.0, inr r.1.1))) e

pub same_lowest_refl : (F : ℕ → Type 0) → SameLowest F F
same_lowest_refl F = record { into = covered_refl F; onto = covered_refl F }

pub same_lowest_either : (F H A B : ℕ → Type 0) → SameLowest F A → SameLowest H B → SameLowest (either F H) (either A B)
same_lowest_either F H A B f h = record { into = covered_either F H A B f.into h.into; onto = covered_either A B F H f.onto h.onto }

pub lowest_moved : (F H : ℕ → Type 0) (r : ℕ) → SameLowest F H → Lowest F r → Lowest H r
lowest_moved F H r s l = record {
  applies = λ p.
      let a = s.into r (l.applies p) in
      let b = s.onto a.0 a.1.1 in
      let c = l.least b.0 b.1.1 in
      let e : a.0 ≡ r = omega (arith, a.1.0, b.1.0, c.1) in
      subst H e a.1.1;
  least = λ k h.
      let b = s.onto k h in
      let c = l.least b.0 b.1.1 in
      (c.0, omega (arith, c.1, b.1.0));
}

-- faults with one lowest number
pub lowest_same_lowest : (F H : ℕ → Type 0) (x : ℕ) → Lowest F x → Lowest H x → SameLowest F H
lowest_same_lowest F H x f h = record {
  into = λ k e. let l = f.least k e in (x, (l.1, h.applies l.0));
  onto = λ k e. let l = h.least k e in (x, (l.1, f.applies l.0));
}

-- the plan p stands for the plan q: the same lowest fault and, where there is none, the same runs and start
pub record StandsFor (p q : Given) : Type 0 where
  pub faults : SameLowest p.faults q.faults
  pub plan : Lowest p.faults 0 → Agree p.plan q.plan
  pub start : Lowest p.faults 0 → (x : ℕ) → q.start x → p.start x

-- nothing is at fault in two arguments: nothing in either
pub lowest_left : (F H : ℕ → Type 0) → Lowest (either F H) 0 → Lowest F 0
lowest_left F H l = lowest_none F (λ k f. none_lowest (either F H) l k (inl f))

pub lowest_right : (F H : ℕ → Type 0) → Lowest (either F H) 0 → Lowest H 0
lowest_right F H l = lowest_none H (λ k f. none_lowest (either F H) l k (inr f))

-- the plan of a record that holds columns is theirs
pub holds_plan : {Wanted : List ℕ → Type 0} (n g : ℕ) (d : Design) → Holds n (n - g) Wanted d → Agree (of_design n g d).plan (plan_of n (n - g) d.columns)
holds_plan n g d h =
    let t = plan_of n (n - g) d.columns in
    let e : (x : ℕ) → bit_xor x d.mask ≡ x = λ x. ap (bit_xor x) h.unswitched ∙ xor_zero_r x in
    record { into = λ x p. subst t (e x) p; onto = λ x p. subst t (sym (e x)) p }
