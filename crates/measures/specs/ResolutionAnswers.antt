-- What the resolution of an accepted plan says, in whichever form it is given (document 02, request 2): N + 1 that it is a full factorial, at most N
-- that it has words. A call that is accepted answers no 0.
use Rattle.std.specs.Prelude.{List, ◌≡◌, ℕ, ◌+◌, ◌-◌, ◌^◌, ◌≤◌, ◌<◌, get_or}
use Rattle.std.proofs.Common.{subst, arith}
use Rattle.gf2.specs.Counts.{Count}
use Rattle.regular.specs.Given.{Given}
use Rattle.regular.specs.Measures.{ResolutionOf, ResolutionInto}
use Rattle.regular.specs.Pattern.{Resolution}
use Rattle.regular.specs.RefusalLaws.{lowest_unique}
use Rattle.regular.specs.Refusals.{Lowest}
use Rattle.regular.specs.Words.{Word}
use Rattle.regular.specs.Answers.{Admitted}
use Rattle.counts.specs.FullFactorials.{resolution_some, full_resolution, fraction_resolution}
use Rattle.counts.specs.PlanCounts.{switched_words}
use Rattle.counts.specs.Resolutions.{resolution_unique}
use Rattle.admission.specs.Admission.{Admission}

-- by value, and in a lent place
pub answers_some : (n : ℕ) (p : Given) {r k : ℕ} → ResolutionOf n p r k → r ≡ 0 → 1 ≤ k
answers_some n p {r} {k} h e = resolution_some n p.plan k (h.result e)

pub place_some : (n : ℕ) (p : Given) {ys zs : List ℕ} {r : ℕ} → ResolutionInto n p ys zs r → r ≡ 0 → 1 ≤ get_or zs 0 0
place_some n p {ys} {zs} h e = resolution_some n p.plan (get_or zs 0 0) (h.result e)

-- a plan without faults, and so with standard columns
module _ {n g k : ℕ} {p : Given} {a : Admitted} (ad : Admission n g p a) (none : Lowest p.faults 0) (h : Resolution n p.plan k) where
  words : Count (Word n p.plan) (2 ^ g - 1)
  words =
      let accepted : a.number ≡ 0 = lowest_unique p.faults a.number 0 ad.lowest none in
      let z = ad.size accepted in
      let left : n - (n - g) ≡ g = omega (arith, z.less) in
      subst (λ (i : ℕ). Count (Word n p.plan) (2 ^ i - 1)) left
      (switched_words n (n - g) a.run p.plan a.columns (ad.standard accepted))

  pub accepted_full : g ≡ 0 → k ≡ n + 1
  accepted_full e = resolution_unique n p.plan k (n + 1) h (full_resolution n g p.plan words e)

  pub accepted_fraction : 0 < g → k ≤ n
  accepted_fraction some = fraction_resolution n g p.plan words some k h
