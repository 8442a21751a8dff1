-- What is measured of an admitted plan by its standard columns is what the calls promise of the given plan.
use Rattle.std.specs.Prelude.{List, ◌≡◌, refl, ℕ, ◌+◌, ◌-◌, ◌≤◌, ◌<◌, length, get_or, take}
use Rattle.std.proofs.Common.{sym, subst, arith, length-take}
use Rattle.regular.specs.Columns.{plan_of}
use Rattle.regular.specs.Pattern.{Pattern, Resolution, Distances}
use Rattle.regular.specs.Refusals.{LentFault, either, Gives, Fills}
use Rattle.regular.specs.Runs.{Runs, Agree, switched}
use Rattle.regular.specs.Given.{Given}
use Rattle.regular.specs.Measures.{PatternInto, ResolutionOf, ResolutionInto, DistancesInto}
use Rattle.regular.specs.Answers.{Admitted}
use Rattle.words.specs.Switches.{agree_sym, pattern_agree, resolution_agree, distances_agree, switched_twice}
use Rattle.words.specs.Switches.{pattern_switched, resolution_switched, distances_switched}
use Rattle.counts.specs.Models.{first_length}
use Rattle.counts.specs.Resolutions.{resolution_of_pattern}
use Rattle.lent.specs.Copied.{Starts}
use Rattle.lent.specs.Lends.{Lends, lends_means, lends_part, lends_fills}
use Rattle.admission.specs.Admission.{Admission}
use Rattle.measures.specs.Ready.{pattern_begins, distances_begins}

-- the resolution k of the plan s with the refusal `number`, 0 if accepted
pub record ResolutionMade (n : ℕ) (s : Runs) (number r k : ℕ) : Type 0 where
  pub same : r ≡ number
  pub refused : 0 < number → k ≡ 0
  pub made : number ≡ 0 → Resolution n s k

-- of an accepted plan
pub resolution_accepted : {n : ℕ} {s : Runs} {k : ℕ} → Resolution n s k → ResolutionMade n s 0 0 k
resolution_accepted h = record { same = refl; refused = λ l. absurd (omega arith); made = λ _. h }

-- by the pattern
pub resolution_made : {n : ℕ} {s : Runs} {p : List ℕ} {number k : ℕ} → number ≡ 0 → Pattern n s p → k ≡ first_length n p → ResolutionMade n s number number k
resolution_made {n} {s} {p} {number} {k} e c h = record {
  same = refl;
  refused = λ l. absurd (omega arith);
  made = λ _. subst (Resolution n s) (sym h) (resolution_of_pattern n s p c);
}

-- the first k places of a list p went into a lent list
lends_start : (number k : ℕ) (Result : List ℕ → Type 0) (p ys zs : List ℕ) (r : ℕ) → number ≡ 0 → k ≤ length p
    → (((i : ℕ) → i < k → get_or zs i 0 ≡ get_or p i 0) → Result zs) → Lends 0 (length (take k p)) (Starts (take k p)) ys zs r → Lends number k Result ys zs r
lends_start number k Result p ys zs r e h means l =
    let size : k ≡ length (take k p) = omega (arith, length-take k p) in
    subst (λ (i : ℕ). Lends i k Result ys zs r) (sym e)
    (lends_means 0 k (λ zs. (i : ℕ) → i < k → get_or zs i 0 ≡ get_or p i 0) Result ys zs r (λ _. means) (lends_part k p ys zs r size l))

-- the pattern in the first n places of p
pub pattern_lends : {number n : ℕ} {s : Runs} {p ys zs : List ℕ} {r : ℕ} → number ≡ 0 → n ≤ length p → Pattern n s p
    → Lends 0 (length (take n p)) (Starts (take n p)) ys zs r → Lends number n (Pattern n s) ys zs r
pattern_lends {number} {n} {s} {p} {ys} {zs} {r} e h c = lends_start number n (Pattern n s) p ys zs r e h (λ same. pattern_begins n s p zs same c)

-- the distance counts in the first n + 1 places of d
pub distances_lends : {number n : ℕ} {s : Runs} {d ys zs : List ℕ} {r : ℕ} → number ≡ 0 → n + 1 ≤ length d → Distances n s 0 d
    → Lends 0 (length (take (n + 1) d)) (Starts (take (n + 1) d)) ys zs r → Lends number (n + 1) (Distances n s 0) ys zs r
distances_lends {number} {n} {s} {d} {ys} {zs} {r} e h c =
    lends_start number (n + 1) (Distances n s 0) d ys zs r e h (λ same. distances_begins n s 0 d zs same c)

-- a plan and the same switched have one pattern
pub pattern_back : (n mask : ℕ) (s : Runs) (p : List ℕ) → Pattern n s p → Pattern n (switched mask s) p
pattern_back n mask s p h =
    let t = switched mask s in
    pattern_switched n mask t p (pattern_agree n s (switched mask t) (agree_sym (switched mask t) s (switched_twice mask s)) p h)

-- a given plan, admitted with its start and the standard columns of the plan switched by it: switching keeps the words, and moves the start
module _ {n g : ℕ} {p : Given} {a : Admitted} (ad : Admission n g p a) where
  abbrev columns : Runs
  columns = plan_of n (n - g) a.columns

  agree : a.number ≡ 0 → Agree columns (switched a.run p.plan)
  agree e = agree_sym (switched a.run p.plan) columns (ad.standard e).plan

  pub pattern_given : a.number ≡ 0 → (c : List ℕ) → Pattern n (plan_of n (n - g) a.columns) c → Pattern n p.plan c
  pattern_given e c h = pattern_switched n a.run p.plan c (pattern_agree n columns (switched a.run p.plan) (agree e) c h)

  pub pattern_columns : a.number ≡ 0 → (c : List ℕ) → Pattern n p.plan c → Pattern n (plan_of n (n - g) a.columns) c
  pattern_columns e c h = pattern_agree n (switched a.run p.plan) columns (ad.standard e).plan c (pattern_back n a.run p.plan c h)

  distances_given : a.number ≡ 0 → (c : List ℕ) → Distances n columns 0 c → (x : ℕ) → p.start x → Distances n p.plan x c
  distances_given e c h x from =
      subst (λ (v : ℕ). Distances n p.plan v c) (sym (ad.start e x from))
      (distances_switched n a.run p.plan c (distances_agree n columns (switched a.run p.plan) (agree e) 0 c h))

  resolution_given : a.number ≡ 0 → (k : ℕ) → Resolution n columns k → Resolution n p.plan k
  resolution_given e k h = resolution_switched n a.run p.plan k (resolution_agree n columns (switched a.run p.plan) (agree e) k h)

  -- in a lent list
  fills : (k : ℕ) (Result Wanted : List ℕ → Type 0) {ys zs : List ℕ} {r : ℕ} → (a.number ≡ 0 → Result zs → Wanted zs) → Lends a.number k Result ys zs r
      → Fills (either p.faults (LentFault k ys)) k Wanted ys zs r
  fills k Result Wanted {ys} {zs} {r} means l =
      lends_fills p.faults a.number k Wanted ys zs r ad.most ad.lowest (lends_means a.number k Result Wanted ys zs r means l)

  pub pattern_fills : {ys zs : List ℕ} {r : ℕ} → Lends a.number n (Pattern n (plan_of n (n - g) a.columns)) ys zs r → PatternInto n p ys zs r
  pattern_fills {ys} {zs} {r} l = fills n (Pattern n columns) (Pattern n p.plan) (λ e. pattern_given e zs) l

  pub resolution_gives : {r k : ℕ} → ResolutionMade n (plan_of n (n - g) a.columns) a.number r k → ResolutionOf n p r k
  resolution_gives {r} {k} h =
      subst (λ (i : ℕ). Gives p.faults (Resolution n p.plan) 0 i k) (sym h.same)
      (record { number = ad.lowest; refused = h.refused; result = λ e. resolution_given e k (h.made e) })

  pub distances_fills : {ys zs : List ℕ} {r : ℕ} → Lends a.number (n + 1) (Distances n (plan_of n (n - g) a.columns) 0) ys zs r
      → DistancesInto n p ys zs r
  distances_fills {ys} {zs} {r} l =
      fills (n + 1) (Distances n columns 0) (λ zs. (x : ℕ) → p.start x → Distances n p.plan x zs) (λ e. distances_given e zs) l

  -- the resolution by value, as the one place of a lent list
  pub resolution_fills : {i k : ℕ} {ys zs : List ℕ} {r : ℕ} → ResolutionMade n (plan_of n (n - g) a.columns) a.number i k
      → Lends i 1 (λ zs. get_or zs 0 0 ≡ k) ys zs r → ResolutionInto n p ys zs r
  resolution_fills {i} {k} {ys} {zs} {r} h l =
      fills 1 (λ zs. get_or zs 0 0 ≡ k) (λ zs. Resolution n p.plan (get_or zs 0 0))
      (λ e w. subst (Resolution n p.plan) (sym w) (resolution_given e k (h.made e)))
      (subst (λ (x : ℕ). Lends x 1 (λ zs. get_or zs 0 0 ≡ k) ys zs r) h.same l)
