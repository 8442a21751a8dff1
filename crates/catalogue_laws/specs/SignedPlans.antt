-- Demand 3 for plans with switches: from the plan of a record, and from words with any signs, exactly one entry of the catalogue can be reached.
use Rattle.std.specs.Prelude.{◌≡◌, List, ℕ, ◌-◌, ◌^◌, ◌≤◌, ◌<◌, get_or}
use Rattle.std.proofs.Common.{sym, ap, subst, ◌∙◌, arith}
use Rattle.std.specs.Int.Bits.{bit_xor}
use Rattle.std.proofs.lemmas.Nat.{xor_lt}
use Rattle.gf2.specs.DigitLaws.{xor_back}
use Rattle.regular.specs.Columns.{plan_of, plan_with, Spans}
use Rattle.regular.specs.Runs.{Runs, Agree, runs_of, switched}
use Rattle.regular.specs.Same.{sent, Same, Within}
use Rattle.regular.specs.Sizes.{Sized}
use Rattle.regular.specs.Smallest.{Catalogue, ReachesOne}
use Rattle.regular.specs.Words.{NoShort, Independent, Fraction}
use Rattle.standard.specs.FromColumns.{spans_apart, runs_table}
use Rattle.standard.specs.Model.{run_table}
use Rattle.standard.specs.Units.{standard_spans}
use Rattle.words.proofs.FromWords.{words_standard}
use Rattle.words.specs.Model.{word_columns, pivots_at}
use Rattle.words.specs.Switches.{agree_sym, agree_trans, agree_refl, switched_twice, no_short_agree, no_short_switched}
use Rattle.isomorphism_laws.specs.Masks.{plan_within}
use Rattle.isomorphism_laws.specs.SamePlan.{same_refl, same_sym, same_trans, same_agree}
use Rattle.isomorphism_laws.specs.Renamings.{kept, kept_renaming, moved_kept}
use Rattle.signs.specs.FractionLaws.{fraction_run, fraction_standard}
use Rattle.signs.specs.SignLaws.{switched_agree}
use Rattle.catalogue_laws.specs.Demand.{demand_3, plan_runs}

-- a plan reaches what a plan that it reaches does
reaches_same : (n m count : ℕ) (entry : ℕ → List ℕ) (s t : Runs) → Within n s → Same n s t → ReachesOne n m count entry t → ReachesOne n m count entry s
reaches_same n m count entry s t w p o = record {
  place = o.place;
  within = o.within;
  reached = same_trans n s t (plan_of n m (entry o.place)) p o.reached;
  only = λ j l q. o.only j l (same_trans n t s (plan_of n m (entry j)) (same_sym n s t w p) q);
}

reaches_agree : (n m count : ℕ) (entry : ℕ → List ℕ) (s t : Runs) → Agree s t → ReachesOne n m count entry s → ReachesOne n m count entry t
reaches_agree n m count entry s t a o = record {
  place = o.place;
  within = o.within;
  reached = let p = plan_of n m (entry o.place) in same_agree n s t p p a (agree_refl p) o.reached;
  only = λ j l q. let p = plan_of n m (entry j) in o.only j l (same_agree n t s p p (agree_sym s t a) (agree_refl p) q);
}

-- a plan and a plan with levels switched
module _ (n mask : ℕ) (s : Runs) (low : Within n s) (l : mask < 2 ^ n) where
  switched_within : Within n (switched mask s)
  switched_within x h = subst (λ (y : ℕ). y < 2 ^ n) (xor_back x mask) (xor_lt n (bit_xor x mask) mask (low (bit_xor x mask) h) l)

  sent_back : (x : ℕ) → x < 2 ^ n → sent n (kept n) mask x ≡ bit_xor x mask
  sent_back x h = ap (λ (y : ℕ). bit_xor y mask) (moved_kept n x h)

  same_switched : Same n (switched mask s) s
  same_switched = record {
    names = kept n;
    mask = mask;
    carries = record {
      renaming = kept_renaming n;
      within = l;
      into = λ x h. subst s (sym (sent_back x (switched_within x h))) h;
      onto = λ y h. (
        bit_xor y mask,
        (subst s (sym (xor_back y mask)) h, sym (sent_back (bit_xor y mask) (xor_lt n y mask (low y h) l) ∙ xor_back y mask)),
      );
    };
  }

module _ (n m r count : ℕ) (entry : ℕ → List ℕ) (k : Catalogue n m r count entry) (low : 3 ≤ r) (c : List ℕ) (rank : Spans n m c) where
  columns_reach_one : NoShort n r (plan_of n m c) → ReachesOne n m count entry (plan_of n m c)
  columns_reach_one long =
      let s = plan_of n m c in
      let t = run_table n m c in
      reaches_same n m count entry s (runs_of t) (plan_within n m c)
      (same_agree n s s s (runs_of t) (agree_refl s) (plan_runs n m c) (same_refl n s (plan_within n m c)))
      (demand_3 n m r count entry k low t (runs_table n m c (spans_apart n m c rank)) (no_short_agree n s (runs_of t) (plan_runs n m c) r long))

  -- the plan of a record
  pub record_reaches_one : (mask : ℕ) → mask < 2 ^ n → NoShort n r (plan_with n m c mask) → ReachesOne n m count entry (plan_with n m c mask)
  record_reaches_one mask l long =
      let s = plan_of n m c in
      let low = plan_within n m c in
      reaches_same n m count entry (switched mask s) s (switched_within n mask s low l) (same_switched n mask s low l)
      (columns_reach_one (no_short_switched n mask s r long))

-- words with any signs
pub signed_reaches_one : (n g r count : ℕ) (entry : ℕ → List ℕ) → Catalogue n (n - g) r count entry → Sized n g r → (ws : List ℕ) (signs : ℕ)
    → ((i : ℕ) → i < g → get_or ws i 0 < 2 ^ n) → Independent g ws → NoShort n r (Fraction n g ws signs)
    → ReachesOne n (n - g) count entry (Fraction n g ws signs)
signed_reaches_one n g r count entry k z ws signs hw ind long =
    let m = n - g in
    let most = z.size.most in
    let few : g ≤ n = omega (arith, z.size.less) in
    let s = Fraction n g ws signs in
    let q = fraction_run n g ws most few hw ind signs in
    let x = q.0 in
    let c = word_columns (pivots_at ws n g) n in
    let st = fraction_standard n g ws signs x c q.1 (words_standard n g ws most few hw ind) in
    let t = plan_with n m c x in
    let same : Agree t s =
    agree_trans t (switched x (switched x s)) s
    (switched_agree x (plan_of n m c) (switched x s) (agree_sym (switched x s) (plan_of n m c) st.plan)) (switched_twice x s) in
    reaches_agree n m count entry t s same
    (record_reaches_one n m r count entry k z.low c (standard_spans n m c st.form) x q.1.within
    (no_short_agree n s t (agree_sym t s same) r long))
