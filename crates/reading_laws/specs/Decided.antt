-- What the checks of an entry ask can be decided: dictionary order, entries, and the pattern of columns.
use Rattle.std.specs.Prelude.{ℕ, zero, suc, ◌-◌, ◌≡◌, refl, ◌⊎◌, length, get_or, take, drop}
use Rattle.std.proofs.Common.{subst, ◌∙◌, inl, inr, ⊎_elim, arith}
use Rattle.std.proofs.Math.Logic.{by_cases}
use mathlib.Core.List.{List, [], List-discrete}
use Rattle.std.proofs.Math.Decide.{ℕ_discrete, map_dec}
use Rattle.gf2.specs.Lists.{upto, upto_lt, upto_in, some_or_all}
use Rattle.regular.specs.Columns.{plan_of, Spans}
use Rattle.regular.specs.Pattern.{Pattern}
use Rattle.regular.specs.Runs.{runs_of}
use Rattle.regular.specs.Smallest.{Before, Entry, Equal}
use Rattle.regular.specs.Book.{pattern_length, pattern_record}
use Rattle.regular.specs.Reading.{columns_in, pattern_place, EntryRises, TrueColumns, TruePattern}
use Rattle.standard.specs.FromColumns.{spans_apart, runs_table}
use Rattle.standard.specs.Model.{run_table}
use Rattle.words.specs.Switches.{pattern_agree, agree_sym}
use Rattle.counts.specs.PlanCounts.{table_pattern}
use Rattle.smallest_laws.specs.Dictionary.{equal_sym, before_total, before_irrefl, not_both}
use Rattle.smallest_laws.specs.Growth.{entry_equal}
use Rattle.catalogue_laws.specs.Listing.{model_catalogue}
use Rattle.catalogue_laws.specs.Model.{entries}
use Rattle.catalogue_laws.specs.Demand.{plan_runs}
use Rattle.book.specs.EntryLaws.{pattern_same}

before_or_not : (n : ℕ) (c d : List ℕ) → Dec (Before n c d)
before_or_not n c d =
    ⊎_elim (λ e. no (before_irrefl n c d e)) (⊎_elim (λ b. yes b) (λ b. no (λ a. not_both n c d (inr a) b))) (before_total n c d)

equal_or_not : (n : ℕ) (c d : List ℕ) → Equal n c d ⊎ (Equal n c d → ⊥)
equal_or_not n c d =
    ⊎_elim (λ e. inl e) (λ o. inr (λ e. ⊎_elim (before_irrefl n c d e) (before_irrefl n d c (equal_sym n c d e)) o)) (before_total n c d)

-- an entry is one of the catalogue's
entry_or_not : (n m r : ℕ) (c : List ℕ) → Dec (Entry n m r c)
entry_or_not n m r c =
    let k = model_catalogue n m r in
    let count = length (entries n m r) in
    let entry : ℕ → List ℕ = λ i. get_or (entries n m r) i [] in
    ⊎_elim (λ p. yes (entry_equal n m (entry p.0) c p.1.1 r (k.sound p.0 (upto_lt count p.0 p.1.0))))
    (λ none. no (λ e. let p = k.complete c e in none p.0 (upto_in count p.0 p.1.0) p.1.1))
    (some_or_all (λ i. Equal n (entry i) c) (λ i. Equal n (entry i) c → ⊥) (upto count) (λ i. equal_or_not n (entry i) c))

-- columns of full rank have a pattern
pattern_some : (n m : ℕ) (c : List ℕ) → Spans n m c → (p : List ℕ) × Pattern n (plan_of n m c) p
pattern_some n m c sp =
    let t = run_table n m c in
    let p = table_pattern n m t (runs_table n m c (spans_apart n m c sp)) in
    (p.0, pattern_agree n (runs_of t) (plan_of n m c) (agree_sym (plan_of n m c) (runs_of t) (plan_runs n m c)) p.0 p.1)

-- what is asked of entry i
module _ (n g r : ℕ) (book : List ℕ) where
  rises_or_not : (i : ℕ) → Dec (EntryRises n book i)
  rises_or_not zero = yes (λ j e. absurd (omega arith))
  rises_or_not (suc i) =
      let last : List ℕ = columns_in n book (suc i) in
      map_dec (λ b j e. let q : i ≡ j = omega arith in subst (λ (k : ℕ). Before n (columns_in n book k) last) q b) (λ f. f i refl)
      (before_or_not n (columns_in n book i) last)

  pub columns_or_not : (i : ℕ) → Dec (TrueColumns n g r book i)
  columns_or_not i =
      by_cases (entry_or_not n (n - g) r (columns_in n book i))
      (λ e. map_dec (λ f. record { entry = e; rises = f }) (λ x. x.rises) (rises_or_not i)) (λ none. no (λ x. none x.entry))

  pub pattern_or_not : (i : ℕ) → TrueColumns n g r book i → Dec (TruePattern n g book i)
  pattern_or_not i x =
      let c = columns_in n book i in
      let p = pattern_some n (n - g) c x.entry.smallest.columns.rank in
      map_dec (λ e. record { counts = p.0; pattern = p.1; bytes = e })
      (λ y. y.bytes ∙ pattern_same n (plan_of n (n - g) c) y.counts p.0 y.pattern p.1)
      (List-discrete ℕ_discrete (take (pattern_length n) (drop (pattern_place n i) book)) (pattern_record n p.0))
