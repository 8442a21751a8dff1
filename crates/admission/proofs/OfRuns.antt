-- Each way through the admission of a run table ends in its answer.
use Rattle.std.specs.Prelude.{ℕ, ◌-◌, ◌^◌, ◌≤◌, ◌<◌, ◌≡◌, refl, List, length, get_or, true, Result, Ok, Err}
use Rattle.std.proofs.Common.{subst, arith}
use Rattle.std.proofs.Math.Pow.{pow_pos}
use Rattle.gf2.specs.Members.{In, different_or_not}
use Rattle.gf2.specs.Places.{place_in}
use Rattle.regular.specs.Sizes.{Size}
use Rattle.regular.specs.Runs.{Runs, Table, runs_of, switched}
use Rattle.regular.specs.Columns.{Below}
use Rattle.regular.specs.Given.{of_runs}
use Rattle.regular.specs.Refusals.{TableFault, Lowest}
use Rattle.regular.specs.RefusalLaws.{runs_faults_most, number_positive}
use Rattle.regular.specs.Answers.{number, admitted_of}
use Rattle.regular.specs.declared.Refusal.{Refusal}
use Rattle.regular.specs.declared.Refusal.TheVariants as refusals
use Rattle.regular.specs.declared.AcceptedPlan.{AcceptedPlan}
use Rattle.standard.specs.Finding.{StandardFound}
use Rattle.standard.specs.Form.{StandardFor, DistinctNonzero, Repeat}
use Rattle.standard.specs.Units.{standard_below, below_128}
use Rattle.words.specs.Switches.{no_short_switched, short_switched}
use Rattle.words.specs.Short.{distinct_long, repeat_short}
use Rattle.admission.specs.Admission.{Admission}
use Rattle.admission.specs.Admitting.{accepted, plan_refused}
use Rattle.admission.specs.Faults.{table_0, table_4, table_5, table_6, table_7}

module _ (n g : ℕ) (t : List ℕ) (z : Size n g) where
  abbrev Answers : Result AcceptedPlan Refusal → Type 0
  Answers r = Admission n g (of_runs n g t) (admitted_of r)

  abbrev m : ℕ
  m = n - g

  abbrev first : ℕ
  first = get_or t 0 0

  abbrev start : ℕ → Type 0
  start x = x ≡ first

  refused : (e : Refusal) → Lowest (TableFault n m t) (number e) → Answers (Err e)
  refused e l =
      plan_refused n g (TableFault n m t) (runs_of t) start (runs_faults_most n g t) (number e) (number_positive e) z l (admitted_of (Err e)) refl

  pub count_refused : (length t ≡ 2 ^ m → ⊥) → Answers (Err refusals.Count)
  count_refused h = refused refusals.Count (table_4 n m t h)

  module _ (count : length t ≡ 2 ^ m) where
    pub run_refused : (x : ℕ) → In x t → 2 ^ n ≤ x → Answers (Err refusals.Range)
    run_refused x i h = refused refusals.Range (table_5 n m t count x i h)

    module _ (end : ℕ) (power : end ≡ 2 ^ n) (below : (x : ℕ) → In x t → x < end) where
      pub low : (x : ℕ) → In x t → x < 2 ^ n
      low x i = subst (λ (k : ℕ). x < k) power (below x i)

      pub table_refused : (Table n m t → ⊥) → Answers (Err refusals.Rank)
      table_refused h = refused refusals.Rank (table_6 n m t count low (different_or_not t) h)

      -- with the columns a
      module _ (a : List ℕ) (found : StandardFound n m (Table n m t) (switched first (runs_of t)) true a) where
        abbrev away : Runs
        away = switched first (runs_of t)

        standard : StandardFor n m away a
        standard = found.standard refl

        pub runs_below : Below n 7 a
        runs_below = below_128 n m a z.few (standard_below n m a standard.form)

        pub short_refused : Repeat n a → Answers (Err refusals.ShortWord)
        short_refused h =
            refused refusals.ShortWord
            (table_7 n m t count low (found.possible refl) (short_switched n first (runs_of t) 3 (repeat_short n m away a standard h)))

        pub runs_taken : DistinctNonzero n a → Answers (Ok (record { run = first; columns = a }))
        runs_taken d =
            accepted n g (TableFault n m t) (runs_of t) start (runs_faults_most n g t) first a z
            (table_0 n m t count low (found.possible refl) (no_short_switched n first (runs_of t) 3 (distinct_long n m away a standard d)))
            (λ x e. e) refl (low first (place_in t 0 (omega (arith, count, pow_pos m)))) standard d found.unused
