-- Each way through the admission of words and signs ends in its answer.
use Rattle.std.specs.Prelude.{ℕ, ◌-◌, ◌^◌, ◌≤◌, ◌<◌, ◌≡◌, refl, List, length, get_or, true, Result, Ok, Err}
use Rattle.std.proofs.Common.{sym, subst, arith}
use Rattle.regular.specs.Sizes.{Size}
use Rattle.regular.specs.Runs.{Runs}
use Rattle.regular.specs.Words.{Generated, Independent, Fraction}
use Rattle.regular.specs.Columns.{Below, Allowed}
use Rattle.regular.specs.Given.{of_words}
use Rattle.regular.specs.Refusals.{WordsFault, SignFault, either, Lowest}
use Rattle.regular.specs.RefusalLaws.{words_faults_most, number_positive}
use Rattle.regular.specs.Answers.{number, admitted_of}
use Rattle.regular.specs.declared.Refusal.{Refusal}
use Rattle.regular.specs.declared.Refusal.TheVariants as refusals
use Rattle.regular.specs.declared.AcceptedPlan.{AcceptedPlan}
use Rattle.standard.specs.Finding.{StandardFound}
use Rattle.standard.specs.Form.{StandardFor, DistinctNonzero, Repeat}
use Rattle.standard.specs.Units.{standard_below, below_128}
use Rattle.signs.specs.FractionLaws.{fraction_standard}
use Rattle.signs.specs.MaskLaws.{mask_one}
use Rattle.signs.specs.SignLetter.{Solvable}
use Rattle.words.specs.Short.{distinct_long, repeat_short}
use Rattle.admission.specs.Admission.{Admission}
use Rattle.admission.specs.Admitting.{accepted, plan_refused}
use Rattle.admission.specs.Faults.{words_0, words_4, words_5, words_6, words_7, signed_first, signed_5, signed_fits}

module _ (n g : ℕ) (ws : List ℕ) (signs : ℕ) (z : Size n g) where
  abbrev Answers : Result AcceptedPlan Refusal → Type 0
  Answers r = Admission n g (of_words n g ws signs) (admitted_of r)

  abbrev fault : ℕ → Type 0
  fault = either (WordsFault n g ws) (SignFault g signs)

  abbrev plan : Runs
  plan = Fraction n g ws signs

  abbrev start : ℕ → Type 0
  start x = plan x × Allowed n plan x

  refused : (e : Refusal) → Lowest fault (number e) → Answers (Err e)
  refused e l = plan_refused n g fault plan start (words_faults_most n g ws signs) (number e) (number_positive e) z l (admitted_of (Err e)) refl

  pub count_refused : (length ws ≡ g → ⊥) → Answers (Err refusals.Count)
  count_refused h = refused refusals.Count (signed_first n g ws signs 4 (omega arith) (omega arith) (words_4 n g ws h))

  module _ (count : length ws ≡ g) where
    pub word_refused : (i : ℕ) → i < length ws → 2 ^ n ≤ get_or ws i 0 → Answers (Err refusals.Range)
    word_refused i l h = refused refusals.Range (signed_first n g ws signs 5 (omega arith) (omega arith) (words_5 n g ws count i l h))

    pub signs_refused : 2 ^ g ≤ signs → Answers (Err refusals.Range)
    signs_refused h = refused refusals.Range (signed_5 n g ws signs count h)

    module _ (end : ℕ) (power : end ≡ 2 ^ n) (below : (i : ℕ) → i < length ws → get_or ws i 0 < end) where
      low : (i : ℕ) → i < length ws → get_or ws i 0 < 2 ^ n
      low i h = subst (λ (k : ℕ). get_or ws i 0 < k) power (below i h)

      pub rank_refused : signs < 2 ^ g → (Independent (length ws) ws → ⊥) → Answers (Err refusals.Rank)
      rank_refused l h =
          refused refusals.Rank
          (signed_fits n g ws signs 6 l (words_6 n g ws count low (λ i. h (subst (λ (k : ℕ). Independent k ws) (sym count) i))))

      -- with the columns a
      module _ (a : List ℕ) (found : StandardFound n (n - length ws) (Independent (length ws) ws) (Generated n (length ws) ws) true a) where
        own : StandardFound n (n - g) (Independent g ws) (Generated n g ws) true a
        own = subst (λ (k : ℕ). StandardFound n (n - k) (Independent k ws) (Generated n k ws) true a) count found

        standard : StandardFor n (n - g) (Generated n g ws) a
        standard = own.standard refl

        pub words_below : Below n 7 a
        words_below = below_128 n (n - g) a z.few (standard_below n (n - g) a standard.form)

        pub short_refused : signs < 2 ^ g → Repeat n a → Answers (Err refusals.ShortWord)
        short_refused l h =
            refused refusals.ShortWord
            (signed_fits n g ws signs 7 l (words_7 n g ws count low (own.possible refl) (repeat_short n (n - g) (Generated n g ws) a standard h)))

        module _ (d : DistinctNonzero n a) where
          solves : Solvable n g ws
          solves = record {
            most = z.most;
            less = z.less;
            basics = omega (arith, z.few);
            within = λ i h. low i (omega (arith, count));
            independent = own.possible refl;
            long = distinct_long n (n - g) (Generated n g ws) a standard d;
          }

          pub solvable : Solvable n (length ws) ws
          solvable = subst (λ (k : ℕ). Solvable n k ws) (sym count) solves

          pub words_taken : signs < 2 ^ g → (run : ℕ) → Fraction n (length ws) ws signs run × Allowed n (Fraction n (length ws) ws signs) run
              → Answers (Ok (record { run = run; columns = a }))
          words_taken l run found_run =
              let is : start run = subst (λ (k : ℕ). Fraction n k ws signs run × Allowed n (Fraction n k ws signs) run) count found_run in
              let st = fraction_standard n g ws signs run a is.0 standard in
              accepted n g fault plan start (words_faults_most n g ws signs) run a z
              (signed_fits n g ws signs 0 l (words_0 n g ws count low solves.independent solves.long))
              (λ x h. sym (mask_one n (n - g) plan a run x st is.1 h.0 h.1))
              is is.0.within st d own.unused
