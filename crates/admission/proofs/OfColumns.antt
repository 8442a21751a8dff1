-- Each way through the admission of columns, of a design record, of the bytes of a plan and of a list of columns ends in its answer.
use Rattle.std.specs.Prelude.{ℕ, ◌-◌, ◌^◌, ◌≤◌, ◌<◌, ◌≡◌, refl, ◌⊎◌, List, length, get_or, true, Result, Ok, Err}
use Rattle.std.proofs.Common.{subst, ap, ◌∙◌, ⊎_elim, arith}
use Rattle.gf2.specs.DigitLaws.{pow_most}
use Rattle.plan_layout.specs.Places.{plan_only}
use Rattle.regular.specs.Sizes.{Size}
use Rattle.regular.specs.Runs.{Runs}
use Rattle.regular.specs.Columns.{Below, Spans, Allowed, plan_of, plan_with}
use Rattle.regular.specs.PlanBytes.{plan_bytes, plan_at, mask_in}
use Rattle.regular.specs.Given.{of_design, of_columns, of_bare}
use Rattle.regular.specs.Refusals.{SizeFault, RecordFault, ListFault, ColumnsFault, either, masked_faults, Lowest}
use Rattle.regular.specs.RefusalLaws.{design_faults_most, columns_faults_most, bare_faults_most, lowest_first, number_positive}
use Rattle.regular.specs.RefusalLaws.{columns_least, record_least, list_is}
use Rattle.regular.specs.Smallest.{Equal}
use Rattle.regular.specs.Answers.{number, admitted_of}
use Rattle.regular.specs.declared.Design.{Design}
use Rattle.regular.specs.declared.Refusal.{Refusal}
use Rattle.regular.specs.declared.Refusal.TheVariants as refusals
use Rattle.regular.specs.declared.AcceptedPlan.{AcceptedPlan}
use Rattle.standard.specs.Finding.{StandardFound}
use Rattle.standard.specs.Form.{StandardFor, DistinctNonzero, Repeat}
use Rattle.standard.specs.Units.{standard_below}
use Rattle.signs.specs.MaskLaws.{allowed_within}
use Rattle.words.specs.Short.{distinct_long, repeat_short}
use Rattle.admission.specs.Admission.{Admission, Columned}
use Rattle.admission.specs.Admitting.{array_refused, array_admission, bare_admission, plan_refused, size_refused}
use Rattle.admission.specs.Faults.{columns_0, columns_6, columns_7, masked_above, masked_barred, masked_fits, masked_least}
use Rattle.admission.specs.Faults.{record_0, record_4, record_5, list_0, list_4}

-- columns and a mask of sizes in bounds
module _ (n m : ℕ) (c : List ℕ) (mask : ℕ) where
  abbrev Answers : Result AcceptedPlan Refusal → Type 0
  Answers r = Columned n m c mask (admitted_of r)

  abbrev plan : Runs
  plan = plan_of n m c

  refused : (e : Refusal) → Lowest (masked_faults n m c mask) (number e) → Answers (Err e)
  refused e l = array_refused n m c mask (number e) (admitted_of (Err e)) refl (number_positive e) l

  module _ (end : ℕ) (power : end ≡ 2 ^ m) where
    pub column_refused : (f : ℕ) → f < n → end ≤ get_or c f 0 → Answers (Err refusals.Range)
    column_refused f l h = refused refusals.Range (masked_above n m c mask f l (omega arith))

    pub mask_refused : (Allowed n plan mask → ⊥) → Answers (Err refusals.Range)
    mask_refused h = refused refusals.Range (masked_barred n m c mask h)

    module _ (below : (f : ℕ) → f < n → get_or c f 0 < end) (allowed : Allowed n plan mask) where
      low : Below n m c
      low f h = subst (λ (k : ℕ). get_or c f 0 < k) power (below f h)

      pub rank_refused : (Spans n m c → ⊥) → Answers (Err refusals.Rank)
      rank_refused h = refused refusals.Rank (masked_fits n m c mask 6 allowed (columns_6 n m c low h))

      -- with the standard columns a
      module _ (a : List ℕ) (found : StandardFound n m (Spans n m c) plan true a) where
        standard : StandardFor n m plan a
        standard = found.standard refl

        pub standard_low : m ≤ 7 → Below n 7 a
        standard_low h f l = omega (arith, standard_below n m a standard.form f l, pow_most m h)

        pub short_refused : Repeat n a → Answers (Err refusals.ShortWord)
        short_refused h =
            refused refusals.ShortWord
            (masked_fits n m c mask 7 allowed (columns_7 n m c low (found.possible refl) (repeat_short n m plan a standard h)))

        pub columns_taken : mask < 2 ^ 16 → DistinctNonzero n a → Answers (Ok (record { run = mask; columns = a }))
        columns_taken most d = record {
          lowest = masked_fits n m c mask 0 allowed (columns_0 n m c low (found.possible refl) (distinct_long n m plan a standard d));
          refused = λ h. absurd (omega arith);
          start = λ _. refl;
          within = λ _. allowed_within n plan mask most allowed;
          standard = λ _. standard;
          distinct = λ _. d;
          unused = λ _. found.unused;
        }

-- a refusal of the sizes is passed on
sizes_refused : (n g : ℕ) (plan : ℕ → Type 0) (s : Runs) (start : ℕ → Type 0) → ((k : ℕ) → either (SizeFault n g) plan k → k ≤ 7)
    → ((i : ℕ) → plan i → 4 ≤ i) → (e : Refusal) (r : Result AcceptedPlan Refusal) → r ≡ Err e → Lowest (SizeFault n g) (number e)
    → Admission n g (record { faults = either (SizeFault n g) plan; plan = s; start = start }) (admitted_of r)
sizes_refused n g plan s start most from e r q l =
    size_refused n g plan s start most (number e) (admitted_of r) (ap admitted_of q) (λ z. omega (arith, number_positive e)) from l

-- a design record
module _ (n g : ℕ) (d : Design) where
  abbrev DesignAnswers : Result AcceptedPlan Refusal → Type 0
  DesignAnswers r = Admission n g (of_design n g d) (admitted_of r)

  abbrev record_fault : ℕ → Type 0
  record_fault = RecordFault n (n - g) d

  abbrev masked_fault : ℕ → Type 0
  masked_fault = masked_faults n (n - g) d.columns d.mask

  abbrev design_plan : Runs
  design_plan = plan_with n (n - g) d.columns d.mask

  abbrev design_start : ℕ → Type 0
  design_start x = x ≡ d.mask

  pub design_sizes : (e : Refusal) (r : Result AcceptedPlan Refusal) → r ≡ Err e → Lowest (SizeFault n g) (number e) → DesignAnswers r
  design_sizes =
      sizes_refused n g (either record_fault masked_fault) design_plan design_start (design_faults_most n g d)
      (λ i. ⊎_elim (record_least n (n - g) d i) (λ f. omega (arith, masked_least n (n - g) d.columns d.mask i f)))

  module _ (z : Size n g) where
    by_record : (e : Refusal) → number e ≤ 5 → Lowest record_fault (number e) → DesignAnswers (Err e)
    by_record e h l =
        plan_refused n g (either record_fault masked_fault) design_plan design_start (design_faults_most n g d) (number e) (number_positive e) z
        (lowest_first record_fault masked_fault (number e) (number_positive e) l
        (λ i f. omega (arith, masked_least n (n - g) d.columns d.mask i f)))
        (admitted_of (Err e)) refl

    pub counts_refused : (d.factors ≡ n → ⊥) ⊎ (d.basics ≡ n - g → ⊥) → DesignAnswers (Err refusals.Count)
    counts_refused h = by_record refusals.Count (omega arith) (record_4 n (n - g) d h)

    module _ (factors : d.factors ≡ n) (basics : d.basics ≡ n - g) where
      pub used_refused : (f : ℕ) → n ≤ f → f < 16 → (get_or d.columns f 0 ≡ 0 → ⊥) → DesignAnswers (Err refusals.Range)
      used_refused f l h some = by_record refusals.Range (omega arith) (record_5 n (n - g) d factors basics f l h some)

      pub design_taken : ((f : ℕ) → n ≤ f → f < 16 → get_or d.columns f 0 ≡ 0) → (r : Result AcceptedPlan Refusal)
          → Columned n (n - g) d.columns d.mask (admitted_of r) → DesignAnswers r
      design_taken unused r k =
          array_admission record_fault n g d.columns d.columns d.mask (admitted_of r) (λ f h. refl) k (design_faults_most n g d) z
          (record_0 n (n - g) d factors basics unused)

-- the bytes of a plan
module _ (n g : ℕ) (c : List ℕ) where
  abbrev BytesAnswers : Result AcceptedPlan Refusal → Type 0
  BytesAnswers r = Admission n g (of_columns n g c) (admitted_of r)

  abbrev count_fault : ℕ → Type 0
  count_fault = ListFault (plan_bytes n) c

  abbrev bytes_fault : ℕ → Type 0
  bytes_fault = masked_faults n (n - g) c (mask_in n c)

  abbrev bytes_plan : Runs
  bytes_plan = plan_with n (n - g) c (mask_in n c)

  abbrev bytes_start : ℕ → Type 0
  bytes_start x = x ≡ mask_in n c

  pub bytes_sizes : (e : Refusal) (r : Result AcceptedPlan Refusal) → r ≡ Err e → Lowest (SizeFault n g) (number e) → BytesAnswers r
  bytes_sizes =
      sizes_refused n g (either count_fault bytes_fault) bytes_plan bytes_start (columns_faults_most n g c)
      (λ i. ⊎_elim (λ f. omega (arith, list_is (plan_bytes n) c i f)) (λ f. omega (arith, masked_least n (n - g) c (mask_in n c) i f)))

  module _ (z : Size n g) where
    pub bytes_refused : (length c ≡ plan_bytes n → ⊥) → BytesAnswers (Err refusals.Count)
    bytes_refused h =
        plan_refused n g (either count_fault bytes_fault) bytes_plan bytes_start (columns_faults_most n g c) 4 (omega arith) z
        (lowest_first count_fault bytes_fault 4 (omega arith) (list_4 (plan_bytes n) c h)
        (λ i f. omega (arith, masked_least n (n - g) c (mask_in n c) i f)))
        (admitted_of (Err refusals.Count)) refl

    -- the columns are those of plan 0 of the bytes
    pub bytes_taken : length c ≡ plan_bytes n → (d : List ℕ) → Equal n d (plan_at n c 0) → (mask : ℕ) → mask ≡ mask_in n c
        → (r : Result AcceptedPlan Refusal) → Columned n (n - g) d mask (admitted_of r) → BytesAnswers r
    bytes_taken e d same mask q r k =
        array_admission count_fault n g d c (mask_in n c) (admitted_of r)
        (λ f h. same f h ∙ ap (λ (l : List ℕ). get_or l f 0) (plan_only n c e))
        (subst (λ (v : ℕ). Columned n (n - g) d v (admitted_of r)) q k) (columns_faults_most n g c) z (list_0 (plan_bytes n) c e)

-- a list of columns alone
module _ (n g : ℕ) (c : List ℕ) (z : Size n g) where
  abbrev BareAnswers : Result AcceptedPlan Refusal → Type 0
  BareAnswers r = Admission n g (of_bare n g c) (admitted_of r)

  pub bare_refused : (length c ≡ n → ⊥) → BareAnswers (Err refusals.Count)
  bare_refused h =
      plan_refused n g (either (ListFault n c) (ColumnsFault n (n - g) c)) (plan_of n (n - g) c) (λ x. x ≡ 0) (bare_faults_most n g c) 4
      (omega arith) z
      (lowest_first (ListFault n c) (ColumnsFault n (n - g) c) 4 (omega arith) (list_4 n c h)
      (λ i f. omega (arith, columns_least n (n - g) c i f)))
      (admitted_of (Err refusals.Count)) refl

  pub bare_taken : length c ≡ n → (d : List ℕ) → ((f : ℕ) → get_or d f 0 ≡ get_or c f 0) → (r : Result AcceptedPlan Refusal)
      → Columned n (n - g) d 0 (admitted_of r) → BareAnswers r
  bare_taken e d same r k = bare_admission n g d c (admitted_of r) (λ f h. same f) k (bare_faults_most n g c) z (list_0 n c e)
