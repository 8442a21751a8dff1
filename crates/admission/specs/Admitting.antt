-- Each way through the admission of a plan ends in its answer: the lowest fault of the sizes and the plan, or the standard columns.
use Rattle.std.specs.Prelude.{ℕ, zero, suc, ◌-◌, ◌^◌, ◌≤◌, ◌<◌, ◌≡◌, refl, List, length, get_or, replicate}
use Rattle.std.proofs.Common.{sym, subst, ◌∙◌, inl, inr, arith, pow_pos}
use Rattle.std.proofs.Math.Logic.{by_cases}
use Rattle.regular.specs.Sizes.{Size}
use Rattle.regular.specs.Runs.{Runs, Agree, switched}
use Rattle.regular.specs.Columns.{plan_of, plan_with, Spans}
use Rattle.regular.specs.PlanBytes.{plan_bytes}
use Rattle.regular.specs.Refusals.{SizeFault, ColumnsFault, MaskFault, ListFault, either, Lowest, masked_faults, columns_faults}
use Rattle.regular.specs.RefusalLaws.{lowest_same, lowest_first, lowest_then, size_most}
use Rattle.regular.specs.Accepted.{size_accepted}
use Rattle.regular.specs.Answers.{Admitted}
use Rattle.standard.specs.Form.{StandardFor, DistinctNonzero}
use Rattle.standard.specs.Runs.{plan_cols}
use Rattle.standard.specs.Total.{total_cols}
use Rattle.words.specs.Switches.{agree_trans, short_agree, switched_twice}
use Rattle.regular.specs.Given.{Given, of_bare}
use Rattle.gf2.specs.DigitLaws.{bit_none}
use Rattle.signs.specs.MaskLaws.{basic_agree}
use Rattle.admission.specs.Admission.{Admission, Columned, unswitched}
use Rattle.std.proofs.Math.Decide.{ℕ_discrete}

-- the answer of a refusal
abbrev turned : ℕ → Admitted
turned k = record { number = k; run = 0; columns = replicate 16 0 }

-- a plan whose faults are those of the sizes and those of `plan`
module _ (n g : ℕ) (plan : ℕ → Type 0) (s : Runs) (start : ℕ → Type 0) (most : (k : ℕ) → either (SizeFault n g) plan k → k ≤ 7) where
  abbrev given : Given
  given = record { faults = either (SizeFault n g) plan; plan = s; start = start }

  refusal : (k : ℕ) (r : Admitted) → 0 < k → r ≡ turned k → Lowest (either (SizeFault n g) plan) k → Admission n g given r
  refusal k r h e l = subst (Admission n g given) (sym e) (record {
    lowest = l;
    most = most;
    refused = λ _. refl;
    size = λ e. absurd (omega arith);
    start = λ e. absurd (omega arith);
    starts = λ e. absurd (omega arith);
    within = λ e. absurd (omega arith);
    standard = λ e. absurd (omega arith);
    distinct = λ e. absurd (omega arith);
    unused = λ e. absurd (omega arith);
  })

  -- by the sizes
  pub size_refused : (k : ℕ) (r : Admitted) → r ≡ turned k → (k ≡ 0 → ⊥) → ((i : ℕ) → plan i → 4 ≤ i) → Lowest (SizeFault n g) k → Admission n g given r
  size_refused zero r e h from l = absurd (h refl)
  size_refused (suc k) r e h from l =
      refusal (suc k) r (omega arith) e
      (lowest_first (SizeFault n g) plan (suc k) (omega arith) l (λ i f. omega (arith, from i f, size_most n g (suc k) (l.applies (omega arith)))))

  -- by the plan
  pub plan_refused : (k : ℕ) → 0 < k → Size n g → Lowest plan k → (r : Admitted) → r ≡ turned k → Admission n g given r
  plan_refused k h z l r e = refusal k r h e (lowest_then (SizeFault n g) plan k (size_accepted n g z) l)

  -- accepted
  pub accepted : (run : ℕ) (a : List ℕ) → Size n g → Lowest plan 0 → ((x : ℕ) → start x → x ≡ run) → start run → run < 2 ^ n
      → StandardFor n (n - g) (switched run s) a → DistinctNonzero n a
      → ((f : ℕ) → n ≤ f → get_or a f 0 ≡ 0) → Admission n g given (record { number = 0; run = run; columns = a })
  accepted run a z l from is low st pl un = record {
    lowest = lowest_then (SizeFault n g) plan 0 (size_accepted n g z) l;
    most = most;
    refused = λ h. absurd (omega arith);
    size = λ _. z;
    start = λ _. from;
    starts = λ _. is;
    within = λ _. low;
    standard = λ _. st;
    distinct = λ _. pl;
    unused = λ _. un;
  }

-- columns and a mask of sizes in bounds
pub array_refused : (n m : ℕ) (c : List ℕ) (mask k : ℕ) (r : Admitted) → r ≡ turned k → 0 < k → Lowest (masked_faults n m c mask) k → Columned n m c mask r
array_refused n m c mask k r e h l = subst (Columned n m c mask) (sym e) (record {
  lowest = l;
  refused = λ _. refl;
  start = λ e. absurd (omega arith);
  within = λ e. absurd (omega arith);
  standard = λ e. absurd (omega arith);
  distinct = λ e. absurd (omega arith);
  unused = λ e. absurd (omega arith);
})

-- columns that agree below n: the same faults
spans_cols : (n m : ℕ) (c d : List ℕ) → ((f : ℕ) → f < n → get_or c f 0 ≡ get_or d f 0) → Spans n m c → Spans n m d
spans_cols n m c d same sp v h = let w = sp v h in (w.0, (w.1.0, sym (total_cols c d n w.0 same) ∙ w.1.1))

columns_fault_same : (n m : ℕ) (c d : List ℕ) → ((f : ℕ) → f < n → get_or c f 0 ≡ get_or d f 0) → (k : ℕ) → ColumnsFault n m c k → ColumnsFault n m d k
columns_fault_same n m c d same k (ColumnsFault.above f l h) = ColumnsFault.above f l (omega (arith, same f l))
columns_fault_same n m c d same k (ColumnsFault.rank h) = ColumnsFault.rank (λ sp. h (spans_cols n m d c (λ f l. sym (same f l)) sp))
columns_fault_same n m c d same k (ColumnsFault.short h) = ColumnsFault.short (short_agree n (plan_of n m c) (plan_of n m d) (plan_cols n m c d same) 3 h)

masked_fault_same : (n m : ℕ) (c d : List ℕ) (mask : ℕ) → ((f : ℕ) → f < n → get_or c f 0 ≡ get_or d f 0) → (k : ℕ)
    → masked_faults n m c mask k → masked_faults n m d mask k
masked_fault_same n m c d mask same k (inl f) = inl (columns_fault_same n m c d same k f)
masked_fault_same n m c d mask same k (inr (MaskFault.barred h)) =
    inr (MaskFault.barred (λ a. h (λ f b. a f (basic_agree n (plan_of n m c) (plan_of n m d) (plan_cols n m c d same) f b))))

-- from columns and a mask alone to a plan whose other arguments are not at fault
module _ (other : ℕ → Type 0) (n g : ℕ) (c d : List ℕ) (mask : ℕ) (r : Admitted) (same : (f : ℕ) → f < n → get_or c f 0 ≡ get_or d f 0)
    (k : Columned n (n - g) c mask r) where
  abbrev m : ℕ
  m = n - g

  abbrev own : ℕ → Type 0
  own = either other (masked_faults n m d mask)

  -- the plan that the mask switches back is that of the columns
  switched_standard : r.number ≡ 0 → StandardFor n m (switched r.run (plan_with n m d mask)) r.columns
  switched_standard e =
      let s = k.standard e in
      let back : Agree (switched r.run (plan_with n m d mask)) (plan_of n m d) =
      subst (λ (v : ℕ). Agree (switched v (plan_with n m d mask)) (plan_of n m d)) (sym (k.start e)) (switched_twice mask (plan_of n m d)) in
      record {
        form = s.form;
        plan = agree_trans (switched r.run (plan_with n m d mask)) (plan_of n m d) (plan_of n m r.columns) back
            (agree_trans (plan_of n m d) (plan_of n m c) (plan_of n m r.columns) (plan_cols n m d c (λ f h. sym (same f h))) s.plan);
      }

  pub array_admission : ((k : ℕ) → either (SizeFault n g) own k → k ≤ 7) → Size n g → Lowest other 0
      → Admission n g (record { faults = either (SizeFault n g) own; plan = plan_with n m d mask; start = λ x. x ≡ mask }) r
  array_admission most z l = record {
    lowest = lowest_then (SizeFault n g) own r.number (size_accepted n g z)
        (lowest_then other (masked_faults n m d mask) r.number l
        (lowest_same (masked_faults n m c mask) (masked_faults n m d mask) r.number
        (masked_fault_same n m c d mask same) (masked_fault_same n m d c mask (λ f h. sym (same f h))) k.lowest));
    most = most;
    refused = k.refused;
    size = λ _. z;
    start = λ e x is. is ∙ sym (k.start e);
    starts = k.start;
    within = λ e. subst (λ (v : ℕ). v < 2 ^ n) (sym (k.start e)) (k.within e);
    standard = switched_standard;
    distinct = k.distinct;
    unused = k.unused;
  }

-- the same for columns alone
module _ (n g : ℕ) (c d : List ℕ) (r : Admitted) (same : (f : ℕ) → f < n → get_or c f 0 ≡ get_or d f 0) (k : Columned n (n - g) c 0 r) where
  -- no mask is allowed with any columns
  unmasked : (i : ℕ) → masked_faults n (n - g) c 0 i → ColumnsFault n (n - g) c i
  unmasked i (inl f) = f
  unmasked i (inr (MaskFault.barred h)) = absurd (h (λ f b. bit_none f))

  pub bare_admission : ((k : ℕ) → (of_bare n g d).faults k → k ≤ 7) → Size n g → Lowest (ListFault n d) 0 → Admission n g (of_bare n g d) r
  bare_admission most z l =
      let m = n - g in
      record {
        lowest = lowest_then (SizeFault n g) (either (ListFault n d) (ColumnsFault n m d)) r.number (size_accepted n g z)
            (lowest_then (ListFault n d) (ColumnsFault n m d) r.number l
            (lowest_same (masked_faults n m c 0) (ColumnsFault n m d) r.number
            (λ i f. columns_fault_same n m c d same i (unmasked i f))
            (λ i f. inl (columns_fault_same n m d c (λ f h. sym (same f h)) i f)) k.lowest));
        most = most;
        refused = k.refused;
        size = λ _. z;
        start = λ e x is. is ∙ sym (k.start e);
        starts = k.start;
        within = λ e. subst (λ (v : ℕ). v < 2 ^ n) (sym (k.start e)) (pow_pos n);
        standard = λ e.
            let s = k.standard e in
            record {
              form = s.form;
              plan = subst (λ (v : ℕ). Agree (switched v (plan_of n m d)) (plan_of n m r.columns)) (sym (k.start e))
                  (agree_trans (switched 0 (plan_of n m d)) (plan_of n m d) (plan_of n m r.columns) (unswitched (plan_of n m d))
                  (agree_trans (plan_of n m d) (plan_of n m c) (plan_of n m r.columns) (plan_cols n m d c (λ f h. sym (same f h))) s.plan));
            };
        distinct = k.distinct;
        unused = k.unused;
      }

-- the bytes of an accepted plan are those of a plan
pub columns_count : (n g : ℕ) (c : List ℕ) (r : ℕ) → r ≡ 0 → Lowest (columns_faults n g c) r → length c ≡ plan_bytes n
columns_count n g c r e l =
    by_cases (ℕ_discrete (length c) (plan_bytes n)) (λ h. h)
    (λ h. absurd (omega (arith, l.least 4 (inr (inl (ListFault.count h))))))
