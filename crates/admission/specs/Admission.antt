-- What the admission of a given plan answers: the lowest fault, or the plan's start and standard columns, ready for what the calls do with them.
use Rattle.std.specs.Prelude.{ℕ, ◌-◌, ◌^◌, ◌≤◌, ◌<◌, ◌≡◌, List, get_or, replicate}
use Rattle.std.proofs.Common.{sym, subst, arith}
use Rattle.std.proofs.Math.Logic.{by_cases}
use Rattle.std.proofs.Math.Decide.{dec_lt}
use Rattle.std.specs.Int.Bits.{bit_xor, xor_zero_r}
use Rattle.gf2.specs.DigitLaws.{xor_back}
use Rattle.regular.specs.Sizes.{Size}
use Rattle.regular.specs.Runs.{Runs, Agree, switched}
use Rattle.regular.specs.Refusals.{Lowest, numbered, masked_faults}
use Rattle.regular.specs.RefusalLaws.{lowest_numbered, lowest_unique}
use Rattle.regular.specs.Columns.{plan_of}
use Rattle.regular.specs.Given.{Given}
use Rattle.regular.specs.GivenLaws.{StandsFor, lowest_same_lowest}
use Rattle.regular.specs.Answers.{Admitted}
use Rattle.standard.specs.Form.{StandardForm, StandardFor, DistinctNonzero}

-- the plan p of n factors and g generators: refused with sixteen zeros, or accepted with its start and, that run being switched to 0, its standard columns
pub record Admission (n g : ℕ) (p : Given) (r : Admitted) : Type 0 where
  pub lowest : Lowest p.faults r.number
  pub most : (k : ℕ) → p.faults k → k ≤ 7
  pub refused : 0 < r.number → r.columns ≡ replicate 16 0
  pub size : r.number ≡ 0 → Size n g
  pub start : r.number ≡ 0 → (x : ℕ) → p.start x → x ≡ r.run
  pub starts : r.number ≡ 0 → p.start r.run
  pub within : r.number ≡ 0 → r.run < 2 ^ n
  pub standard : r.number ≡ 0 → StandardFor n (n - g) (switched r.run p.plan) r.columns
  pub distinct : r.number ≡ 0 → DistinctNonzero n r.columns
  pub unused : r.number ≡ 0 → (f : ℕ) → n ≤ f → get_or r.columns f 0 ≡ 0

-- columns in standard form, none of them 0 or standing twice, and sizes in bounds: those of an accepted plan
pub record Ready (n g : ℕ) (a : List ℕ) : Type 0 where
  pub size : Size n g
  pub form : StandardForm n (n - g) a
  pub distinct : DistinctNonzero n a

pub ready : {n g : ℕ} {p : Given} {r : Admitted} → Admission n g p r → r.number ≡ 0 → Ready n g r.columns
ready ad e = record { size = ad.size e; form = (ad.standard e).form; distinct = ad.distinct e }

-- the admitted plan, as it is given to what comes after: its faults are its number
abbrev pub admitted : ℕ → ℕ → Admitted → Given
admitted n g r = record { faults = numbered r.number; plan = switched r.run (plan_of n (n - g) r.columns); start = λ x. x ≡ r.run }

-- switching no factor, and switching back
pub unswitched : (s : Runs) → Agree (switched 0 s) s
unswitched s = record { into = λ x h. subst s (xor_zero_r x) h; onto = λ x h. subst s (sym (xor_zero_r x)) h }

pub switched_back : (v : ℕ) (s t : Runs) → Agree (switched v s) t → Agree (switched v t) s
switched_back v s t e = record {
  into = λ x h. subst s (xor_back x v) (e.onto (bit_xor x v) h);
  onto = λ x h. e.into (bit_xor x v) (subst s (sym (xor_back x v)) h);
}

module _ {n g : ℕ} {p : Given} {r : Admitted} (ad : Admission n g p r) where
  pub number_none : Lowest (numbered r.number) 0 → r.number ≡ 0
  number_none l = lowest_unique (numbered r.number) r.number 0 (lowest_numbered r.number) l

  -- it stands for the plan that was given
  pub stands : StandsFor (admitted n g r) p
  stands = record {
    faults = lowest_same_lowest (numbered r.number) p.faults r.number (lowest_numbered r.number) ad.lowest;
    plan = λ l. switched_back r.run p.plan (plan_of n (n - g) r.columns) (ad.standard (number_none l)).plan;
    start = λ l. ad.start (number_none l);
  }

-- what is required of an admitted plan: if it is accepted, its columns are ready, and no bit of its start is past factor n
pub record Prepared (n g : ℕ) (r : Admitted) : Type 0 where
  pub most : r.number ≤ 7
  pub columns : r.number ≡ 0 → Ready n g r.columns
  pub within : r.number ≡ 0 → r.run < 2 ^ n

pub prepared : {n g : ℕ} {p : Given} {r : Admitted} → Admission n g p r → Prepared n g r
prepared {n} {g} {p} {r} ad = record {
  most = by_cases (dec_lt 0 r.number) (λ h. ad.most r.number (ad.lowest.applies h)) (λ h. omega arith);
  columns = ready ad;
  within = ad.within;
}

-- the same for columns and a mask alone, their sizes being in bounds
pub record Columned (n m : ℕ) (c : List ℕ) (mask : ℕ) (r : Admitted) : Type 0 where
  pub lowest : Lowest (masked_faults n m c mask) r.number
  pub refused : 0 < r.number → r.columns ≡ replicate 16 0
  pub start : r.number ≡ 0 → r.run ≡ mask
  pub within : r.number ≡ 0 → mask < 2 ^ n
  pub standard : r.number ≡ 0 → StandardFor n m (plan_of n m c) r.columns
  pub distinct : r.number ≡ 0 → DistinctNonzero n r.columns
  pub unused : r.number ≡ 0 → (f : ℕ) → n ≤ f → get_or r.columns f 0 ≡ 0
