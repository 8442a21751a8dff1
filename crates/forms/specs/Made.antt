-- What is made of an admitted plan, in the terms of its standard columns and its run, and that this is what the calls promise.
use Rattle.std.specs.Prelude.{ℕ, ◌-◌, ◌^◌, ◌<◌, ◌≡◌, refl, List, replicate}
use Rattle.std.proofs.Common.{sym, ap₂, subst, ◌∙◌, arith}
use Rattle.std.specs.Int.Bits.{bit_xor}
use Rattle.regular.specs.Runs.{Runs, switched}
use Rattle.regular.specs.Words.{Reduced, SignedWords}
use Rattle.regular.specs.Columns.{run_of, Allowed, Standard, RunTableWith, RunsOfPlan, ListedWith}
use Rattle.regular.specs.PlanBytes.{plan_bytes, mask_in}
use Rattle.regular.specs.Designs.{HoldsWith, design_with, blank}
use Rattle.regular.specs.Smallest.{Equal}
use Rattle.regular.specs.Refusals.{Gives, LentFault, either, Fills}
use Rattle.regular.specs.Given.{Given, GivesFor, FillsFor}
use Rattle.regular.specs.Forms.{StandardDesign, StandardInto, WordsInto}
use Rattle.regular.specs.Answers.{Admitted}
use Rattle.regular.specs.declared.Design.{Design}
use Rattle.regular.specs.declared.SignsAnswer.{SignsAnswer}
use Rattle.standard.specs.Runs.{run_cols}
use Rattle.words.specs.Standards.{form_standard, standard_cols}
use Rattle.words.specs.WordList.{words_to}
use Rattle.words.specs.ReducedUnique.{generators_reduced}
use Rattle.signs.specs.Masks.{MaskOf}
use Rattle.signs.specs.MaskLaws.{mask_of_form, mask_of_allowed}
use Rattle.signs.specs.SignedWordsLaws.{signed_words}
use Rattle.lent.specs.Lends.{Lends, lends_means, lends_fills}
use Rattle.admission.specs.Admission.{Admission}

-- the record of standard columns and of the mask that the run x gives
pub record DesignMade (n m number : ℕ) (a : List ℕ) (x r : ℕ) (d : Design) : Type 0 where
  pub same : r ≡ number
  pub refused : 0 < number → d ≡ blank
  pub made : number ≡ 0 → (mask : ℕ) × (MaskOf n a x mask × (d ≡ design_with n m a mask))

-- the first g places hold the reduced words of standard columns
abbrev pub WordsAt : ℕ → ℕ → List ℕ → List ℕ → Type 0
WordsAt n g a zs = Equal g zs (words_to a n)

-- .. and their signs in the run x are as said
abbrev pub SignedAt : ℕ → ℕ → List ℕ → ℕ → ℕ → List ℕ → Type 0
SignedAt n g a x signs zs = WordsAt n g a zs × (signs ≡ run_of zs g x)

-- .. in a lent list; no signs if refused
pub record WordsLent (n g number : ℕ) (a : List ℕ) (x : ℕ) (entry exit : List ℕ) (r : SignsAnswer) : Type 0 where
  pub words : Lends number g (SignedAt n g a x r.signs) entry exit r.number
  pub no_signs : 0 < r.number → r.signs ≡ 0

-- the run table of columns and a mask
pub record RunsMade (n m number : ℕ) (c : List ℕ) (mask r : ℕ) (t : List ℕ) : Type 0 where
  pub same : r ≡ number
  pub refused : 0 < number → t ≡ replicate 128 0
  pub made : number ≡ 0 → RunTableWith n m c mask t

-- an admitted plan
module _ {n g : ℕ} {p : Given} {x : Admitted} (ad : Admission n g p x) where
  abbrev number : ℕ
  number = x.number

  abbrev a : List ℕ
  a = x.columns

  abbrev s : Runs
  s = p.plan

  abbrev fault : ℕ → Type 0
  fault = p.faults

  -- its standard columns with the mask that its run gives, whichever list holds the columns
  masked : number ≡ 0 → (c : List ℕ) → Equal n c a → (mask : ℕ) → MaskOf n a x.run mask → Standard n (n - g) s c mask
  masked e c same mask k =
      let m = n - g in
      let st = ad.standard e in
      record {
        allowed = mask_of_allowed n m s x.run a mask st k (ad.within e);
        columns = form_standard n m (switched mask s) c
            (standard_cols n m (switched mask s) a c (mask_of_form n m s x.run a mask st k) (λ f h. sym (same f h)));
      }

  -- a design record
  pub design_gives : (r : ℕ) (d : Design) → DesignMade n (n - g) number a x.run r d → StandardDesign n g p r d
  design_gives r d h =
      subst (λ (k : ℕ). StandardDesign n g p k d) (sym h.same)
      (record {
        number = ad.lowest;
        refused = h.refused;
        result = λ e.
            let k = h.made e in
            subst (HoldsWith n (n - g) (Standard n (n - g) s)) (sym k.1.1)
            (record { factors = refl; basics = refl; wanted = masked e a (λ f _. refl) k.0 k.1.0; unused = λ f l _. ad.unused e f l });
      })

  -- columns and mask, in a lent list
  pub columns_fills : (ys zs : List ℕ) (r : ℕ) → Lends number (plan_bytes n) (λ c. Equal n c a × MaskOf n a x.run (mask_in n c)) ys zs r
      → StandardInto n g p ys zs r
  columns_fills ys zs r l =
      lends_fills fault number (plan_bytes n) (λ c. Standard n (n - g) s c (mask_in n c)) ys zs r ad.most ad.lowest
      (lends_means number (plan_bytes n) (λ c. Equal n c a × MaskOf n a x.run (mask_in n c)) (λ c. Standard n (n - g) s c (mask_in n c)) ys zs r
      (λ e w. masked e zs w.0 (mask_in n zs) w.1)
      l)

  -- words and signs, in a lent list
  reduced : number ≡ 0 → (zs : List ℕ) → WordsAt n g a zs → Reduced n g (switched x.run s) zs
  reduced e zs w =
      let q : n - (n - g) ≡ g = omega (arith, (ad.size e).less) in
      subst (λ (k : ℕ). Reduced n k (switched x.run s) zs) q
      (generators_reduced n (n - g) (switched x.run s) a zs (ad.standard e) (λ i h. w i (omega arith)))

  pub words_fills : (ys zs : List ℕ) (r : SignsAnswer) → WordsLent n g number a x.run ys zs r → WordsInto n g p ys zs r
  words_fills ys zs r l = record {
    words = lends_fills fault number g (λ ws. SignedWords n g s ws r.signs) ys zs r.number ad.most ad.lowest
        (lends_means number g (SignedAt n g a x.run r.signs) (λ ws. SignedWords n g s ws r.signs) ys zs r.number
        (λ e w. subst (SignedWords n g s zs) (sym w.1) (signed_words n g s zs x.run (ad.within e) (reduced e zs w.0)))
        l.words);
    no_signs = l.no_signs;
  }

  -- the runs of its standard columns, its run being allowed as a mask: an array, or a lent list
  module _ (allowed : number ≡ 0 → Allowed n s x.run) where
    of_plan : (Form : ℕ → ℕ → List ℕ → ℕ → List ℕ → Type 0) (t : List ℕ) → number ≡ 0 → Form n (n - g) a x.run t → RunsOfPlan n (n - g) Form s t
    of_plan Form t e w = record {
      columns = a;
      mask = x.run;
      standard = record { allowed = allowed e; columns = form_standard n (n - g) (switched x.run s) a (ad.standard e) };
      table = w;
    }

    pub runs_gives : (r : ℕ) (t : List ℕ) → RunsMade n (n - g) number a x.run r t → GivesFor p (RunsOfPlan n (n - g) RunTableWith) (replicate 128 0) r t
    runs_gives r t h =
        subst (λ (k : ℕ). GivesFor p (RunsOfPlan n (n - g) RunTableWith) (replicate 128 0) k t) (sym h.same)
        (record { number = ad.lowest; refused = h.refused; result = λ e. of_plan RunTableWith t e (h.made e) })

    pub runs_fills : (ys zs : List ℕ) (r : ℕ) → Lends number (2 ^ (n - g)) (ListedWith n (n - g) a x.run) ys zs r
        → FillsFor p (2 ^ (n - g)) (RunsOfPlan n (n - g) ListedWith) ys zs r
    runs_fills ys zs r l =
        lends_fills fault number (2 ^ (n - g)) (RunsOfPlan n (n - g) ListedWith s) ys zs r ad.most ad.lowest
        (lends_means number (2 ^ (n - g)) (ListedWith n (n - g) a x.run) (RunsOfPlan n (n - g) ListedWith s) ys zs r (λ e w. of_plan ListedWith zs e w) l)

  -- the runs of the columns and the mask given, of the same plan
  pub given_gives : (c : List ℕ) (mask r : ℕ) (t : List ℕ) → RunsMade n (n - g) number c mask r t
      → Gives fault (RunTableWith n (n - g) c mask) (replicate 128 0) r t
  given_gives c mask r t h =
      subst (λ (k : ℕ). Gives fault (RunTableWith n (n - g) c mask) (replicate 128 0) k t) (sym h.same)
      (record { number = ad.lowest; refused = h.refused; result = h.made })

  pub given_fills : (c d : List ℕ) (mask : ℕ) (ys zs : List ℕ) (r : ℕ) → Equal n c d → (number ≡ 0 → x.run ≡ mask)
      → Lends number (2 ^ (n - g)) (ListedWith n (n - g) c x.run) ys zs r
      → Fills (either fault (LentFault (2 ^ (n - g)) ys)) (2 ^ (n - g)) (ListedWith n (n - g) d mask) ys zs r
  given_fills c d mask ys zs r same is l =
      lends_fills fault number (2 ^ (n - g)) (ListedWith n (n - g) d mask) ys zs r ad.most ad.lowest
      (lends_means number (2 ^ (n - g)) (ListedWith n (n - g) c x.run) (ListedWith n (n - g) d mask) ys zs r
      (λ e w j h. w j h ∙ ap₂ bit_xor (run_cols c d n j same) (is e))
      l)
