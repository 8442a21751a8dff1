-- Instances of the calls that turn the forms of a plan into each other: words with signs and a run table into columns and a mask, columns and a mask
-- into words and their signs; accepted and refused.
use Rattle.std.specs.Prelude.{ℕ, ◌^◌, ◌<◌, ◌≡◌, refl, not, ◌||◌, List, [], ◌∷◌, ◌++◌, eqb, ltb, get_or, replicate}
use Rattle.std.proofs.Common.{sym, subst, ◌∙◌, ⊎_elim, arith, eqb-true, ltb-true}
use Rattle.std.proofs.lemmas.Bool.{eqb-false, not-true}
use Rattle.std.specs.Int.Count.{ones, ones_in}
use Rattle.gf2.specs.Counts.{count_same}
use Rattle.gf2.specs.Digits.{bit, odd}
use Rattle.gf2.specs.Members.{In}
use Rattle.gf2.specs.Truth.{or_cases}
use Rattle.regular.specs.Columns.{plan_of, Below, Basic, Allowed, Standard}
use Rattle.regular.specs.Designs.{HoldsWith, Holds, design_with, design_of, blank}
use Rattle.regular.specs.Forms.{StandardDesign, StandardInto}
use Rattle.regular.specs.Given.{of_words}
use Rattle.regular.specs.Refusals.{LentFault, words_faults}
use Rattle.regular.specs.RefusalLaws.{lowest_first, lent_is}
use Rattle.regular.specs.Runs.{Runs, runs_of, Agree, switched}
use Rattle.regular.specs.Smallest.{Equal}
use Rattle.regular.specs.declared.Design.{Design}
use Rattle.standard.specs.Runs.{plan_cols}
use Rattle.words.specs.Switches.{agree_sym, agree_trans}
use Rattle.signs.specs.MaskLaws.{basic_agree, basic_switched_back}
use Rattle.signs.specs.SignLaws.{switched_agree}
use Rattle.whiteboard.specs.ListTests.{among, all, among_in, all_at}
use Rattle.whiteboard.specs.MaskInstances.{refusal_sign}
use Rattle.whiteboard.specs.SignInstances.{minus, three, not_standard, five_columns}
use Rattle.whiteboard.specs.Tests.{below, below_at, agree_at}

-- equal columns are as good; and the same runs
pub standard_like : (n m : ℕ) (s : Runs) (c d : List ℕ) (mask : ℕ) → Equal n c d → Standard n m s c mask → Standard n m s d mask
standard_like n m s c d mask e k = record {
  allowed = k.allowed;
  columns = record {
    below = λ f h. subst (λ (v : ℕ). v < 2 ^ m) (e f h) (k.columns.below f h);
    plan = agree_trans (switched mask s) (plan_of n m c) (plan_of n m d) k.columns.plan (plan_cols n m c d e);
    basic = λ f i h b q. sym (e f h) ∙ k.columns.basic f i h b q;
  };
}

pub standard_agree : (n m : ℕ) (s t : Runs) (c : List ℕ) (mask : ℕ) → Agree s t → Standard n m s c mask → Standard n m t c mask
standard_agree n m s t c mask a k =
    let into : Agree (switched mask s) (switched mask t) = switched_agree mask s t a in
    let onto : Agree (switched mask t) (switched mask s) = agree_sym (switched mask s) (switched mask t) into in
    record {
      allowed = λ f b. k.allowed f (basic_agree n t s (agree_sym s t a) f b);
      columns = record {
        below = k.columns.below;
        plan = agree_trans (switched mask t) (switched mask s) (plan_of n m c) onto k.columns.plan;
        basic = λ f i h b q. k.columns.basic f i h (basic_agree n (switched mask t) (switched mask s) onto f b)
            (count_same (λ e. (e < f) × Basic n (switched mask t) e) (λ e. (e < f) × Basic n (switched mask s) e) i
            (λ e p. (p.0, basic_agree n (switched mask t) (switched mask s) onto e p.1))
            (λ e p. (p.0, basic_agree n (switched mask s) (switched mask t) into e p.1)) q);
      };
    }

-- a plan's mask is one that its columns allow
pub columns_allowed : (n m : ℕ) (s : Runs) (c : List ℕ) (mask : ℕ) → Standard n m s c mask → Allowed n (plan_of n m c) mask
columns_allowed n m s c mask k f b =
    k.allowed f (basic_switched_back n mask s f
    (basic_agree n (plan_of n m c) (switched mask s) (agree_sym (switched mask s) (plan_of n m c) k.columns.plan) f b))

-- the record of ABC with a minus; its mask belongs to it
abbrev pub record_minus : Design
record_minus = record { factors = 3; basics = 2; columns = three ++ replicate 13 0; mask = 4 }

pub design_minus : design_with 3 2 (three ++ replicate 13 0) 4 ≡ record_minus
design_minus = refl

pub not_holds_minus : HoldsWith 3 2 (Standard 3 2 minus) (design_of 3 2 (three ++ replicate 13 0)) → ⊥
unfolding below
not_holds_minus h =
    not_standard (standard_like 3 2 minus (three ++ replicate 13 0) three 0
    (agree_at (λ f. get_or (three ++ replicate 13 0) f 0) (λ f. get_or three f 0) 3 refl) h.wanted)

-- it is none without switches
pub not_unswitched : Holds 3 2 (Below 3 2) record_minus → ⊥
not_unswitched h = omega (arith, h.unswitched)

pub standard_design_refused : StandardDesign 5 2 (of_words 5 2 (7 ∷ 28 ∷ []) 4) 5 blank
standard_design_refused = record { number = refusal_sign; refused = λ h. refl; result = λ e. absurd (omega arith) }

-- in a list of six places the last stays
abbrev pub bytes_minus : List ℕ
bytes_minus = 1 ∷ 2 ∷ 3 ∷ 4 ∷ 0 ∷ 9 ∷ []

pub standard_into_refused : StandardInto 5 2 (of_words 5 2 (7 ∷ 28 ∷ []) 4) (replicate 7 9) (replicate 7 9) 5
standard_into_refused = record {
  number = lowest_first (words_faults 5 2 (7 ∷ 28 ∷ []) 4) (LentFault 7 (replicate 7 9)) 5 (omega arith) refusal_sign
      (λ k f. omega (arith, lent_is 7 (replicate 7 9) k f));
  refused = λ h. refl;
  result = λ e. absurd (omega arith);
  past = λ e. refl;
  size = refl;
}

-- a run table of the same runs, in another order
abbrev pub table_minus : List ℕ
table_minus = 7 ∷ 1 ∷ 2 ∷ 4 ∷ []

pub table_agree : Agree minus (runs_of table_minus)
unfolding below among all odd ones ones_in
table_agree = record { into = into; onto = onto }
  where
    into : (x : ℕ) → minus x → In x table_minus
    into x h =
        ⊎_elim (λ q. absurd (eqb-false (odd x 7) 1 (not-true (eqb (odd x 7) 1) q) (h.product 0 (omega arith)))) (among_in x table_minus)
        (or_cases (not (eqb (odd x 7) 1)) (among x table_minus)
        (below_at (λ y. not (eqb (odd y 7) 1) || among y table_minus) 8 refl x h.within))

    onto : (x : ℕ) → In x table_minus → minus x
    onto x m = record {
      within = ltb-true x 8 (all_at (λ y. ltb y 8) table_minus refl x m);
      product = λ i l. let z : 0 ≡ i = omega arith in
          subst (λ (k : ℕ). odd x (get_or (7 ∷ []) k 0) ≡ bit k 1) z (eqb-true (odd x 7) 1 (all_at (λ y. eqb (odd y 7) 1) table_minus refl x m));
    }

-- the bytes of ABDE minus and CDE plus into words: ABC and ABDE, both minus; a list of one place is too short
abbrev pub bytes_first : List ℕ
bytes_first = 1 ∷ 2 ∷ 3 ∷ 4 ∷ 7 ∷ 20 ∷ 0 ∷ []

pub equal_first : Equal 5 five_columns bytes_first
unfolding below
equal_first = agree_at (λ f. get_or five_columns f 0) (λ f. get_or bytes_first f 0) 5 refl
