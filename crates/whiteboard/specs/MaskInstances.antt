-- Instances of switch masks: in a plan's bytes, the runs that columns and a mask give, and what is turned away: signs past the words, masks with a
-- barred bit, at any rank, and any mask where plans must be bare of switches.
use Rattle.std.specs.Prelude.{ℕ, ◌-◌, ◌≤◌, ◌<◌, ◌≡◌, refl, true, false, List, [], ◌∷◌, ltb, length, get_or}
use Rattle.std.proofs.Common.{sym, ap, subst, ◌∙◌, ⊎_elim, inl, inr, arith, ltb-true}
use Rattle.std.proofs.lemmas.Bool.{false≢true}
use Rattle.std.proofs.Math.Logic.{by_cases}
use Rattle.std.proofs.Math.Decide.{ℕ_discrete}
use Rattle.std.specs.Int.Count.{ones, ones_in}
use Rattle.gf2.specs.DigitLaws.{bit_other}
use Rattle.gf2.specs.Digits.{odd}
use Rattle.regular.specs.Columns.{plan_of, plan_with, run_of, Below, Spans, Basic, Allowed}
use Rattle.regular.specs.PlanBytes.{plan_bytes, mask_in}
use Rattle.regular.specs.Refusals.{WordsFault, SignFault, ColumnsFault, MaskFault, SwitchFault, ListFault, masked_faults, words_faults, columns_faults}
use Rattle.regular.specs.Refusals.{bare_faults, Lowest}
use Rattle.regular.specs.RefusalLaws.{lowest_at, columns_least, list_is, mask_is, sign_is}
use Rattle.regular.specs.Sizes.{Size}
use Rattle.regular.specs.Words.{total}
use Rattle.standard.specs.Plans.{word_cancels, cancels_word}
use Rattle.standard.specs.Runs.{total_lt}
use Rattle.standard.specs.Total.{total_unit}
use Rattle.whiteboard.specs.PlanInstances.{size_4}
use Rattle.whiteboard.specs.RefusalInstances.{size_none, size_3, mask_none}
use Rattle.whiteboard.specs.SignInstances.{minus, three, barred_a}
use Rattle.whiteboard.specs.Tests.{below, below_at}

-- a mask has its low byte first
pub mask_in_lem : mask_in 3 (1 ∷ 2 ∷ 3 ∷ 4 ∷ 1 ∷ []) ≡ 260
mask_in_lem = refl

pub not_mask_in : mask_in 3 (1 ∷ 2 ∷ 3 ∷ 4 ∷ 1 ∷ []) ≡ 1025 → ⊥
not_mask_in e = omega (arith, e)

-- a run of the columns, switched; the run with everything high is none
pub run_with : plan_with 3 2 three 4 4
unfolding run_of odd ones ones_in
run_with = (0, (omega arith, refl))

-- a sign from bit G up; a mask at A, which is the last letter of no word; a mask where there must be none
pub fault_sign : SignFault 2 4 5
fault_sign = SignFault.past (omega arith)

pub no_sign_fault : (k : ℕ) → SignFault 2 3 k → ⊥
no_sign_fault k (SignFault.past h) = omega arith

pub fault_mask : MaskFault 3 minus 1 5
fault_mask = MaskFault.barred barred_a

pub fault_switch : SwitchFault true 4 5
fault_switch = SwitchFault.some refl (λ e. omega (arith, e))

pub no_switch_fault : (k : ℕ) → SwitchFault false 4 k → ⊥
no_switch_fault k (SwitchFault.some e h) = false≢true e

-- 5: N 5, G 2, words 7 and 28 with signs 4
pub refusal_sign : Lowest (words_faults 5 2 (7 ∷ 28 ∷ []) 4) 5
refusal_sign =
    lowest_at (words_faults 5 2 (7 ∷ 28 ∷ []) 4) 5 (omega arith) (inr (inr (SignFault.past (omega arith))))
    (λ k f. ⊎_elim (λ q. absurd (size_none 5 2 size k q)) (⊎_elim (least k) (λ q. omega (arith, sign_is 2 4 k q))) f)
  where
    size : Size 5 2
    size = record { some = omega arith; most = omega arith; less = omega arith; few = omega arith }

    least : (k : ℕ) → WordsFault 5 2 (7 ∷ 28 ∷ []) k → 5 ≤ k
    least k (WordsFault.count h) = absurd (h refl)
    least k (WordsFault.past i l h) = omega arith
    least k (WordsFault.dependent h) = omega arith
    least k (WordsFault.short h) = omega arith

-- 4: N 3, G 1, the bytes 010203 have no mask; n columns alone must have none
pub refusal_bytes : Lowest (columns_faults 3 1 three) 4
refusal_bytes =
    lowest_at (columns_faults 3 1 three) 4 (omega arith) (inr (inl (ListFault.count (λ e. omega arith))))
    (λ k f. ⊎_elim (λ q. absurd (size_none 3 1 size_3 k q)) (⊎_elim (λ q. omega (arith, list_is 5 three k q))
    (⊎_elim (λ q. omega (arith, columns_least 3 2 three k q)) (λ q. omega (arith, mask_is 3 (plan_of 3 2 three) (mask_in 3 three) k q)))) f)

pub refusal_bare : Lowest (bare_faults 3 1 (1 ∷ 2 ∷ 3 ∷ 0 ∷ 0 ∷ [])) 4
refusal_bare =
    lowest_at (bare_faults 3 1 (1 ∷ 2 ∷ 3 ∷ 0 ∷ 0 ∷ [])) 4 (omega arith) (inr (inl (ListFault.count (λ e. omega arith))))
    (λ k f. ⊎_elim (λ q. absurd (size_none 3 1 size_3 k q)) (⊎_elim (λ q. omega (arith, list_is 3 (1 ∷ 2 ∷ 3 ∷ 0 ∷ 0 ∷ []) k q))
    (λ q. omega (arith, columns_least 3 2 (1 ∷ 2 ∷ 3 ∷ 0 ∷ 0 ∷ []) k q))) f)

-- bytes of a plan's length: their faults are those of the columns and the mask
masked_lowest : (n g : ℕ) (c : List ℕ) (r : ℕ) → Size n g → length c ≡ plan_bytes n → 0 < r → masked_faults n (n - g) c (mask_in n c) r
    → ((k : ℕ) → masked_faults n (n - g) c (mask_in n c) k → r ≤ k) → Lowest (columns_faults n g c) r
masked_lowest n g c r s e p f least =
    lowest_at (columns_faults n g c) r p (inr (inr f))
    (λ k h. ⊎_elim (λ q. absurd (size_none n g s k q)) (⊎_elim (λ q. absurd (counted k q)) (least k)) h)
  where
    counted : (k : ℕ) → ListFault (plan_bytes n) c k → ⊥
    counted k (ListFault.count h) = h e

-- A is the last letter of no word, so a mask with its bit is 5, whatever the rank
first_basic : (n m : ℕ) (c : List ℕ) → 0 < n → Below n m c → 0 < get_or c 0 0 → Basic n (plan_of n m c) 0
first_basic n m c l b some w word last =
    let e : w ≡ 1 = omega (arith, last) in
    omega (arith, sym (total_unit c 0 n l) ∙ sym (ap (total c n) e) ∙ word_cancels n m c b w word)

barred_first : (n g : ℕ) (c : List ℕ) → Size n g → length c ≡ plan_bytes n → Below n (n - g) c → 0 < get_or c 0 0 → mask_in n c ≡ 1
    → Lowest (columns_faults n g c) 5
barred_first n g c s e b some one =
    masked_lowest n g c 5 s e (omega arith)
    (inr (MaskFault.barred (λ a. omega (arith, subst (Allowed n (plan_of n (n - g) c)) one a 0 (first_basic n (n - g) c (omega (arith, s.some)) b some)))))
    (λ k f. ⊎_elim (λ q. omega (arith, columns_least n (n - g) c k q)) (λ q. omega (arith, mask_is n (plan_of n (n - g) c) (mask_in n c) k q)) f)

-- 5: N 3, G 1, the bytes 0102030100
pub refusal_barred : Lowest (columns_faults 3 1 (1 ∷ 2 ∷ 3 ∷ 1 ∷ 0 ∷ [])) 5
unfolding below
refusal_barred =
    barred_first 3 1 (1 ∷ 2 ∷ 3 ∷ 1 ∷ 0 ∷ []) size_3 refl
    (λ f h. ltb-true (get_or (1 ∷ 2 ∷ 3 ∷ 1 ∷ 0 ∷ []) f 0) 4 (below_at (λ i. ltb (get_or (1 ∷ 2 ∷ 3 ∷ 1 ∷ 0 ∷ []) i 0) 4) 3 refl f h)) (omega arith) refl

-- N 4, G 1, columns 1 2 1 2, of rank 2: with mask 1 it is 5; with mask 8 it is 6, as D is the last letter of BD
abbrev pub rank_two : ℕ → List ℕ
rank_two mask = 1 ∷ 2 ∷ 1 ∷ 2 ∷ mask ∷ 0 ∷ []

two_bits : (mask f : ℕ) → f < 4 → get_or (rank_two mask) f 0 < 4
unfolding below
two_bits mask f h = ltb-true (get_or (rank_two mask) f 0) 4 (below_at (λ i. ltb (get_or (rank_two mask) i 0) 4) 4 refl f h)

pub refusal_first : Lowest (columns_faults 4 1 (1 ∷ 2 ∷ 1 ∷ 2 ∷ 1 ∷ 0 ∷ [])) 5
refusal_first = barred_first 4 1 (rank_two 1) size_4 refl (λ f h. omega (arith, two_bits 1 f h)) (omega arith) refl

pub refusal_rank : Lowest (columns_faults 4 1 (1 ∷ 2 ∷ 1 ∷ 2 ∷ 8 ∷ 0 ∷ [])) 6
unfolding total
refusal_rank =
    masked_lowest 4 1 (rank_two 8) 6 size_4 refl (omega arith) (inl (ColumnsFault.rank not_rank))
    (λ k f. ⊎_elim (least k) (λ q. absurd (mask_none 4 (plan_of 4 3 (rank_two 8)) 8 allowed k q)) f)
  where
    not_rank : Spans 4 3 (rank_two 8) → ⊥
    not_rank h = let r = h 4 (omega arith) in omega (arith, r.1.1, total_lt (rank_two 8) 4 2 r.0 (two_bits 8))

    least : (k : ℕ) → ColumnsFault 4 3 (rank_two 8) k → 6 ≤ k
    least k (ColumnsFault.above f l h) = absurd (omega (arith, two_bits 8 f l))
    least k (ColumnsFault.rank h) = omega arith
    least k (ColumnsFault.short h) = omega arith

    allowed : Allowed 4 (plan_of 4 3 (rank_two 8)) 8
    allowed f b =
        by_cases (ℕ_discrete f 3)
        (λ e. absurd (subst (Basic 4 (plan_of 4 3 (rank_two 8))) e b 10 (cancels_word 4 3 (rank_two 8) 10 (omega arith) (omega arith) refl) refl))
        (λ ne. bit_other f 3 ne)
