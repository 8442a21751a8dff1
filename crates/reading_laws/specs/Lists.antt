-- Lists of plans by their entries: the first plans of a list of bytes, and that equal columns make equal lists, of bytes and of design records.
use Rattle.std.specs.Prelude.{ℕ, zero, suc, ◌+◌, ◌*◌, ◌-◌, ◌≤◌, ◌<◌, ◌≡◌, List, ◌++◌, length, get_or, take}
use Rattle.std.proofs.Common.{sym, ap, ap₂, subst, ◌∙◌, inl, inr, mul-div_cancel, arith, length-take-le, get_or-take, take-add, ext_get_or}
use Rattle.std.proofs.Math.Logic.{by_cases}
use Rattle.std.proofs.Math.Decide.{ℕ_discrete, dec_lt}
use Rattle.regular.specs.Designs.{Holds, blank, design_with}
use Rattle.regular.specs.PlanBytes.{byte_values, plan_bytes, plan_start, plan_at, plan_count, mask_in}
use Rattle.regular.specs.Refusals.{Lowest, RecordFault, design_faults}
use Rattle.regular.specs.RefusalLaws.{none_lowest}
use Rattle.regular.specs.Smallest.{Equal}
use Rattle.regular.specs.declared.Design.{Design}
use Rattle.plan_layout.specs.Places.{columns_within, start_first, start_next, start_order, plan_place, plan_size}

-- the first plans of a list
module _ (n count : ℕ) (bytes : List ℕ) where
  front_place : (i f : ℕ) → i < count → f < plan_bytes n → get_or (plan_at n (take (plan_start n count) bytes) i) f 0 ≡ get_or (plan_at n bytes i) f 0
  front_place i f h l =
      plan_place n (take (plan_start n count) bytes) i f l
      ∙ get_or-take (plan_start n count) bytes (plan_start n i + f) 0 (omega (arith, start_next n i, start_order n (suc i) count h))
      ∙ sym (plan_place n bytes i f l)

  pub front_plan : (i : ℕ) → i < count → Equal n (plan_at n (take (plan_start n count) bytes) i) (plan_at n bytes i)
  front_plan i h f l = front_place i f h (omega (arith, columns_within n))

  pub front_mask : (i : ℕ) → i < count → mask_in n (plan_at n (take (plan_start n count) bytes) i) ≡ mask_in n (plan_at n bytes i)
  front_mask i h = ap₂ (λ (x y : ℕ). x + byte_values * y) (front_place i n h (omega arith)) (front_place i (suc n) h (omega arith))

  pub front_count : 1 ≤ n → plan_start n count ≤ length bytes → plan_count n (length (take (plan_start n count) bytes)) ≡ count
  front_count some h =
      ap (plan_count n) (length-take-le (plan_start n count) bytes h) ∙ mul-div_cancel count (omega (arith, columns_within n))

-- the first k plans of the bytes are without switches
abbrev pub Unswitched : ℕ → ℕ → List ℕ → Type 0
Unswitched n k bytes = (i : ℕ) → i < k → mask_in n (plan_at n bytes i) ≡ 0

-- the same columns without switches, the same bytes
plan_same : (n : ℕ) (p q : List ℕ) → length p ≡ plan_bytes n → length q ≡ plan_bytes n → Equal n p q → mask_in n p ≡ 0 → mask_in n q ≡ 0 → p ≡ q
plan_same n p q x y e a b = ext_get_or 0 p q (x ∙ sym y) (λ f h. by_cases (dec_lt f n) (e f) (λ l. after f (omega arith) (omega (arith, x))))
  where
    after : (f : ℕ) → n ≤ f → f < plan_bytes n → get_or p f 0 ≡ get_or q f 0
    after f h l =
        by_cases (ℕ_discrete f n)
        (λ z. subst (λ (k : ℕ). get_or p k 0 ≡ get_or q k 0) (sym z) (omega (arith, a, b)))
        (λ ne. let z : suc n ≡ f = omega arith in subst (λ (k : ℕ). get_or p k 0 ≡ get_or q k 0) z (omega (arith, a, b)))

-- equal plans, equal bytes
pub plans_same : (n k : ℕ) (a b : List ℕ) → plan_start n k ≤ length a → plan_start n k ≤ length b
    → ((i : ℕ) → i < k → Equal n (plan_at n a i) (plan_at n b i)) → Unswitched n k a → Unswitched n k b → take (plan_start n k) a ≡ take (plan_start n k) b
plans_same n zero a b x y e v w = ap (λ (j : ℕ). take j a) (start_first n) ∙ sym (ap (λ (j : ℕ). take j b) (start_first n))
plans_same n (suc k) a b x y e v w =
    let here : plan_at n a k ≡ plan_at n b k =
    plan_same n (plan_at n a k) (plan_at n b k) (plan_size n a k x) (plan_size n b k y) (e k (omega arith)) (v k (omega arith)) (w k (omega arith)) in
    split a
    ∙ ap₂ ◌++◌ (plans_same n k a b (omega (arith, start_next n k)) (omega (arith, start_next n k)) (λ i h. e i (omega arith)) (λ i h. v i (omega arith))
    (λ i h. w i (omega arith))) here
    ∙ sym (split b)
  where
    split : (l : List ℕ) → take (plan_start n (suc k)) l ≡ take (plan_start n k) l ++ plan_at n l k
    split l = ap (λ (j : ℕ). take j l) (start_next n k) ∙ take-add (plan_start n k) (plan_bytes n) l

-- a design record without a fault and without switches holds columns
pub accepted_holds : (n g : ℕ) (Wanted : List ℕ → Type 0) (d : Design) → Lowest (design_faults n g d) 0 → d.mask ≡ 0 → Wanted d.columns
    → Holds n (n - g) Wanted d
accepted_holds n g Wanted d l bare w = record {
  factors = by_cases (ℕ_discrete d.factors n) (λ e. e) (λ ne. never 4 (RecordFault.factors ne));
  basics = by_cases (ℕ_discrete d.basics (n - g)) (λ e. e) (λ ne. never 4 (RecordFault.basics ne));
  columns = w;
  unused = λ f h k. by_cases (ℕ_discrete (get_or d.columns f 0) 0) (λ e. e) (λ ne. never 5 (RecordFault.used f h k ne));
  unswitched = bare;
}
  where
    never : {A : Type 0} (k : ℕ) → RecordFault n (n - g) d k → A
    never k f = absurd (none_lowest (design_faults n g d) l k (inr (inl f)))

-- records of sixteen columns that hold equal columns are equal
pub designs_equal : {Wanted Other : List ℕ → Type 0} (n m : ℕ) (d e : Design) → length d.columns ≡ 16 → length e.columns ≡ 16 → Holds n m Wanted d
    → Holds n m Other e → Equal n d.columns e.columns → d ≡ e
designs_equal n m d e x y p q same =
    let columns : d.columns ≡ e.columns =
    ext_get_or 0 d.columns e.columns (x ∙ sym y)
    (λ f h. by_cases (dec_lt f n) (λ l. same f l) (λ l. p.unused f (omega arith) (omega arith) ∙ sym (q.unused f (omega arith) (omega arith)))) in
    ap₂ (λ (k mask : ℕ). design_with k d.basics d.columns mask) (p.factors ∙ sym q.factors) (p.unswitched ∙ sym q.unswitched)
    ∙ ap₂ (λ (k : ℕ) (c : List ℕ). design_with e.factors k c e.mask) (p.basics ∙ sym q.basics) columns

-- equal records, equal lists
pub designs_same : (k : ℕ) (a b : List Design) → k ≤ length a → length b ≡ k → ((i : ℕ) → i < k → get_or a i blank ≡ get_or b i blank) → take k a ≡ b
designs_same k a b x y e =
    ext_get_or blank (take k a) b (length-take-le k a x ∙ sym y)
    (λ i h. let l : i < k = omega (arith, length-take-le k a x) in get_or-take k a i blank l ∙ e i l)
