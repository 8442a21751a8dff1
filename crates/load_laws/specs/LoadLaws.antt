-- The load of a seed: there is one (`load_one`); it is the plan before swapping under other names (`load_same`); it is well formed, without a word of
-- fewer than three letters (`load_long`), so that every call takes it, as a record (`load_accepted`) and in bytes (`load_plan_accepted`).
use Rattle.std.specs.Prelude.{◌≡◌, List, ℕ, ◌-◌, ◌≤◌, length, get_or}
use Rattle.std.proofs.Common.{sym, ◌∙◌, ⊎_elim, arith}
use Rattle.regular.specs.Accepted.{size_accepted, columns_none, unswitched_none, holds_accepted}
use Rattle.regular.specs.Columns.{plan_of, Below, Spans}
use Rattle.regular.specs.Designs.{Holds}
use Rattle.regular.specs.Loads.{Load}
use Rattle.regular.specs.PlanBytes.{plan_bytes, mask_in}
use Rattle.regular.specs.RefusalLaws.{lowest_none, lowest_then}
use Rattle.regular.specs.Refusals.{SizeFault, ListFault, ColumnsFault, masked_faults, either, design_faults, columns_faults, Lowest}
use Rattle.regular.specs.Same.{Renaming, Carries}
use Rattle.regular.specs.Sizes.{Size}
use Rattle.regular.specs.Smallest.{Equal}
use Rattle.regular.specs.Words.{NoShort}
use Rattle.regular.specs.declared.Design.{Design}
use Rattle.words.specs.Short.{distinct_words}
use Rattle.load_laws.specs.OtherNames.{rearranged_carries, rearranged_below, rearranged_spans, rearranged_distinct}
use Rattle.load_laws.specs.Swaps.{Rearranged, names_before, before_renaming, before_rearranged}
use Rattle.load_laws.specs.Unswapped.{unswapped_one, unswapped_below, unswapped_distinct, unswapped_spans}

-- each factor of the load has the column that its name before swapping had
load_rearranged : (n g seed : ℕ) (c : List ℕ) (k : Load n g seed c) → Rearranged n k.before (names_before n seed g) c
load_rearranged n g seed c k f h = k.swaps f h ∙ before_rearranged n seed g k.before (omega arith) k.unswapped.places f h

-- a seed has one load
pub load_one : (n g seed : ℕ) (c d : List ℕ) → Load n g seed c → Load n g seed d → Equal n c d
load_one n g seed c d p q f h =
    load_rearranged n g seed c p f h
    ∙ unswapped_one n (n - g) seed p.before q.before p.unswapped q.unswapped n (omega arith) (get_or (names_before n seed g) f 0)
    ((before_renaming n seed g (omega arith)).within f h)
    ∙ sym (load_rearranged n g seed d q f h)

module _ (n g seed : ℕ) (z : Size n g) where
  abbrev m : ℕ
  m = n - g

  abbrev names : List ℕ
  names = names_before n seed g

  module _ (c : List ℕ) (k : Load n g seed c) where
    abbrev before : List ℕ
    before = k.before

    renaming : Renaming n names
    renaming = before_renaming n seed g z.some

    rearranged : Rearranged n before names c
    rearranged = load_rearranged n g seed c k

    -- the same as the plan before swapping: the names 0 to n − 1, swapped alike, are those that the factors had
    pub load_same : Carries n (plan_of n m c) (plan_of n m before) names 0
    load_same = rearranged_carries n m before c names renaming rearranged

    some : 1 ≤ m
    some = omega (arith, z.less)

    before_below : Below n m before
    before_below = unswapped_below n m seed before some (omega arith) k.unswapped

    load_below : Below n m c
    load_below = rearranged_below n m before c names renaming rearranged before_below

    load_spans : Spans n m c
    load_spans = rearranged_spans n m before c names renaming rearranged before_below (unswapped_spans n m seed before some (omega arith) k.unswapped)

    pub load_long : NoShort n 3 (plan_of n m c)
    load_long =
        distinct_words n m c load_below
        (rearranged_distinct n m before c names renaming rearranged (unswapped_distinct n m seed before some (omega arith) k.unswapped))

    load_none : (i : ℕ) → ColumnsFault n m c i → ⊥
    load_none = columns_none n m c load_below load_spans load_long

  -- every call takes its record
  pub load_accepted : (d : Design) → Holds n m (Load n g seed) d → Lowest (design_faults n g d) 0
  load_accepted d h = holds_accepted n g d z h (load_none d.columns h.columns)

  -- and its bytes
  pub load_plan_accepted : (c : List ℕ) → length c ≡ plan_bytes n → Load n g seed c → mask_in n c ≡ 0 → Lowest (columns_faults n g c) 0
  load_plan_accepted c e k unswitched =
      let own = either (ListFault (plan_bytes n) c) (masked_faults n m c (mask_in n c)) in
      lowest_then (SizeFault n g) own 0 (size_accepted n g z)
      (lowest_none own (λ i. ⊎_elim (counted i) (⊎_elim (load_none c k i) (unswitched_none n (plan_of n m c) (mask_in n c) unswitched i))))
    where
      counted : (i : ℕ) → ListFault (plan_bytes n) c i → ⊥
      counted i (ListFault.count ne) = ne e
