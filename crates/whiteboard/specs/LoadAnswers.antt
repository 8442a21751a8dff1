-- Instances of what the calls on loads answer: what is refused, a load as a record and in a lent list, and what is no answer.
use Rattle.std.specs.Prelude.{ℕ, ◌-◌, ◌^◌, ◌≤◌, ◌≡◌, refl, List, [], ◌∷◌, ◌++◌, get_or, replicate}
use Rattle.std.proofs.Common.{sym, ap, ⊎_elim, inl, inr, arith}
use Rattle.gf2.specs.Lists.{list_to}
use Rattle.regular.specs.Designs.{design_of, design_with, blank, design_holds}
use Rattle.regular.specs.Loads.{state_after, swapped, Load, CrowdedFault, load_faults, LoadsDesign, LoadsInto}
use Rattle.regular.specs.RefusalLaws.{lowest_none, lowest_at, lowest_first, lowest_then, lent_fits, lent_short, lent_is}
use Rattle.regular.specs.Refusals.{SizeFault, LentFault, Lowest}
use Rattle.regular.specs.Sizes.{Size}
use Rattle.regular.specs.declared.Design.{Design}
use Rattle.whiteboard.specs.ListTests.{among}
use Rattle.whiteboard.specs.LoadInstances.{before_five, load_five, through_zero, load_5, state_5, not_load_zero}
use Rattle.whiteboard.specs.LoadTests.{first_unused, loaded_passed}
use Rattle.load_laws.specs.LoadLaws.{load_one}
use Rattle.whiteboard.specs.PlanInstances.{past_front}
use Rattle.whiteboard.specs.RefusalInstances.{size_none}
use Rattle.whiteboard.specs.Tests.{below}

-- 7: N 8 of 7 columns; not N 7
pub fault_crowded : CrowdedFault 8 3 7
fault_crowded = CrowdedFault.more (omega arith)

crowded_none : (n m : ℕ) → n ≤ 2 ^ m - 1 → (k : ℕ) → CrowdedFault n m k → ⊥
crowded_none n m h k (CrowdedFault.more l) = omega arith

pub no_crowded_fault : (k : ℕ) → CrowdedFault 7 3 k → ⊥
no_crowded_fault = crowded_none 7 3 (omega arith)

crowded_is : (n m k : ℕ) → CrowdedFault n m k → k ≡ 7
crowded_is n m k (CrowdedFault.more h) = refl

pub refusal_crowded : Lowest (load_faults 8 5) 7
refusal_crowded =
    lowest_at (load_faults 8 5) 7 (omega arith) (inr fault_crowded)
    (λ k f. ⊎_elim (λ q. absurd (size_none 8 5 size k q)) (λ q. omega (arith, crowded_is 8 3 k q)) f)
  where
    size : Size 8 5
    size = record { some = omega arith; most = omega arith; less = omega arith; few = omega arith }

-- 2: N 8, G 8, which is 7 as well, and N 8, G 0; 1: N 0, G 0, which is 2 as well
generators_least : (n g k : ℕ) → 1 ≤ n → n ≤ 16 → SizeFault n g k → 2 ≤ k
generators_least n g k some most (SizeFault.factors h) = ⊎_elim (λ l. absurd (omega arith)) (λ l. absurd (omega arith)) h
generators_least n g k some most (SizeFault.generators h) = omega arith

pub refusal_no_basic : Lowest (load_faults 8 8) 2
refusal_no_basic =
    lowest_at (load_faults 8 8) 2 (omega arith) (inl (SizeFault.generators (inl (omega arith))))
    (λ k f. ⊎_elim (generators_least 8 8 k (omega arith) (omega arith)) (λ q. omega (arith, crowded_is 8 0 k q)) f)

pub refusal_many_basic : Lowest (load_faults 8 0) 2
refusal_many_basic =
    lowest_at (load_faults 8 0) 2 (omega arith) (inl (SizeFault.generators (inr (omega arith))))
    (λ k f. ⊎_elim (generators_least 8 0 k (omega arith) (omega arith)) (λ q. omega (arith, crowded_is 8 8 k q)) f)

pub refusal_no_factor : Lowest (load_faults 0 0) 1
refusal_no_factor =
    lowest_at (load_faults 0 0) 1 (omega arith) (inl (SizeFault.factors (inl (omega arith))))
    (λ k f. ⊎_elim (least k) (λ q. omega (arith, crowded_is 0 0 k q)) f)
  where
    least : (k : ℕ) → SizeFault 0 0 k → 1 ≤ k
    least k (SizeFault.factors h) = omega arith
    least k (SizeFault.generators h) = omega arith

-- sizes that have a load; also N 7, G 4, where N is 2^M − 1
sizes_taken : (n g : ℕ) → Size n g → n ≤ 2 ^ (n - g) - 1 → Lowest (load_faults n g) 0
sizes_taken n g s h = lowest_none (load_faults n g) (λ k f. ⊎_elim (size_none n g s k) (crowded_none n (n - g) h k) f)

pub accepted_whole_load : Lowest (load_faults 7 4) 0
accepted_whole_load = sizes_taken 7 4 (record { some = omega arith; most = omega arith; less = omega arith; few = omega arith }) (omega arith)

pub accepted_load : Lowest (load_faults 5 1) 0
accepted_load = sizes_taken 5 1 (record { some = omega arith; most = omega arith; less = omega arith; few = omega arith }) (omega arith)

-- as a record: the load of N 5, G 1, seed 0; N 8, G 5 refused, with the seed 7 back
pub loads_design : LoadsDesign 5 1 0 (record { number = 0; state = 387276957; design = design_of 5 4 (load_five ++ replicate 11 0) })
unfolding list_to among first_unused below state_after swapped
loads_design = record {
  lowest = accepted_load;
  refused = λ h. absurd (omega arith);
  design = λ e. design_holds 5 4 (Load 5 1 0) (load_five ++ replicate 11 0)
      (loaded_passed 5 1 0 before_five (load_five ++ replicate 11 0) refl) (past_front load_five 11);
  state = λ e. sym state_5;
}

pub loads_design_refused : LoadsDesign 8 5 7 (record { number = 7; state = 7; design = blank })
loads_design_refused = record {
  lowest = refusal_crowded;
  refused = λ h. (refl, refl);
  design = λ e. absurd (omega arith);
  state = λ e. absurd (omega arith);
}

-- no answer: a state after draws, or blank, or a record of the size, though refused; the columns before swapping; a column 0; a state after a draw too
-- few; a switch
pub not_loads_drawn : LoadsDesign 8 5 7 (record { number = 7; state = state_after 7 1; design = blank }) → ⊥
unfolding state_after
not_loads_drawn k = omega (arith, (k.refused (omega arith)).1)

pub not_loads_blank : LoadsDesign 8 5 7 (record { number = 7; state = 0; design = blank }) → ⊥
not_loads_blank k = omega (arith, (k.refused (omega arith)).1)

pub not_loads_sized : LoadsDesign 8 5 7 (record { number = 7; state = 7; design = design_of 8 3 (replicate 16 0) }) → ⊥
not_loads_sized k = omega (arith, ap (λ (d : Design). d.factors) (k.refused (omega arith)).0)

pub not_loads_before : LoadsDesign 5 1 0 (record { number = 0; state = 387276957; design = design_of 5 4 (before_five ++ replicate 11 0) }) → ⊥
not_loads_before k = omega (arith, load_one 5 1 0 (before_five ++ replicate 11 0) load_five (k.design refl).columns load_5 0 (omega arith))

pub not_loads_zero : LoadsDesign 15 11 7 (record { number = 0; state = 1936384792; design = design_of 15 4 through_zero }) → ⊥
not_loads_zero k = not_load_zero (k.design refl).columns

pub not_loads_few : LoadsDesign 5 1 0 (record { number = 0; state = state_after 0 4; design = design_of 5 4 (load_five ++ replicate 11 0) }) → ⊥
unfolding state_after
not_loads_few k = omega (arith, k.state refl)

pub not_loads_switched : LoadsDesign 5 1 0 (record { number = 0; state = 387276957; design = design_with 5 4 (load_five ++ replicate 11 0) 16 }) → ⊥
not_loads_switched k = omega (arith, (k.design refl).unswitched)

-- in a lent list: two places are past the load's seven; six places are too few; N 8, G 5 is 7, though there is no place at all
pub loads_into : LoadsInto 5 1 0 (replicate 9 9) (load_five ++ (0 ∷ 0 ∷ 9 ∷ 9 ∷ [])) (record { number = 0; state = 387276957 })
unfolding list_to among first_unused below state_after swapped
loads_into = record {
  plan = record {
    number = lowest_then (load_faults 5 1) (LentFault 7 (replicate 9 9)) 0 accepted_load (lent_fits 7 (replicate 9 9) (omega arith));
    refused = λ h. absurd (omega arith);
    result = λ e. (loaded_passed 5 1 0 before_five (load_five ++ (0 ∷ 0 ∷ 9 ∷ 9 ∷ [])) refl, refl);
    past = λ e. refl;
    size = refl;
  };
  refused = λ h. absurd (omega arith);
  state = λ e. sym state_5;
}

pub loads_into_short : LoadsInto 5 1 7 (replicate 6 9) (replicate 6 9) (record { number = 8; state = 7 })
loads_into_short = record {
  plan = record {
    number = lowest_then (load_faults 5 1) (LentFault 7 (replicate 6 9)) 8 accepted_load (lent_short 7 (replicate 6 9) (omega arith));
    refused = λ h. refl;
    result = λ e. absurd (omega arith);
    past = λ e. refl;
    size = refl;
  };
  refused = λ h. refl;
  state = λ e. absurd (omega arith);
}

pub loads_into_crowded : LoadsInto 8 5 7 [] [] (record { number = 7; state = 7 })
loads_into_crowded = record {
  plan = record {
    number = lowest_first (load_faults 8 5) (LentFault 10 []) 7 (omega arith) refusal_crowded (λ k f. omega (arith, lent_is 10 [] k f));
    refused = λ h. refl;
    result = λ e. absurd (omega arith);
    past = λ e. refl;
    size = refl;
  };
  refused = λ h. refl;
  state = λ e. absurd (omega arith);
}

-- no answer: the columns before swapping; a place written past the load; a switch; a state after a draw too few; a state after draws though refused; the
-- list written though refused
pub not_into_before : LoadsInto 5 1 0 (replicate 9 9) (before_five ++ (0 ∷ 0 ∷ 9 ∷ 9 ∷ [])) (record { number = 0; state = 387276957 }) → ⊥
not_into_before k =
    omega (arith, load_one 5 1 0 (before_five ++ (0 ∷ 0 ∷ 9 ∷ 9 ∷ [])) load_five (k.plan.result refl).0 load_5 0 (omega arith))

pub not_into_past : LoadsInto 5 1 0 (replicate 9 9) (load_five ++ (0 ∷ 0 ∷ 0 ∷ 9 ∷ [])) (record { number = 0; state = 387276957 }) → ⊥
not_into_past k = omega (arith, ap (λ (l : List ℕ). get_or l 0 0) (k.plan.past refl))

pub not_into_switched : LoadsInto 5 1 0 (replicate 9 9) (load_five ++ (16 ∷ 0 ∷ 9 ∷ 9 ∷ [])) (record { number = 0; state = 387276957 }) → ⊥
not_into_switched k = omega (arith, (k.plan.result refl).1)

pub not_into_few : LoadsInto 5 1 0 (replicate 9 9) (load_five ++ (0 ∷ 0 ∷ 9 ∷ 9 ∷ [])) (record { number = 0; state = state_after 0 4 }) → ⊥
unfolding state_after
not_into_few k = omega (arith, k.state refl)

pub not_into_drawn : LoadsInto 5 1 7 (replicate 6 9) (replicate 6 9) (record { number = 8; state = state_after 7 5 }) → ⊥
unfolding state_after
not_into_drawn k = omega (arith, k.refused (omega arith))

pub not_into_written : LoadsInto 5 1 7 (replicate 6 9) (replicate 6 0) (record { number = 8; state = 7 }) → ⊥
not_into_written k = omega (arith, ap (λ (l : List ℕ). get_or l 0 0) (k.plan.refused (omega arith)))
