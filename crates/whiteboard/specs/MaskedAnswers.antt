-- Instances of calls on a plan with a mask: ABC with C switched, N 4, G 1. It is the plan ABC by a witness with switches; its smallest form has none, and is
-- found behind it in a list; the book's writer refuses it by 5.
use Rattle.std.specs.Prelude.{ℕ, ◌≡◌, refl, List, [], ◌∷◌, ◌++◌, get_or}
use Rattle.std.proofs.Common.{ap, subst, arith}
use Rattle.regular.specs.Columns.{plan_of}
use Rattle.regular.specs.Designs.{design_with, blank}
use Rattle.regular.specs.Given.{of_columns}
use Rattle.regular.specs.PlanBytes.{plan_at, HasPlan}
use Rattle.regular.specs.Refusals.{WantedFault}
use Rattle.regular.specs.Smallest.{Equal, Entry}
use Rattle.regular.specs.SmallestAnswers.{FirstPlace, DesignPlace}
use Rattle.regular.specs.declared.Design.{Design}
use Rattle.words.specs.Switches.{word_switched_back}
use Rattle.smallest_laws.specs.Growth.{entry_equal}
use Rattle.whiteboard.specs.PlanInstances.{record_abc}
use Rattle.whiteboard.specs.ResultInstances.{own, filled}
use Rattle.whiteboard.specs.Samples.{abc, plan_abc, catalogue_4}
use Rattle.whiteboard.specs.Tests.{below, agree_at}

abbrev pub switched_abc : List ℕ
switched_abc = 1 ∷ 2 ∷ 3 ∷ 4 ∷ 4 ∷ 0 ∷ []

pub equal_switched : Equal 4 abc switched_abc
unfolding below
equal_switched = agree_at (λ f. get_or abc f 0) (λ f. get_or switched_abc f 0) 4 refl

pub entry_switched : Entry 4 3 3 switched_abc
entry_switched = entry_equal 4 3 abc switched_abc equal_switched 3 (catalogue_4.sound 0 (omega arith))

-- a witness to ABC needs the switch
abbrev pub switched_names : List ℕ
switched_names = 0 ∷ 1 ∷ 2 ∷ 3 ∷ 9 ∷ []

pub named : Equal 4 own switched_names
unfolding below
named = agree_at (λ f. get_or own f 0) (λ f. get_or switched_names f 0) 4 refl

pub equal_plan : Equal 4 switched_abc plan_abc
unfolding below
equal_plan = agree_at (λ f. get_or switched_abc f 0) (λ f. get_or plan_abc f 0) 4 refl

-- its smallest form has no switches; in a list of both it is the second
abbrev pub both_abc : List ℕ
both_abc = switched_abc ++ plan_abc

pub equal_filled_switched : Equal 4 switched_abc filled
unfolding below
equal_filled_switched = agree_at (λ f. get_or switched_abc f 0) (λ f. get_or filled f 0) 4 refl

-- nor is a record with a mask the form
pub place_switched : DesignPlace (design_with 4 3 record_abc.columns 4 ∷ record_abc ∷ []) record_abc 2
place_switched = FirstPlace.found 1 (omega arith) refl (λ j l e. let z : j ≡ 0 = omega arith in
    omega (
      arith,
      ap (λ (d : Design). d.mask)
          (subst (λ (i : ℕ). get_or (design_with 4 3 record_abc.columns 4 ∷ record_abc ∷ []) i blank ≡ record_abc) z e),
    ))

-- the book's writer refuses it; where switches are no fault, nothing is wrong with it
pub only_plan : (P : List ℕ → Type 0) → P switched_abc → (i : ℕ) → HasPlan 4 switched_abc i → P (plan_at 4 switched_abc i)
only_plan P p i h = let e : 0 ≡ i = omega arith in subst (λ (j : ℕ). P (plan_at 4 switched_abc j)) e p

pub long_switched : (k : ℕ) → WantedFault 4 3 (of_columns 4 1 switched_abc).plan k → ⊥
long_switched k (WantedFault.short h) =
    omega (arith, h.few, entry_switched.long h.word (word_switched_back 4 4 (plan_of 4 3 switched_abc) h.word h.is))
