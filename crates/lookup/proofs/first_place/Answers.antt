-- `lookup::first_place` meets its contract: the library finds the first record that is the same, or none. Assumes nothing.
use Rattle.std.proofs.Common.{◌≡◌, ◌<◌, ◌+◌, ℕ, List, Some, None, add-one, sym, arith, rules, length, Option, subst}
use Rattle.std.proofs.lemmas.Iterator.{IsFirst-from_position, YieldsList-from_slice}
use Rattle.std.specs.Option.{MatchOption}
use Rattle.std.specs.List.{AllWithin, HoldsAt}
use borrow.Author.Tests.{tests}
use Rattle.regular.specs.Designs.{blank}
use Rattle.regular.specs.declared.Design.{Design}
use Rattle.regular.specs.SmallestAnswers.{FirstPlace, DesignPlace}
use Rattle.lookup.proofs.first_place.Goals as goal

abbrev First : List Design → Design → Option ℕ → Type 0
First xs d r = MatchOption r (AllWithin (λ x. x ≡ d → ⊥) xs 0 (length xs))
    (λ i. (i < length xs) × HoldsAt (λ x. x ≡ d) xs i × AllWithin (λ x. x ≡ d → ⊥) xs 0 i)

place_some : (xs : List Design) (d : Design) (i : ℕ) → First xs d (Some i) → DesignPlace xs d (i + 1)
place_some xs d i (within, here, before) =
    subst (DesignPlace xs d) (sym (add-one i)) (FirstPlace.found i within (here blank) (λ j h. before j blank (omega arith) h))

place_none : (xs : List Design) (d : Design) → First xs d None → DesignPlace xs d 0
place_none xs d none = FirstPlace.absent (λ j h. none j blank (omega arith) h)

pub returns-in-Some : goal.returns-in-Some
returns-in-Some c =
    let xs = c.args.list.now in
    let d = c.args.d in
    place_some xs d c.in-Some.i
    (subst (First xs d) c.in-Some.is
    (IsFirst-from_position _ _ c.position.result (λ x. x ≡ d) (λ x. x ≡ d → ⊥) c.position.ensures.ran (YieldsList-from_slice xs cc)
    (λ x q k. search (rules, tests)) (λ x q k. search (rules, tests))))

pub returns-in-None : goal.returns-in-None
returns-in-None c =
    let xs = c.args.list.now in
    let d = c.args.d in
    place_none xs d
    (subst (First xs d) c.in-None.is
    (IsFirst-from_position _ _ c.position.result (λ x. x ≡ d) (λ x. x ≡ d → ⊥) c.position.ensures.ran (YieldsList-from_slice xs cc)
    (λ x q k. search (rules, tests)) (λ x q k. search (rules, tests))))
