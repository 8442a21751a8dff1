-- `patterns::resolution_of` meets its contract: the place of the first count that is not 0, or none. Assumes nothing.
use Rattle.std.proofs.Common.{◌≡◌, ◌<◌, ℕ, List, subst, arith, rules, take, length, Option}
use Rattle.std.proofs.lemmas.Iterator.{IsFirst-from_position, YieldsList-from_slice}
use Rattle.std.specs.Option.{MatchOption}
use Rattle.std.specs.List.{AllWithin, HoldsAt}
use borrow.Author.Tests.{tests}
use Rattle.patterns.proofs.Laws.{first_found, none_found}
use Rattle.patterns.proofs.resolution_of.Goals as goal

abbrev First : List ℕ → Option ℕ → Type 0
First xs r = MatchOption r (AllWithin (λ x. x ≡ 0) xs 0 (length xs))
    (λ i. (i < length xs) × HoldsAt (λ x. x ≡ 0 → ⊥) xs i × AllWithin (λ x. x ≡ 0) xs 0 i)

pub returns-in-Some : goal.returns-in-Some
returns-in-Some c =
    let xs = take c.args.n c.args.pattern in
    let long : 16 ≡ length c.args.pattern = search rules in
    first_found c.args.n c.args.pattern (omega (arith, c.requires, long)) c.in-Some.i
    (subst (First xs) c.in-Some.is
    (IsFirst-from_position _ _ c.position.result (λ x. x ≡ 0 → ⊥) (λ x. x ≡ 0) c.position.ensures.ran (YieldsList-from_slice xs cc)
    (λ x q k. search (rules, tests)) (λ x q k. search (rules, tests))))

pub returns-in-None : goal.returns-in-None
returns-in-None c =
    let xs = take c.args.n c.args.pattern in
    let long : 16 ≡ length c.args.pattern = search rules in
    none_found c.args.n c.args.pattern (omega (arith, c.requires, long))
    (subst (First xs) c.in-None.is
    (IsFirst-from_position _ _ c.position.result (λ x. x ≡ 0 → ⊥) (λ x. x ≡ 0) c.position.ensures.ran (YieldsList-from_slice xs cc)
    (λ x q k. search (rules, tests)) (λ x q k. search (rules, tests))))
