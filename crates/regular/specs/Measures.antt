-- What the calls on pattern, resolution, distance counts and aberration answer of the given plans (document 01, "Plans in three forms"). Definitions only.
use Rattle.std.specs.Prelude.{ℕ, ◌+◌, List, get_or}
use Rattle.std.specs.Borrow.{Bor}
use Rattle.regular.specs.Pattern.{Pattern, Resolution, Distances, LessAberration}
use Rattle.regular.specs.Refusals.{either, Chooses, HandsBack}
use Rattle.regular.specs.Given.{Given, GivesFor, FillsFor}

-- the pattern in a lent list: the count of length l at place l - 1
abbrev pub PatternInto : ℕ → Given → List ℕ → List ℕ → ℕ → Type 0
PatternInto n p entry exit r = FillsFor p n (Pattern n) entry exit r

-- the resolution by value, 0 if refused; and as the one place of a lent list
abbrev pub ResolutionOf : ℕ → Given → ℕ → ℕ → Type 0
ResolutionOf n p number resolution = GivesFor p (Resolution n) 0 number resolution

abbrev pub ResolutionInto : ℕ → Given → List ℕ → List ℕ → ℕ → Type 0
ResolutionInto n p entry exit r = FillsFor p 1 (λ s zs. Resolution n s (get_or zs 0 0)) entry exit r

-- the distance counts from the plan's start in a lent list: of distance i at place i
abbrev pub DistancesInto : ℕ → Given → List ℕ → List ℕ → ℕ → Type 0
DistancesInto n p entry exit r = FillsFor p (n + 1) (λ s zs. (x : ℕ) → p.start x → Distances n s x zs) entry exit r

-- of plans of m basic factors the one with less aberration: its number, and its list
abbrev pub ChoosesLess : ℕ → ℕ → Given → Given → ℕ → Type 0
ChoosesLess n m p q r = Chooses (either p.faults q.faults) (LessAberration n m q.plan p.plan) r

abbrev pub HandsBackLess : ℕ → ℕ → Given → Given → Bor (List ℕ) → Bor (List ℕ) → Bor (List ℕ) → Type 0
HandsBackLess n m p q first second r = HandsBack (either p.faults q.faults) (LessAberration n m q.plan p.plan) first second r
