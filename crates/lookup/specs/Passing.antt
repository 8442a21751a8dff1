-- The plans of a list of bytes, passed one after another until one has the columns that are looked for and no switches.
use Rattle.std.specs.Prelude.{◌≡◌, List, ℕ, ◌+◌, ◌≤◌, ◌<◌, length}
use Rattle.std.proofs.Common.{sym, subst, add-one, arith}
use Rattle.std.proofs.Math.Logic.{by_cases}
use Rattle.std.proofs.Math.Decide.{ℕ_discrete}
use Rattle.regular.specs.PlanBytes.{plan_at, HasPlan, plan_count, mask_in}
use Rattle.regular.specs.Smallest.{Equal}
use Rattle.regular.specs.SmallestAnswers.{FirstPlace, ColumnsPlace}
use Rattle.plan_layout.specs.Places.{held_count}

-- plan i has the columns c and no switches
abbrev pub Here : ℕ → List ℕ → List ℕ → ℕ → Type 0
Here n list c i = Equal n (plan_at n list i) c × (mask_in n (plan_at n list i) ≡ 0)

-- none of the first i plans has
abbrev pub NoneBefore : ℕ → List ℕ → List ℕ → ℕ → Type 0
NoneBefore n list c i = (j : ℕ) → j < i → Here n list c j → ⊥

module _ (n : ℕ) (list c : List ℕ) (i : ℕ) (none : NoneBefore n list c i) where
  pub none_more : (Here n list c i → ⊥) → NoneBefore n list c (i + 1)
  none_more other j h e = by_cases (ℕ_discrete j i) (λ q. other (subst (Here n list c) q e)) (λ ne. none j (omega arith) e)

  pub none_found : HasPlan n list i → Here n list c i → ColumnsPlace n list c (i + 1)
  none_found there here = subst (ColumnsPlace n list c) (sym (add-one i)) (FirstPlace.found i there here none)

  pub none_all : 1 ≤ n → plan_count n (length list) ≤ i → ColumnsPlace n list c 0
  none_all some all = FirstPlace.absent (λ j h. none j (omega (arith, all, held_count n (length list) j some h)))
