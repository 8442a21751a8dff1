-- A load of plans from a seed (document 02, request 6): what is drawn, the columns before swapping, the swaps, and what the calls answer.
-- Definitions only. Factors and places are counted from 0, and so are draws: factors 0 to m − 1 are the request's factors 1 to M.
use Rattle.std.specs.Prelude.{ℕ, zero, suc, ◌+◌, ◌-◌, ◌/◌, ◌%◌, ◌^◌, ◌≤◌, ◌<◌, ◌≡◌, List, length, get_or, set}
use Rattle.std.specs.Int.Bits.{bit_xor}
use Rattle.regular.specs.Columns.{Column}
use Rattle.regular.specs.Designs.{Holds, blank}
use Rattle.regular.specs.PlanBytes.{plan_bytes, mask_in}
use Rattle.regular.specs.Refusals.{SizeFault, LentFault, either, Lowest, Fills}
use Rattle.regular.specs.Smallest.{Equal}
use Rattle.regular.specs.Answers.{LoadAnswer}
use Rattle.regular.specs.declared.StateAnswer.{StateAnswer}

-- the state after k draws: it starts at the seed, and each draw adds 2654435769 to it, dropping the carry beyond 32 bits
unfoldable pub state_after : ℕ → ℕ → ℕ
state_after seed zero = seed
state_after seed (suc k) = (state_after seed k + 2654435769) % 2 ^ 32

-- what a draw yields, by the state after it: the state exclusive-or the state shifted right by 15
abbrev pub yielded : ℕ → ℕ
yielded state = bit_xor state (state / 2 ^ 15)

-- what draw k yields
abbrev pub draw : ℕ → ℕ → ℕ
draw seed k = yielded (state_after seed (suc k))

-- the next column upward, going from the last to 1
abbrev pub upward : ℕ → ℕ → ℕ
upward last x = x % last + 1

-- y is column x or, if that is used, the next unused column upward
pub data FirstUnused (last : ℕ) (Used : ℕ → Type 0) : ℕ → ℕ → Type 0 where
  itself : (x : ℕ) → (Used x → ⊥) → FirstUnused last Used x x
  next : (x y : ℕ) → Used x → FirstUnused last Used (upward last x) y → FirstUnused last Used x y

-- n columns before swapping: the first m factors take columns 1, 2, 4 and so on. Each later one takes the draw's remainder by 2^m − 1, plus 1, or, if
-- that is a column of a factor before it, the next unused one; factor m takes draw 0
pub record Unswapped (n m seed : ℕ) (c : List ℕ) : Type 0 where
  pub places : n ≤ length c
  pub basic : (f : ℕ) → f < m → get_or c f 0 ≡ 2 ^ f
  pub later : (f : ℕ) → m ≤ f → f < n → FirstUnused (2 ^ m - 1) (Column f c) (draw seed (f - m) % (2 ^ m - 1) + 1) (get_or c f 0)

-- places i and j swapped
abbrev pub swap : List ℕ → ℕ → ℕ → List ℕ
swap c i j = set (set c i (get_or c j 0)) j (get_or c i 0)

-- from place i down to 1, each swapped with the place that a draw's remainder by i + 1 gives; the first of these draws is draw k
unfoldable pub swapped : ℕ → ℕ → ℕ → List ℕ → List ℕ
swapped seed zero k c = c
swapped seed (suc i) k c = swapped seed i (suc k) (swap c (suc i) (draw seed k % (suc i + 1)))

-- the load of a seed: n columns as they were before swapping, for which g draws were made, swapped from the last place down
pub record Load (n g seed : ℕ) (c : List ℕ) : Type 0 where
  pub before : List ℕ
  pub unswapped : Unswapped n (n - g) seed before
  pub swaps : Equal n c (swapped seed (n - 1) g before)

-- the state that goes back: after a draw for each later factor and one for each swap
abbrev pub state_back : ℕ → ℕ → ℕ → ℕ
state_back n g seed = state_after seed (g + (n - 1))

-- 7: more factors than there are columns
pub data CrowdedFault (n m : ℕ) : ℕ → Type 0 where
  more : 2 ^ m - 1 < n → CrowdedFault n m 7

abbrev pub load_faults : ℕ → ℕ → ℕ → Type 0
load_faults n g = either (SizeFault n g) (CrowdedFault n (n - g))

-- the load as a record, and the state; the blank record and the seed as it came if refused
pub record LoadsDesign (n g seed : ℕ) (r : LoadAnswer) : Type 0 where
  pub lowest : Lowest (load_faults n g) r.number
  pub refused : 0 < r.number → (r.design ≡ blank) × (r.state ≡ seed)
  pub design : r.number ≡ 0 → Holds n (n - g) (Load n g seed) r.design
  pub state : r.number ≡ 0 → r.state ≡ state_back n g seed

-- the load as the bytes of a plan in a lent list, without switches, and the state; the seed as it came if refused
pub record LoadsInto (n g seed : ℕ) (entry exit : List ℕ) (r : StateAnswer) : Type 0 where
  pub plan : Fills (either (load_faults n g) (LentFault (plan_bytes n) entry)) (plan_bytes n) (λ zs. Load n g seed zs × (mask_in n zs ≡ 0)) entry exit r.number
  pub refused : 0 < r.number → r.state ≡ seed
  pub state : r.number ≡ 0 → r.state ≡ state_back n g seed
