-- Instances of loads: draws, the columns before swapping, swaps, and the loads of four seeds; and readings that are not the load.
use Rattle.std.specs.Prelude.{ℕ, ◌+◌, ◌%◌, ◌^◌, ◌≡◌, refl, List, [], ◌∷◌, get_or}
use Rattle.std.proofs.Common.{ap, arith}
use Rattle.gf2.specs.Lists.{list_to}
use Rattle.regular.specs.Columns.{Column}
use Rattle.regular.specs.Loads.{state_after, yielded, draw, upward, FirstUnused, Unswapped, swap, swapped, Load, state_back}
use Rattle.load_laws.specs.LoadLaws.{load_one}
use Rattle.load_laws.specs.Unused.{first_one}
use Rattle.whiteboard.specs.ListTests.{among}
use Rattle.whiteboard.specs.LoadTests.{first_unused, first_passed, unswapped_passed, loaded_passed}
use Rattle.whiteboard.specs.Tests.{below}

-- the state starts at the seed; the carry beyond 32 bits is dropped, not kept
pub state_start : state_after 7 0 ≡ 7
unfolding state_after
state_start = refl

pub state_carry : state_after 0 2 ≡ 1013904242
unfolding state_after
state_carry = refl

pub not_state : state_after 0 2 ≡ 2654435769 + 2654435769 → ⊥
unfolding state_after
not_state e = omega (arith, e)

-- a draw yields other than its state
pub yielded_first : yielded 2654435769 ≡ 2654356951
yielded_first = refl

pub not_yielded : yielded 2654435769 ≡ 2654435769 → ⊥
not_yielded e = omega (arith, e)

-- the first three draws of seed 0. The first is not from the seed itself, the second not from what the first yielded
pub draws : (draw 0 0 ≡ 2654356951) × (draw 0 1 ≡ 1013877679) × (draw 0 2 ≡ 3668432999)
unfolding state_after
draws = (refl, refl, refl)

pub not_draw : draw 0 0 ≡ yielded 0 → ⊥
unfolding state_after
not_draw e = omega (arith, e)

pub not_draw_yielded : draw 0 1 ≡ yielded ((draw 0 0 + 2654435769) % 2 ^ 32) → ⊥
unfolding state_after
not_draw_yielded e = omega (arith, e)

-- upward of 7 columns: from the last to 1, not to 0
pub upward_next : upward 7 3 ≡ 4
upward_next = refl

pub upward_last : upward 7 7 ≡ 1
upward_last = refl

pub not_upward : upward 7 7 ≡ 0 → ⊥
not_upward e = omega (arith, e)

-- the first unused column: itself, the next, past the last; not one that is used, not a later one, not 0
pub first_itself : FirstUnused 7 (Column 3 (1 ∷ 2 ∷ 4 ∷ [])) 3 3
unfolding list_to among first_unused
first_itself = first_passed 7 3 (1 ∷ 2 ∷ 4 ∷ []) 7 3 3 refl

pub first_next : FirstUnused 7 (Column 3 (1 ∷ 2 ∷ 4 ∷ [])) 1 3
unfolding list_to among first_unused
first_next = first_passed 7 3 (1 ∷ 2 ∷ 4 ∷ []) 7 1 3 refl

pub first_past : FirstUnused 7 (Column 4 (1 ∷ 2 ∷ 4 ∷ 7 ∷ [])) 7 3
unfolding list_to among first_unused
first_past = first_passed 7 4 (1 ∷ 2 ∷ 4 ∷ 7 ∷ []) 7 7 3 refl

only : (last f x y z : ℕ) (c : List ℕ) → FirstUnused last (Column f c) x y → FirstUnused last (Column f c) x z → y ≡ z
only last f x y z c = first_one last (Column f c) (Column f c) (λ v k. k) (λ v k. k) x y z

pub not_first_used : FirstUnused 7 (Column 3 (1 ∷ 2 ∷ 4 ∷ [])) 1 1 → ⊥
not_first_used k = omega (arith, only 7 3 1 1 3 (1 ∷ 2 ∷ 4 ∷ []) k first_next)

pub not_first_later : FirstUnused 7 (Column 3 (1 ∷ 2 ∷ 4 ∷ [])) 1 5 → ⊥
not_first_later k = omega (arith, only 7 3 1 5 3 (1 ∷ 2 ∷ 4 ∷ []) k first_next)

pub not_first_zero : FirstUnused 7 (Column 4 (1 ∷ 2 ∷ 4 ∷ 7 ∷ [])) 7 0 → ⊥
not_first_zero k = omega (arith, only 7 4 7 0 3 (1 ∷ 2 ∷ 4 ∷ 7 ∷ []) k first_past)

-- N 5, G 1, seed 0, before swapping: the draw gives column 2, which is used, so 3. The remainder of the state would give 10
abbrev pub before_five : List ℕ
before_five = 1 ∷ 2 ∷ 4 ∷ 8 ∷ 3 ∷ []

abbrev pub before_by_state : List ℕ
before_by_state = 1 ∷ 2 ∷ 4 ∷ 8 ∷ (state_after 0 1 % 15 + 1) ∷ []

pub unswapped_5 : Unswapped 5 4 0 before_five
unfolding list_to among first_unused below state_after
unswapped_5 = unswapped_passed 5 4 0 before_five refl

pub not_unswapped : Unswapped 5 4 0 before_by_state → ⊥
unfolding list_to among first_unused below state_after
not_unswapped k =
    omega (arith, only 15 4 2 10 3 before_by_state (k.later 4 (omega arith) (omega arith)) (first_passed 15 4 before_by_state 15 2 3 refl))

-- two places swapped: both are read before one is written
pub swap_two : swap (5 ∷ 6 ∷ 7 ∷ []) 2 0 ≡ 7 ∷ 6 ∷ 5 ∷ []
swap_two = refl

pub swap_itself : swap (5 ∷ 6 ∷ 7 ∷ []) 1 1 ≡ 5 ∷ 6 ∷ 7 ∷ []
swap_itself = refl

pub not_swap : swap (5 ∷ 6 ∷ 7 ∷ []) 2 0 ≡ 5 ∷ 6 ∷ 5 ∷ [] → ⊥
not_swap e = omega (arith, ap (λ (l : List ℕ). get_or l 0 0) e)

-- the swaps of N 5, G 1, seed 0 begin with draw 1, not with draw 0
abbrev pub load_five : List ℕ
load_five = 4 ∷ 2 ∷ 1 ∷ 8 ∷ 3 ∷ []

pub swapped_5 : swapped 0 4 1 before_five ≡ load_five
unfolding swapped state_after
swapped_5 = refl

pub not_swapped : swapped 0 4 0 before_five ≡ load_five → ⊥
unfolding swapped state_after
not_swapped e = omega (arith, ap (λ (l : List ℕ). get_or l 0 0) e)

-- the loads of seeds 0, 1, 7 and 0, and the states that go back
pub load_5 : Load 5 1 0 load_five
unfolding list_to among first_unused below state_after swapped
load_5 = loaded_passed 5 1 0 before_five load_five refl

pub state_5 : state_back 5 1 0 ≡ 387276957
unfolding state_after
state_5 = refl

abbrev load_seven : List ℕ
load_seven = 2 ∷ 5 ∷ 8 ∷ 14 ∷ 1 ∷ 4 ∷ 9 ∷ []

pub load_7 : Load 7 3 1 load_seven
unfolding list_to among first_unused below state_after swapped
load_7 = loaded_passed 7 3 1 (1 ∷ 2 ∷ 4 ∷ 8 ∷ 14 ∷ 5 ∷ 9 ∷ []) load_seven refl

pub state_7 : state_back 7 3 1 ≡ 2415085442
unfolding state_after
state_7 = refl

abbrev load_fifteen : List ℕ
load_fifteen = 13 ∷ 3 ∷ 11 ∷ 9 ∷ 12 ∷ 2 ∷ 14 ∷ 10 ∷ 8 ∷ 7 ∷ 1 ∷ 15 ∷ 5 ∷ 4 ∷ 6 ∷ []

pub load_15 : Load 15 11 7 load_fifteen
unfolding list_to among first_unused below state_after swapped
load_15 = loaded_passed 15 11 7 (1 ∷ 2 ∷ 4 ∷ 8 ∷ 6 ∷ 9 ∷ 10 ∷ 11 ∷ 12 ∷ 3 ∷ 13 ∷ 14 ∷ 15 ∷ 5 ∷ 7 ∷ []) load_fifteen refl

pub state_15 : state_back 15 11 7 ≡ 1936384792
unfolding state_after
state_15 = refl

pub load_1 : Load 1 0 0 (1 ∷ [])
unfolding list_to among first_unused below state_after swapped
load_1 = loaded_passed 1 0 0 (1 ∷ []) (1 ∷ []) refl

pub state_1 : state_back 1 0 0 ≡ 0
unfolding state_after
state_1 = refl

-- .. not after a draw too few
pub not_state_back : state_back 5 1 0 ≡ state_after 0 4 → ⊥
unfolding state_after
not_state_back e = omega (arith, e)

-- every column is used where N is 2^M − 1
pub load_whole : Load 7 4 0 (4 ∷ 2 ∷ 5 ∷ 3 ∷ 7 ∷ 6 ∷ 1 ∷ [])
unfolding list_to among first_unused below state_after swapped
load_whole = loaded_passed 7 4 0 (1 ∷ 2 ∷ 4 ∷ 3 ∷ 5 ∷ 6 ∷ 7 ∷ []) (4 ∷ 2 ∷ 5 ∷ 3 ∷ 7 ∷ 6 ∷ 1 ∷ []) refl

-- not the load: the columns before swapping; the remainder of the state; draw 0 for the first swap; a place that is read after it is written
pub not_load_before : Load 5 1 0 before_five → ⊥
not_load_before k = omega (arith, load_one 5 1 0 before_five load_five k load_5 0 (omega arith))

pub not_load_state : Load 5 1 0 (swapped 0 4 1 before_by_state) → ⊥
unfolding swapped state_after
not_load_state k = omega (arith, load_one 5 1 0 (swapped 0 4 1 before_by_state) load_five k load_5 4 (omega arith))

pub not_load_draw : Load 5 1 0 (swapped 0 4 0 before_five) → ⊥
unfolding swapped state_after
not_load_draw k = omega (arith, load_one 5 1 0 (swapped 0 4 0 before_five) load_five k load_5 0 (omega arith))

pub not_load_written : Load 5 1 0 (1 ∷ 2 ∷ 1 ∷ 8 ∷ 3 ∷ []) → ⊥
not_load_written k = omega (arith, load_one 5 1 0 (1 ∷ 2 ∷ 1 ∷ 8 ∷ 3 ∷ []) load_five k load_5 0 (omega arith))

-- nor where the next of 15 is 0, which is then the first that is not used, before 5; in sixteen places
abbrev pub through_zero : List ℕ
through_zero = 13 ∷ 3 ∷ 11 ∷ 9 ∷ 12 ∷ 2 ∷ 14 ∷ 10 ∷ 8 ∷ 5 ∷ 1 ∷ 15 ∷ 0 ∷ 4 ∷ 6 ∷ 0 ∷ []

pub not_load_zero : Load 15 11 7 through_zero → ⊥
not_load_zero k = omega (arith, load_one 15 11 7 through_zero load_fifteen k load_15 12 (omega arith))
