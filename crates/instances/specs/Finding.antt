-- What a search, the test of a list, the smallest form and the comparison require is met: on N 1, the column 1; marks, on N 2, the columns 1 and 2.
use Rattle.std.specs.Prelude.{◌≡◌, refl, true, List, [], ◌∷◌, ℕ, zero, suc, ◌+◌, ◌^◌, ◌≤◌, ◌<◌, length, get_or, replicate}
use Rattle.std.proofs.Common.{sym, ap, subst, ◌∙◌, inl, ⊎_elim, arith}
use Rattle.std.proofs.Math.Logic.{by_cases}
use Rattle.std.proofs.Math.Decide.{ℕ_discrete}
use Rattle.gf2.specs.Fill.{zeros}
use Rattle.gf2.specs.Lists.{list_to}
use Rattle.gf2.specs.Members.{In}
use Rattle.gf2.specs.Vec.{vec}
use Rattle.column_tables.specs.Tables.{Tables, Presence, Present}
use Rattle.column_tables.specs.FactorSets.{On, off}
use Rattle.regular.specs.Columns.{plan_of, Column}
use Rattle.regular.specs.Smallest.{Rising}
use Rattle.isomorphism_laws.specs.Link.{Units}
use Rattle.isomorphism_laws.specs.Masks.{plan_within}
use Rattle.isomorphism_laws.specs.Match.{Match, Alike}
use Rattle.isomorphism_laws.specs.Renamings.{kept}
use Rattle.isomorphism_laws.specs.SamePlan.{carries_refl}
use Rattle.smallest_laws.specs.Pulled.{pulled}
use Rattle.smallest_laws.specs.UnitForms.{rising_distinct}
use Rattle.search.specs.Search.{Picks, PlacedImages}
use Rattle.search.specs.Steps.{Block, Blocks, HasUnits, BlockBelow, Left, Completes, OwnColumns, Scanning, SearchFrom}
use Rattle.smallest_test_laws.specs.FairMasks.{FairMasks, all_factors, all_factors_lem, all_picks, all_fair}
use Rattle.smallest_test_laws.specs.Above.{Above}
use Rattle.smallest_test_laws.specs.Branches.{Identity}
use Rattle.smallest_test_laws.specs.Later.{AllLater, later_none}
use Rattle.smallest_test_laws.specs.Mirrors.{Clear, clear_all}
use Rattle.smallest_columns.specs.Reaching.{Reaches, reaches_blank}
use Rattle.smallest_columns.specs.Forming.{Sourced, RisingForm, tested_length}
use Rattle.comparison.specs.Matching.{Imaged}
use Rattle.basics.specs.Order.{Most}
use Rattle.basics.specs.OrderSteps.{most_none}
use Rattle.instances.specs.Searching.{column, marks, sums, one_on, tables_1, presence_1}
use Rattle.instances.specs.Walking.{first, blank_128, rising_1, held_1}

-- what holds of factor 0 holds of every factor of the set of it
member : (p : ℕ → Type 0) → p 0 → (f : ℕ) → On f 1 → p f
member p z f o = subst p (sym (one_on f o)) z

pub on_1 : On 0 1
on_1 = refl

-- the one block has the one column, 1 and 0
pub block_1 : Block marks 1 1 1
block_1 = record {
  to = member (λ k. (k < 1) × (get_or marks (1 + k) 0 ≡ 0 → ⊥)) (omega arith, λ e. omega arith);
  from = λ k h ne. first (λ j. On j 1) refl k h;
}

pub blocks_1 : Blocks marks 1 (1 ∷ replicate 7 0)
blocks_1 = first (λ d. Block marks (2 ^ d) (2 ^ d) (get_or (1 ∷ replicate 7 0) d 0)) block_1

-- the table `marks` holds 0 and 1 at their places: the image of the column 1 is 1
pub low_1 : BlockBelow 1 marks 1
low_1 = member (λ k. (k < 64) × (get_or marks (1 + k) 0 < 128)) (omega arith, omega arith)

pub own_1 : OwnColumns sums marks 1
own_1 i o = o

pub present_1 : Present marks 1
present_1 e = omega (arith, e)

pub has_units_1 : HasUnits marks 1
has_units_1 = first (λ d. Present marks (2 ^ d)) present_1

pub columns_some_1 : (i : ℕ) → i < 1 → 0 < get_or column i 0
columns_some_1 = first (λ i. 0 < get_or column i 0) (omega arith)

-- the search from no image on, and its scan of the place 1
pub going_1 : SearchFrom marks (1 ∷ replicate 7 0) column marks sums 1 1 0 1 (replicate 128 0)
going_1 = record {
  most = omega arith;
  few = omega arith;
  room = omega arith;
  long = refl;
  tables = tables_1;
  origin = refl;
  small = first (λ k. get_or (replicate 128 0) k 0 < 128) (omega arith);
  units = has_units_1;
  blocks = blocks_1;
  within = member (λ i. i < 1) (omega arith);
}

pub images_1 : PlacedImages marks column (replicate 8 65535) 1 0 (replicate 128 0) []
unfolding Picks vec
images_1 = record {
  even = record {
    match = record { count = refl; columns = λ z i. absurd i; free = λ k l _. omega arith; alike = λ k p l. absurd (omega arith) };
    picks = tt;
  };
  filled = first (λ k. get_or (replicate 128 0) k 0 ≡ vec [] k) refl;
}

pub left_1 : Left marks (replicate 128 0) 1 1 1
left_1 = record { sub = λ i o. (o, first (λ j. On i (get_or marks (get_or (replicate 128 0) j 0) 0) → ⊥) (λ u. off i 0 refl u)); out = λ i o. inl o }

pub scanning_1 : Scanning true marks sums (replicate 128 0) 1 1 1 1
scanning_1 = record {
  sub = λ i o. (o, first (λ j. Alike (Present marks (1 + j)) (Completes sums (replicate 128 0) i j)) (record { into = λ _. o; onto = λ _ e. omega arith }));
  cut = λ i o. inl o;
}

-- the test of the list against itself, at the unit 1
pub units_1 : Units 1 1 column
units_1 = first (λ i. (f : ℕ) × ((f < 1) × (get_or column f 0 ≡ 2 ^ i))) (0, (omega arith, refl))

pub identity_1 : Identity 0 marks
identity_1 = record { long = refl; at = first (λ k. get_or marks k 0 ≡ k) refl }

pub above_1 : Above 1 column 0 1
above_1 = record { to = member (λ i. (i < 1) × (1 ≤ get_or column i 0)) (omega arith, omega arith); from = λ i h l. first (λ j. On j 1) refl i h }

-- every factor is allowed as its image
pub fair_1 : FairMasks all_factors 1 1 column
fair_1 = all_fair 1 1 column all_factors (all_factors_lem 1 1 (omega arith) (omega arith)) units_1

pub allowed_1 : On 0 (get_or all_factors 0 0)
allowed_1 = all_factors_lem 1 1 (omega arith) (omega arith) 0 0 (omega arith) (omega arith)

pub later_1 : AllLater all_factors 1 1 column 0 (replicate 128 0)
later_1 = later_none all_factors 1 1 column 0 (replicate 128 0) blank_128

-- of the columns 1 and 2, the automorphism that exchanges them gives 2 as the image of 1: 2 is marked
abbrev pub pair : List ℕ
pair = 1 ∷ 2 ∷ []

not_three : Column 2 pair 3 → ⊥
not_three c = by_cases (ℕ_discrete c.0 0)
    (λ z. omega (arith, sym (ap (λ (f : ℕ). get_or pair f 0) z) ∙ c.1.1))
    (λ ne. let o : c.0 ≡ 1 = omega (arith, c.1.0) in omega (arith, sym (ap (λ (f : ℕ). get_or pair f 0) o) ∙ c.1.1))

exchanged : Match (Column 2 pair) 2 2 pair pair
unfolding vec
exchanged = record { count = refl; columns = columns; free = free; alike = alike }
  where
    columns : (z : ℕ) → In z pair → Column 2 pair z
    columns z i = ⊎_elim (λ e. (0, (omega arith, sym e))) (⊎_elim (λ e. (1, (omega arith, sym e))) (λ n. absurd n)) i

    free : (k : ℕ) → k < 4 → vec pair k ≡ 0 → k ≡ 0
    free zero l e = refl
    free (suc zero) l e = absurd (omega arith)
    free (suc (suc zero)) l e = absurd (omega arith)
    free (suc (suc (suc zero))) l e = absurd (omega arith)
    free (suc (suc (suc (suc k)))) l e = absurd (omega arith)

    alike : (k : ℕ) → 0 < k → k < 4 → Alike (Column 2 pair k) (Column 2 pair (vec pair k))
    alike zero p l = absurd (omega arith)
    alike (suc zero) p l = record { into = λ _. (1, (omega arith, refl)); onto = λ _. (0, (omega arith, refl)) }
    alike (suc (suc zero)) p l = record { into = λ _. (0, (omega arith, refl)); onto = λ _. (1, (omega arith, refl)) }
    alike (suc (suc (suc zero))) p l = record { into = λ c. absurd (not_three c); onto = λ c. absurd (not_three c) }
    alike (suc (suc (suc (suc k)))) p l = absurd (omega arith)

pub later_2 : AllLater all_factors 2 2 pair 0 (0 ∷ 0 ∷ 1 ∷ replicate 125 0)
unfolding vec
later_2 zero l ne = absurd (ne refl)
later_2 (suc zero) l ne = absurd (ne refl)
later_2 (suc (suc zero)) l ne = record {
  by = pair;
  automorphism = record {
    match = exchanged;
    picks = all_picks 2 2 pair all_factors (all_factors_lem 2 2 (omega arith) (omega arith)) pair (omega arith) exchanged.columns;
  };
  keeps = first (λ k. vec pair k ≡ k) refl;
  from = 1;
  smaller = omega arith;
  below = omega arith;
  to = refl;
}
later_2 (suc (suc (suc y))) l ne = absurd (ne (zeros 125 y))

pub clear_1 : Clear all_factors 1 1 column 1
clear_1 = clear_all all_factors 1 1 column

-- .. all that a trial at the unit requires at once
pub trial_1 : (On 0 (get_or all_factors 0 0) × Rising 1 1 column × FairMasks all_factors 1 1 column)
    × (Presence column 1 marks × Tables column marks sums 1 × Identity 0 marks × Blocks marks 1 (1 ∷ replicate 7 0) × Above 1 column 0 1)
    × (AllLater all_factors 1 1 column 0 (replicate 128 0) × Clear all_factors 1 1 column 1)
trial_1 = ((allowed_1, rising_1, fair_1), (presence_1, tables_1, identity_1, blocks_1, above_1), (later_1, clear_1))

-- the smallest form: nothing placed, then the column placed, and a form to start from
pub reaches_0 : Reaches 1 1 column 1 (replicate 128 0) []
reaches_0 = reaches_blank 1 1 column

pub reaches_1 : Reaches 1 1 column 2 marks (1 ∷ [])
unfolding vec
reaches_1 = record {
  part = record {
    room = omega arith;
    columns = λ z i. ⊎_elim (λ e. (0, (omega arith, sym e))) (λ n. absurd n) i;
    free = λ k l e. by_cases (ℕ_discrete k 0) (λ z. z) (λ ne. let o : k ≡ 1 = omega arith in absurd (omega (arith, sym (ap (vec (1 ∷ [])) o) ∙ e)));
  };
  size = refl;
  filled = λ k l. by_cases (ℕ_discrete k 0) (λ z. rw z refl) (λ ne. let o : k ≡ 1 = omega arith in rw o refl);
}

pub pulled_1 : length (pulled 1 1 (λ k. get_or marks k 0) column) ≡ 1
pulled_1 = tested_length 1 1 column marks (1 ∷ []) (rising_distinct 1 1 column rising_1) rising_1.below reaches_1

pub sourced_1 : Sourced 1 column column marks
sourced_1 = first (λ g. (j : ℕ) × ((j < 1) × (get_or marks (get_or column j 0) 0 ≡ get_or column g 0))) (0, (omega arith, refl))

pub form_1 : (names : List ℕ) × RisingForm 1 1 column column names
unfolding list_to
form_1 = (
  kept 1,
  record {
    rising = rising_1;
    units = units_1;
    carries = carries_refl 1 (plan_of 1 1 column) (plan_within 1 1 column);
    unused = held_1.rest;
    spare = past;
  },
)
  where
    past : (f : ℕ) → 1 ≤ f → get_or (kept 1) f 0 ≡ 0
    past zero l = absurd (omega arith)
    past (suc f) l = refl

-- the comparison: the image names a factor; keys of no factor; each column has a place
pub imaged_1 : Imaged 1 column marks marks
imaged_1 = record {
  column = first (λ f. get_or column f 0 < 128) (omega arith);
  image = first (λ f. get_or marks (get_or column f 0) 0 < 128) (omega arith);
  some = first (λ f. 0 < get_or marks (get_or marks (get_or column f 0) 0) 0) (omega arith);
}

pub most_16 : Most 16 256 (replicate 16 0)
most_16 = most_none 16 256

pub placed_1 : (f : ℕ) → f < 1 → (get_or column f 0 < 128) × (get_or marks (get_or column f 0) 0 ≡ 0 → ⊥)
placed_1 = first (λ f. (get_or column f 0 < 128) × (get_or marks (get_or column f 0) 0 ≡ 0 → ⊥)) (omega arith, λ e. omega arith)
