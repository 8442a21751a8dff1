-- Laws of the turns: the refusals by number, one entry more, and the answer where the loop stops. Assumes nothing.
use mathlib.Core.Path.{◌≡◌, refl, sym, ap, subst, ◌∙◌}
use mathlib.Core.Logic.{by_cases}
use mathlib.Core.Bool.{Bool, true, false}
use mathlib.Core.List.{List, []}
use Prim.Native.Nat.{ℕ, zero, suc, ◌+◌, ◌-◌, ◌≤◌, ◌<◌}
use native.Mathlib.Decide.{ℕ_discrete}
use native.Mathlib.Numerals.{add-one}
use native.Mathlib.Omega.{arith}
use borrow.Author.Tests.{lt-ltb, eq-eqb, ne_eqb}
use lib.Dec.{eqb}
use lib.ListN.{length, get_or}
use Rattle.gf2.specs.Truth.{clash}
use Rattle.regular.specs.Accepted.{sizes_accepted}
use Rattle.regular.specs.Refusals.{RoomFault, Lowest, size_faults}
use Rattle.regular.specs.RefusalLaws.{lowest_none, none_lowest, lowest_at, lowest_first, lowest_then}
use Rattle.regular.specs.Smallest.{Equal, Entry, Catalogue}
use Rattle.regular.specs.Catalogues.{Catalogues}
use Rattle.smallest_laws.specs.Dictionary.{equal_sym, equal_before, before_equal, equal_trans}
use Rattle.smallest_laws.specs.Growth.{entry_equal}
use Rattle.smallest_laws.specs.Value.{value}
use Rattle.catalogue_laws.specs.Demand.{catalogue_unique}
use Rattle.catalogue_laws.specs.Listing.{model_catalogue}
use Rattle.catalogue_laws.specs.Model.{entries}
use Rattle.catalogue_laws.specs.Steps.{FirstEntry, bound}
use Rattle.catalogue_laws.specs.Walked.{Begun, edge, catalogued, begun_room, begun_first}
use Rattle.entries.specs.declared.WalkState.{WalkState}
use Rattle.entries.specs.Tracing.{StateOf}
use Rattle.entries.specs.Stepping.{StepAnswer}
use Rattle.regular.specs.Sizes.{Sized}
use Rattle.catalogue.specs.Turns.{from, NextFound, Stops, Turned, EntriesSoFar}

sized_never : (n g r : ℕ) → Sized n g r → (h : ℕ) → size_faults n g r h → ⊥
sized_never n g r s h f = none_lowest (size_faults n g r) (sizes_accepted n g r s) h f

-- what a turn answers
module _ (n g r i : ℕ) (room : Bool) (c : List ℕ) where
  pub turn_refused : (k : ℕ) (d : List ℕ) → (k ≡ 0 → ⊥) → k ≤ 3 → Lowest (size_faults n g r) k → (w : WalkState) → Turned n g r i room c false k d w
  turn_refused k d ne h l w = record { goes = λ e. absurd (clash e refl); stops = λ _. Stops.refused k (omega arith) h l }

  module _ (s : Sized n g r) (found : Bool) (e : List ℕ) (x : StepAnswer n (n - g) r (from i n c) found e) where
    pub turn_ended : found ≡ false → (d : List ℕ) (w : WalkState) → Turned n g r i room c false 0 d w
    turn_ended q d w = record { goes = λ e. absurd (clash e refl); stops = λ _. Stops.ended s (x.next.none q) }

    pub turn_full : found ≡ true → room ≡ false → (d : List ℕ) (w : WalkState) → Turned n g r i room c false 9 d w
    turn_full q f d w = record { goes = λ e. absurd (clash e refl); stops = λ _. Stops.full s f e (x.next.some q) }

    pub turn_goes : found ≡ true → room ≡ true → (k : ℕ) (w : WalkState) → StateOf (n - 1) e w → Turned n g r i room c true k e w
    turn_goes q f k w h = record { goes = λ _. record { room = f; sized = s; first = x.next.some q; followed = h }; stops = λ y. absurd (clash refl y) }

-- the entries, with d as the i-th
abbrev pub choose : Bool → List ℕ → List ℕ → List ℕ
choose true a b = a
choose false a b = b

abbrev pub with_entry : (ℕ → List ℕ) → ℕ → List ℕ → ℕ → List ℕ
with_entry all i d j = choose (eqb j i) d (all j)

pub with_same : (all : ℕ → List ℕ) (i : ℕ) (d : List ℕ) → with_entry all i d i ≡ d
with_same all i d = ap (λ (b : Bool). choose b d (all i)) (eq-eqb i i refl)

pub with_other : (all : ℕ → List ℕ) (i : ℕ) (d : List ℕ) (j : ℕ) → (j ≡ i → ⊥) → with_entry all i d j ≡ all j
with_other all i d j ne = ap (λ (b : Bool). choose b d (all j)) (ne_eqb j i ne)

-- one entry more
module _ (n m r i : ℕ) (all : ℕ → List ℕ) (d : List ℕ) (b : Begun n m r i all) (f : FirstEntry n m r (edge n all i) d) where
  edges : (j : ℕ) → j ≤ i → edge n (with_entry all i d) j ≡ edge n all j
  edges zero h = refl
  edges (suc j) h = ap (λ (x : List ℕ). suc (value n x)) (with_other all i d j (λ e. omega arith))

  pub begun_more : Begun n m r (i + 1) (with_entry all i d)
  begun_more j h =
      by_cases (ℕ_discrete j i)
      (λ e. subst (λ (k : ℕ). FirstEntry n m r (edge n (with_entry all i d) k) (with_entry all i d k)) (sym e)
      (subst (λ (v : ℕ). FirstEntry n m r v (with_entry all i d i)) (sym (edges i (omega arith)))
      (subst (λ (x : List ℕ). FirstEntry n m r (edge n all i) x) (sym (with_same all i d)) f)))
      (λ ne. subst (λ (v : ℕ). FirstEntry n m r v (with_entry all i d j)) (sym (edges j (omega arith)))
      (subst (λ (x : List ℕ). FirstEntry n m r (edge n all j) x) (sym (with_other all i d j ne)) (b j (omega arith))))

pub progress_none : (n g r : ℕ) (all : ℕ → List ℕ) (c : List ℕ) (state : WalkState) → StateOf 0 [] state → EntriesSoFar n g r 0 all c state
progress_none n g r all c state h = record {
  begun = λ j h. absurd (omega arith);
  last = refl;
  going = record { sized = λ e. absurd (clash e refl); held = λ e. absurd (clash e refl); start = λ _. h };
}

pub progress_more : (n g r i : ℕ) (all : ℕ → List ℕ) (room : Bool) (c d : List ℕ) (v w : WalkState) → EntriesSoFar n g r i all c v
    → NextFound n g r i room c d w → EntriesSoFar n g r (i + 1) (with_entry all i d) d w
progress_more n g r i all room c d v w p t = record {
  begun = begun_more n (n - g) r i all d p.begun (subst (λ (v : ℕ). FirstEntry n (n - g) r v d) (sym p.last) t.first);
  last = ap (edge n (with_entry all i d)) (add-one i)
      ∙ ap (λ (x : List ℕ). suc (value n x)) (with_same all i d)
      ∙ ap (λ (b : Bool). bound b n d) (sym (lt-ltb 0 (i + 1) (omega arith)));
  going = record { sized = λ _. t.sized; held = λ _. (t.first.held, t.followed); start = λ e. absurd (clash (lt-ltb 0 (i + 1) (omega arith)) e) };
}

-- the same entries
pub catalogue_equal : (n m r count : ℕ) (a b : ℕ → List ℕ) → ((i : ℕ) → i < count → Equal n (a i) (b i)) → Catalogue n m r count a → Catalogue n m r count b
catalogue_equal n m r count a b e k = record {
  sound = λ i h. entry_equal n m (a i) (b i) (e i h) r (k.sound i h);
  order = λ i j h l. equal_before n (b i) (a i) (b j) (equal_sym n (a i) (b i) (e i (omega arith)))
      (before_equal n (a i) (a j) (b j) (k.order i j h l) (e j l));
  complete = λ c h. let o = k.complete c h in
      (o.0, (o.1.0, equal_trans n (b o.0) (a o.0) c (equal_sym n (a o.0) (b o.0) (e o.0 o.1.0)) o.1.1));
}

-- where the loop stops: the answer, of which `room` and the entries in the list are the list's
module _ (n g r : ℕ) (room : ℕ → Type 0) (down : (a b : ℕ) → b ≤ a → room a → room b) (i : ℕ) (all : ℕ → List ℕ) (c : List ℕ) (state : WalkState)
    (p : EntriesSoFar n g r i all c state) (here : room i)
    (entry : ℕ → List ℕ) (same : (j : ℕ) → j < i → Equal n (all j) (entry j)) where
  stop_refused : (k : ℕ) → 0 < k → k ≤ 3 → Lowest (size_faults n g r) k → Catalogues n g r room entry k i
  stop_refused k a b l = record {
    lowest = lowest_first (size_faults n g r) (RoomFault n (n - g) r room) k a l (λ h f. room_9 h f);
    whole = λ e. absurd (omega arith);
    fits = λ e. absurd (omega arith);
    begins = λ e. absurd (omega arith);
    none = λ _ _. by_cases (ℕ_discrete i 0) (λ e. e) (λ ne. absurd (sized_never n g r (p.going.sized (lt-ltb 0 i (omega arith))) k (l.applies a)));
  }
    where
      room_9 : (h : ℕ) → RoomFault n (n - g) r room h → k ≤ h
      room_9 h (RoomFault.more t a x y) = omega arith

  stop_ended : Sized n g r → ((e : List ℕ) → Entry n (n - g) r e → from i n c ≤ value n e → ⊥) → Catalogues n g r room entry 0 i
  stop_ended s none = record {
    lowest = lowest_then (size_faults n g r) (RoomFault n (n - g) r room) 0 (sizes_accepted n g r s) (lowest_none (RoomFault n (n - g) r room) never);
    whole = λ _. catalogue_equal n (n - g) r i all entry same k;
    fits = λ _. here;
    begins = λ e. absurd (omega arith);
    none = λ h _. absurd (omega arith);
  }
    where
      k : Catalogue n (n - g) r i all
      k = catalogued n (n - g) r s.size.few i all p.begun (λ e h l. none e h (subst (λ (v : ℕ). v ≤ value n e) p.last l))

      never : (h : ℕ) → RoomFault n (n - g) r room h → ⊥
      never h (RoomFault.more t a x y) = y (subst room (catalogue_unique n (n - g) r i t all a k x).0 here)

  stop_full : Sized n g r → (room (suc i) → ⊥) → (d : List ℕ) → FirstEntry n (n - g) r (from i n c) d → Catalogues n g r room entry 9 i
  stop_full s past d f = record {
    lowest = lowest_then (size_faults n g r) (RoomFault n (n - g) r room) 9 (sizes_accepted n g r s)
        (lowest_at (RoomFault n (n - g) r room) 9 (omega arith)
        (RoomFault.more (length (entries n (n - g) r)) (λ j. get_or (entries n (n - g) r) j []) (model_catalogue n (n - g) r)
        (λ h. past (down (length (entries n (n - g) r)) (suc i) more h)))
        is_9);
    whole = λ e. absurd (omega arith);
    fits = λ e. absurd (omega arith);
    begins = λ _. record {
      fits = here;
      full = past;
      first = λ t a k j h.
          equal_trans n (entry j) (all j) (a j) (equal_sym n (all j) (entry j) (same j h)) (begun_first n (n - g) r s.size.few i all p.begun t a k j h);
    };
    none = λ _ h. absurd (omega arith);
  }
    where
      more : suc i ≤ length (entries n (n - g) r)
      more =
          let b = begun_more n (n - g) r i all d p.begun (subst (λ (v : ℕ). FirstEntry n (n - g) r v d) (sym p.last) f) in
          omega (
            arith,
            begun_room n (n - g) r s.size.few (i + 1) (with_entry all i d) b (length (entries n (n - g) r))
                (λ j. get_or (entries n (n - g) r) j []) (model_catalogue n (n - g) r),
          )

      is_9 : (h : ℕ) → RoomFault n (n - g) r room h → 9 ≤ h
      is_9 h (RoomFault.more t a x y) = omega arith

  pub stopped : (number : ℕ) (left : Bool) → (Sized n g r → left ≡ false → room (suc i) → ⊥) → Stops n g r i left c number
      → Catalogues n g r room entry number i
  stopped number left past (Stops.refused k a b l) = stop_refused k a b l
  stopped number left past (Stops.ended s h) = stop_ended s h
  stopped number left past (Stops.full s f d h) = stop_full s (past s f) d h
