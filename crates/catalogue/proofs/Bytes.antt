-- Laws of the loop over the bytes. Assumes nothing.
use mathlib.Core.Path.{◌≡◌, refl, sym, ap, subst, ◌∙◌}
use mathlib.Core.Logic.{by_cases}
use mathlib.Core.List.{List, []}
use Prim.Native.Nat.{ℕ, suc, ◌+◌, ◌≤◌}
use native.Mathlib.Decide.{ℕ_discrete}
use native.Mathlib.Numerals.{add-one}
use native.Mathlib.Omega.{arith}
use borrow.Author.Tests.{ltb-true, ltb-false}
use lib.Dec.{ltb}
use lib.ListN.{length, get_or, drop}
use lib.Seq.{drop-drop}
use Rattle.regular.specs.Catalogues.{ListsBytes}
use Rattle.regular.specs.PlanBytes.{plan_bytes, plan_start, plan_at, HasPlan, plan_count, mask_in}
use Rattle.regular.specs.Smallest.{Equal}
use Rattle.entries.specs.declared.WalkState.{WalkState}
use Rattle.entries.specs.Tracing.{StateOf}
use Rattle.plan_layout.specs.Places.{start_first, start_next, start_order, count_held, held_count}
use Rattle.plan_layout.specs.Put.{PlanPut}
use Rattle.catalogue.specs.Turns.{NextFound, Stops, FillingBytes}
use Rattle.catalogue.proofs.Turns.{with_entry, with_same, with_other, progress_none, progress_more, stopped}

pub filling_none : (n g r : ℕ) (v c : List ℕ) (state : WalkState) → StateOf 0 [] state → FillingBytes n g r v v 0 c state
filling_none n g r v c state h = record {
  all = λ _. [];
  progress = progress_none n g r (λ _. []) c state h;
  room = omega (arith, start_first n);
  size = refl;
  entries = λ j h. absurd (omega arith);
  unswitched = λ j h. absurd (omega arith);
  rest = refl;
}

module _ (n g r : ℕ) (v w : List ℕ) (i : ℕ) (c : List ℕ) (state : WalkState) (x : FillingBytes n g r v w i c state) (places : ℕ)
    (e : places ≡ plan_count n (length v)) where
  -- there is room for the next entry
  pub filling_room : (d : List ℕ) (next : WalkState) → NextFound n g r i (ltb i places) c d next → HasPlan n w i
  filling_room d next t =
      let there = count_held n (length v) i (omega (arith, e, ltb-true i places t.room)) in
      omega (arith, there, x.size)

  later : drop (plan_start n (suc i)) w ≡ drop (plan_start n (suc i)) v
  later =
      let k = plan_start n i in
      ap (λ (j : ℕ). drop j w) (start_next n i) ∙ sym (drop-drop (plan_bytes n) k w) ∙ ap (drop (plan_bytes n)) x.rest
      ∙ drop-drop (plan_bytes n) k v ∙ ap (λ (j : ℕ). drop j v) (sym (start_next n i))

  pub filling_more : (d w' : List ℕ) (next : WalkState) → NextFound n g r i (ltb i places) c d next → PlanPut n d 0 i w w'
      → FillingBytes n g r v w' (i + 1) d next
  filling_more d w' next t put = record {
    all = with_entry x.all i d;
    progress = progress_more n g r i x.all (ltb i places) c d state next x.progress t;
    room = subst (λ (k : ℕ). plan_start n k ≤ length v) (sym (add-one i)) (omega (arith, filling_room d next t, x.size));
    size = put.size ∙ x.size;
    entries = λ j h. by_cases (ℕ_discrete j i)
        (λ z. subst (λ (k : ℕ). Equal n (with_entry x.all i d k) (plan_at n w' k)) (sym z)
        (λ f l. ap (λ (y : List ℕ). get_or y f 0) (with_same x.all i d) ∙ sym (put.plan f l)))
        (λ ne f l. ap (λ (y : List ℕ). get_or y f 0) (with_other x.all i d j ne) ∙ x.entries j (omega arith) f l
        ∙ ap (λ (y : List ℕ). get_or y f 0) (sym (put.earlier j (omega arith))));
    unswitched = λ j h. by_cases (ℕ_discrete j i) (λ z. ap (λ (k : ℕ). mask_in n (plan_at n w' k)) z ∙ put.mask)
        (λ ne. ap (mask_in n) (put.earlier j (omega arith)) ∙ x.unswitched j (omega arith));
    rest = subst (λ (k : ℕ). drop (plan_start n k) w' ≡ drop (plan_start n k) v) (sym (add-one i)) (put.rest ∙ later);
  }

  pub filling_stops : (number : ℕ) → Stops n g r i (ltb i places) c number → ListsBytes n g r v w number i
  filling_stops number s = record {
    catalogues = stopped n g r (λ k. plan_start n k ≤ length v) (λ a b h l. omega (arith, l, start_order n b a h)) i x.all c state
        x.progress x.room (plan_at n w) x.entries number (ltb i places)
        (λ z q l. omega (arith, e, ltb-false i places q, held_count n (length v) i z.size.some l)) s;
    unswitched = x.unswitched;
    rest = x.rest;
    size = x.size;
  }
