-- Laws of the loop over design records. Assumes nothing.
use Rattle.std.proofs.Common.{◌≡◌, refl, sym, ap, subst, ◌∙◌, List, [], ℕ, ◌+◌, ◌-◌, ◌≤◌, ◌<◌, length, get_or}
use Rattle.std.proofs.Common.{Bool, true, false, not}
use Rattle.std.proofs.Common.{drop, set, arith, length-set, get_or-set_same, get_or-set_other}
use Rattle.std.proofs.Math.Logic.{by_cases}
use Rattle.std.proofs.Math.Decide.{ℕ_discrete}
use Rattle.std.proofs.Math.Seq.{drop-set-lt, drop-drop}
use Rattle.std.proofs.Math.Dec.{T, ltb}
use borrow.Author.Tests.{ltb-true, ltb-false}
use Rattle.gf2.specs.Truth.{clash}
use Rattle.regular.specs.Designs.{Holds, design_of, blank, design_holds}
use Rattle.regular.specs.declared.Design.{Design}
use Rattle.regular.specs.declared.CatalogueAnswer.{CatalogueAnswer}
use Rattle.regular.specs.Smallest.{Entry}
use Rattle.entries.specs.declared.WalkState.{WalkState}
use Rattle.entries.specs.Tracing.{StateOf}
use Rattle.regular.specs.Catalogues.{ListsDesigns}
use Rattle.catalogue.specs.Turns.{NextFound, Stops, Turned}
use Rattle.catalogue.specs.Records.{FillingRecords}
use Rattle.catalogue.proofs.Turns.{with_entry, with_same, with_other, progress_none, progress_more, stopped}

pub holds : (t : Bool) → T t → t ≡ true
holds true _ = refl
holds false a = absurd a

pub fails : (t : Bool) → T (not t) → t ≡ false
fails true a = absurd a
fails false _ = refl

-- what a turn of the loop gives: if it found, the next entry's record and the state to it; else the answer, where the list ends
pub record StepAnswers (n g r i len : ℕ) (c : List ℕ) (found : Bool) (design : Design) (state : WalkState) (answer : CatalogueAnswer) : Type 0 where
  pub goes : found ≡ true → NextFound n g r i (ltb i len) c design.columns state
  pub made : found ≡ true → design ≡ design_of n (n - g) design.columns
  pub stops : found ≡ false → Stops n g r i (ltb i len) c answer.number
  pub count : answer.count ≡ i

-- what a turn answers
module _ (n g r i len : ℕ) (c : List ℕ) where
  pub stepped_stops : (found : Bool) (number : ℕ) (d : List ℕ) (w : WalkState) → Turned n g r i (ltb i len) c found number d w → found ≡ false
      → (kept : Design) (state : WalkState) → StepAnswers n g r i len c false kept state (record { number = number; count = i })
  stepped_stops found number d w t e kept state = record {
    goes = λ q. absurd (clash q refl);
    made = λ q. absurd (clash q refl);
    stops = λ _. t.stops e;
    count = refl;
  }

  pub stepped_goes : (found : Bool) (number : ℕ) (d : List ℕ) (w : WalkState) (made : Design) → made ≡ design_of n (n - g) d
      → Turned n g r i (ltb i len) c found number d w → found ≡ true → StepAnswers n g r i len c true made w (record { number = 0; count = i })
  stepped_goes found number d w made p t e = subst (λ (x : Design). StepAnswers n g r i len c true x w (record { number = 0; count = i })) (sym p) (record {
    goes = λ _. t.goes e;
    made = λ _. refl;
    stops = λ y. absurd (clash refl y);
    count = refl;
  })

-- the loop
pub listing_none : (n g r : ℕ) (ys : List Design) (c : List ℕ) (state : WalkState) → StateOf 0 [] state → FillingRecords n g r ys ys 0 c state
listing_none n g r ys c state h = record {
  all = λ _. [];
  progress = progress_none n g r (λ _. []) c state h;
  room = omega arith;
  size = refl;
  records = λ j h. absurd (omega arith);
  rest = refl;
}

module _ (n g r : ℕ) (ys zs : List Design) (i : ℕ) (c : List ℕ) (state : WalkState) (x : FillingRecords n g r ys zs i c state) where
  pub listing_room : (d : List ℕ) (next : WalkState) → NextFound n g r i (ltb i (length ys)) c d next → i < length ys
  listing_room d next t = ltb-true i (length ys) t.room

  pub listing_more : (d : List ℕ) (next : WalkState) (made : Design) → NextFound n g r i (ltb i (length ys)) c d next → made ≡ design_of n (n - g) d
      → FillingRecords n g r ys (set zs i made) (i + 1) d next
  listing_more d next made t e =
      let zs' = set zs i made in
      let h = listing_room d next t in
      let new : get_or zs' i blank ≡ made = get_or-set_same zs i made blank (omega (arith, x.size)) in
      let old : (j : ℕ) → (j ≡ i → ⊥) → get_or zs' j blank ≡ get_or zs j blank = λ j ne. get_or-set_other zs i j made blank ne in
      let all = with_entry x.all i d in
      record {
        all = all;
        progress = progress_more n g r i x.all (ltb i (length ys)) c d state next x.progress t;
        room = omega arith;
        size = length-set zs i made ∙ x.size;
        records = λ j l. by_cases (ℕ_discrete j i)
            (λ q. subst (λ (k : ℕ). get_or zs' k blank ≡ design_of n (n - g) (all k)) (sym q)
            (new ∙ e ∙ ap (design_of n (n - g)) (sym (with_same x.all i d))))
            (λ ne. old j ne ∙ x.records j (omega arith) ∙ ap (design_of n (n - g)) (sym (with_other x.all i d j ne)));
        rest = drop-set-lt (i + 1) zs i made (omega arith) ∙ sym (drop-drop 1 i zs) ∙ ap (drop 1) x.rest ∙ drop-drop 1 i ys;
      }

  pub listing_stops : (number : ℕ) → Stops n g r i (ltb i (length ys)) c number → ListsDesigns n g r ys zs number i
  listing_stops number s = record {
    catalogues = stopped n g r (λ k. k ≤ length ys) (λ a b h l. omega arith) i x.all c state x.progress x.room
        (λ j. (get_or zs j blank).columns)
        (λ j h f l. ap (λ (y : Design). get_or y.columns f 0) (sym (x.records j h))) number (ltb i (length ys))
        (λ _ q l. omega (arith, ltb-false i (length ys) q)) s;
    records = λ j h.
        let b = (x.progress.begun j h).held in
        subst (Holds n (n - g) (Entry n (n - g) r)) (sym (x.records j h)) (design_holds n (n - g) (Entry n (n - g) r) (x.all j) b.entry b.rest);
    rest = x.rest;
    size = x.size;
  }
