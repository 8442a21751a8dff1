-- Laws of the book of design records: what is known before each record's turn, one record more, and the answer at the end.
use Rattle.std.specs.Prelude.{ℕ, ◌+◌, ◌≤◌, ◌<◌, true, ◌≡◌, refl, List, length, get_or}
use Rattle.std.proofs.Common.{sym, subst, ◌∙◌, arith}
use Rattle.std.proofs.Math.Logic.{by_cases}
use Rattle.std.proofs.Math.Decide.{ℕ_discrete}
use Rattle.regular.specs.Designs.{blank}
use Rattle.regular.specs.Refusals.{Lowest, design_faults}
use Rattle.regular.specs.PlanLists.{wanted_records_faults}
use Rattle.regular.specs.Book.{entry_length, BookEntry, entry_of_design, WritesDesigns}
use Rattle.regular.specs.declared.Design.{Design}
use Rattle.plan_lists.specs.Accepted.{AcceptedRecords, records_accepted, records_most}
use Rattle.book.specs.Writing.{Opened, Written, EntryAdded}
use Rattle.book.specs.WritingLaws.{entry_room_lem, refusal_none, begun_room, written_none, written_more, written_size, writes_refused, writes_book}

-- the sizes of a list that is accepted
pub records_bounds : (n g r number : ℕ) (list : List Design) → Lowest (wanted_records_faults n g r true list) number → number ≡ 0
    → (n ≤ 16) × (g ≤ 16) × (r ≤ 16)
records_bounds n g r number list l e =
    let b = (records_accepted n g r list (subst (Lowest (wanted_records_faults n g r true list)) e l)).bounds in
    (b.size.most, omega (arith, b.size.less, b.size.most), b.high)

abbrev record_entry : ℕ → ℕ → List Design → ℕ → BookEntry
record_entry n g list i = entry_of_design n g (get_or list i blank)

-- before the turn of record i: refused, and nothing was written; or the header and the entries of the records before it stand
pub record BookSoFar (n g r : ℕ) (list : List Design) (v w : List ℕ) (i number used : ℕ) : Type 0 where
  pub first : ℕ
  pub own : Lowest (wanted_records_faults n g r true list) first
  pub start : List ℕ
  pub at : ℕ
  pub begins : Opened n g r (length list) first v start number at
  pub refused : 0 < number → (used ≡ at) × (w ≡ start)
  pub going : number ≡ 0 → Written n (record_entry n g list) i start w used

pub so_far_start : {n g r first number used : ℕ} {list : List Design} {v w : List ℕ} → Lowest (wanted_records_faults n g r true list) first
    → Opened n g r (length list) first v w number used → BookSoFar n g r list v w 0 number used
so_far_start {n} {g} {r} {first} {number} {used} {list} {v} {w} own b = record {
  first = first;
  own = own;
  start = w;
  at = used;
  begins = b;
  refused = λ _. (refl, refl);
  going = λ e. subst (Written n (record_entry n g list) 0 w w) (sym (b.begun e).0) (written_none n (record_entry n g list) w);
}

module _ {n g r : ℕ} {list : List Design} {v w : List ℕ} {i number used : ℕ} (x : BookSoFar n g r list v w i number used) where
  accepted : number ≡ 0 → AcceptedRecords n g r list
  accepted e =
      let z = (refusal_none n (length list) x.first (length v) number e x.begins.refusal).plans in
      records_accepted n g r list (subst (Lowest (wanted_records_faults n g r true list)) z x.own)

  -- there is room for one more entry
  pub so_far_room : i < length list → number ≡ 0 → Lowest (design_faults n g (get_or list i blank)) 0 × (used + entry_length n ≤ length w)
  so_far_room h e =
      let room = begun_room x.begins e in
      let more = entry_room_lem n i (length list) h in
      ((accepted e).plan i h, omega (arith, (x.going e).place, more, room, written_size (x.going e) (omega (arith, more, room))))

  pub so_far_more : {w' : List ℕ} {k to : ℕ} → EntryAdded n g (get_or list i blank) number used w w' k to → BookSoFar n g r list v w' (i + 1) k to
  so_far_more {w'} {k} {to} a =
      by_cases (ℕ_discrete number 0)
      (λ e. let p = a.added e in record {
        first = x.first;
        own = x.own;
        start = x.start;
        at = x.at;
        begins = subst (λ (m : ℕ). Opened n g r (length list) x.first v x.start m x.at) (e ∙ sym p.0) x.begins;
        refused = λ h. absurd (omega (arith, p.0));
        going = λ _. written_more (x.going e) p.1;
      })
      (λ ne. let p = a.refused (omega arith) in record {
        first = x.first;
        own = x.own;
        start = x.start;
        at = x.at;
        begins = subst (λ (m : ℕ). Opened n g r (length list) x.first v x.start m x.at) (sym p.0) x.begins;
        refused = λ _. let q = x.refused (omega arith) in (p.1 ∙ q.0, p.2 ∙ q.1);
        going = λ e. absurd (ne (sym p.0 ∙ e));
      })

  pub so_far_end : i ≡ length list → WritesDesigns n g r list v w number used
  so_far_end e =
      by_cases (ℕ_discrete number 0)
      (λ z. subst (λ (m : ℕ). WritesDesigns n g r list v w m used) (sym z)
      (writes_book (records_most n g r true list) x.own x.begins z
      (subst (λ (m : ℕ). Written n (record_entry n g list) m x.start w used) e (x.going z))))
      (λ ne. let q = x.refused (omega arith) in
      writes_refused (records_most n g r true list) x.own
      (subst (λ (m : ℕ). Opened n g r (length list) x.first v w number m) (sym q.0)
      (subst (λ (l : List ℕ). Opened n g r (length list) x.first v l number x.at) (sym q.1) x.begins)) ne)
