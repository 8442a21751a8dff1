-- Laws of the writer: the entries so far and one more, the refusal's number, and the book that stands at the end.
use Rattle.std.specs.Prelude.{ℕ, suc, ◌+◌, ◌*◌, ◌≤◌, ◌<◌, ◌≡◌, refl, List, [], ◌++◌, length, take, drop}
use Rattle.std.proofs.Common.{sym, ap, ap₂, subst, ◌∙◌, ⊎_elim, suc-mul, mul-le-mul_right, add-one, arith, length-append}
use Rattle.std.proofs.Math.Logic.{by_cases}
use Rattle.std.proofs.Math.Decide.{dec_lt}
use Rattle.regular.specs.Refusals.{either, Lowest}
use Rattle.regular.specs.RefusalLaws.{lowest_none, lowest_at, lowest_lower, lower_none}
use Rattle.lent.specs.Lending.{lending_lowest, lending_accepted}
use Rattle.regular.specs.Book.{header, header_length, entry_length, BookEntry, book_length, most_plans, CountFault, book_faults, Writes}
use Rattle.book.specs.Over.{over, over_none, put_then, over_length, over_begins, over_rest}
use Rattle.book.specs.Writing.{PutEntry, BookRefusal, Opened, Written}
use Rattle.book.specs.EntryLaws.{entries_none, entries_more, entries_length}

-- the entries so far
pub written_none : (n : ℕ) (entry : ℕ → BookEntry) (v : List ℕ) → Written n entry 0 v v header_length
written_none n entry v =
    record { body = []; entries = entries_none n entry; bytes = sym (over_none header_length v); place = omega arith }

module _ {n : ℕ} {entry : ℕ → BookEntry} {i : ℕ} {v w : List ℕ} {at : ℕ} (x : Written n entry i v w at) where
  pub written_size : book_length n i ≤ length v → length w ≡ length v
  written_size h = ap length x.bytes ∙ over_length header_length x.body v (omega (arith, entries_length x.entries))

  -- one more
  pub written_more : {w' : List ℕ} {to : ℕ} → PutEntry n (entry i) at w w' to → Written n entry (i + 1) v w' to
  written_more {w'} {to} put = record {
    body = x.body ++ put.bytes;
    entries = entries_more x.entries put.are;
    bytes = put.stand ∙ ap₂ (λ (k : ℕ) (l : List ℕ). over k put.bytes l) x.place x.bytes
        ∙ put_then header_length (i * entry_length n) x.body put.bytes v (entries_length x.entries);
    place = put.next ∙ omega (arith, x.place, suc-mul i (entry_length n), ap (λ (k : ℕ). k * entry_length n) (add-one i));
  }

-- room for one entry more
pub entry_room_lem : (n i count : ℕ) → i < count → book_length n i + entry_length n ≤ book_length n count
entry_room_lem n i count h = omega (arith, suc-mul i (entry_length n), mul-le-mul_right {m = suc i} {n = count} (entry_length n) h)

-- the refusal
count_is : (count k : ℕ) → CountFault count k → k ≡ 4
count_is count k (CountFault.many h) = refl

count_least : (count k : ℕ) → CountFault count k → most_plans < count
count_least count k (CountFault.many h) = h

pub many_four : (count : ℕ) → most_plans < count → Lowest (CountFault count) 4
many_four count h = lowest_at (CountFault count) 4 (omega arith) (CountFault.many h) (λ k f. omega (arith, count_is count k f))

pub many_none : (count : ℕ) → count ≤ most_plans → Lowest (CountFault count) 0
many_none count h = lowest_none (CountFault count) (λ k f. omega (arith, count_least count k f))

-- a count that is no fault fits 16 bits
pub count_few : (count k : ℕ) → k ≡ 0 → Lowest (CountFault count) k → count ≤ most_plans
count_few count k e l = by_cases (dec_lt most_plans count) (λ h. absurd (omega (arith, l.least 4 (CountFault.many h)))) (λ h. omega arith)

module _ (plans : ℕ → Type 0) (n count number k : ℕ) (out : List ℕ) (most : (j : ℕ) → plans j → j ≤ 7) (own : Lowest plans number)
    (f : BookRefusal n count number (length out) k) where
  low_lowest : Lowest (either plans (CountFault count)) f.low
  low_lowest = lowest_lower plans (CountFault count) number f.many f.low own f.counted f.lower

  refusal_lowest : Lowest (book_faults plans n count out) k
  refusal_lowest =
      lending_lowest (either plans (CountFault count)) f.low (book_length n count) out k low_lowest
      (λ j e. ⊎_elim (λ p. omega (arith, most j p)) (λ c. omega (arith, count_is count j c)) e) f.lending

-- where nothing is refused: the plans have no fault, the count fits, there is room
pub record BookAccepted (n count number places : ℕ) : Type 0 where
  pub plans : number ≡ 0
  pub few : count ≤ most_plans
  pub room : book_length n count ≤ places

pub refusal_none : (n count number places k : ℕ) → k ≡ 0 → BookRefusal n count number places k → BookAccepted n count number places
refusal_none n count number places k e f =
    let l = lending_accepted f.low (book_length n count) places k f.lending e in
    let z = lower_none number f.many f.low f.lower l.0 in
    record { plans = z.0; few = count_few count f.many z.1 f.counted; room = l.1 }

-- after the header the room is as before
pub begun_room : {n g r count number k used : ℕ} {v w : List ℕ} → Opened n g r count number v w k used → k ≡ 0 → book_length n count ≤ length w
begun_room {n} {g} {r} {count} {number} {k} {used} {v} {w} b e =
    let z = refusal_none n count number (length v) k e b.refusal in
    omega (arith, z.room, ap length (b.begun e).1, over_length 0 (header n g r count) v (omega (arith, z.room)))

-- a refused call
pub writes_refused : {plans : ℕ → Type 0} {n g r count number k used : ℕ} {entry : ℕ → BookEntry} {v w : List ℕ}
    → ((j : ℕ) → plans j → j ≤ 7) → Lowest plans number → Opened n g r count number v w k used → (k ≡ 0 → ⊥) → Writes plans n g r count entry v w k used
writes_refused {plans} {n} {g} {r} {count} {number} {k} {used} {entry} {v} {w} most own b some =
    let z = b.refused (omega arith) in
    record {
      lowest = refusal_lowest plans n count number k v most own b.refusal;
      refused = λ _. z;
      whole = λ e. absurd (some e);
      book = λ e. absurd (some e);
      rest = ap (drop used) z.1;
      size = ap length z.1;
    }

-- an accepted one: the header, then the entries
pub writes_book : {plans : ℕ → Type 0} {n g r count number k used at : ℕ} {entry : ℕ → BookEntry} {v w u : List ℕ}
    → ((j : ℕ) → plans j → j ≤ 7) → Lowest plans number → Opened n g r count number v w k used → k ≡ 0 → Written n entry count w u at
    → Writes plans n g r count entry v u 0 at
writes_book {plans} {n} {g} {r} {count} {number} {k} {used} {at} {entry} {v} {w} {u} most own b e x = record {
  lowest = subst (Lowest (book_faults plans n count v)) e (refusal_lowest plans n count number k v most own b.refusal);
  refused = λ h. absurd (omega arith);
  whole = λ _. x.place;
  book = λ _. record { body = x.body; entries = x.entries; bytes = ap₂ take long all ∙ over_begins zs v };
  rest = ap₂ drop long all ∙ over_rest zs v ∙ ap (λ (m : ℕ). drop m v) (sym long);
  size = ap length all ∙ over_length 0 zs v (omega (arith, long, x.place, (refusal_none n count number (length v) k e b.refusal).room));
}
  where
    zs : List ℕ
    zs = header n g r count ++ x.body

    long : at ≡ length zs
    long = x.place ∙ sym (length-append (header n g r count) x.body ∙ omega (arith, entries_length x.entries))

    all : u ≡ over 0 zs v
    all = x.bytes ∙ ap (over header_length x.body) (b.begun e).1 ∙ put_then 0 header_length (header n g r count) x.body v refl
