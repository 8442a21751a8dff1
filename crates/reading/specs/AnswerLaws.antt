-- Laws of the reader's answers: a refusal, what the header says, and what follows it.
use Rattle.std.specs.Prelude.{ℕ, ◌+◌, ◌*◌, ◌≤◌, ◌<◌, ◌≡◌, refl, Bool, true, false, List, length, get_or}
use Rattle.std.proofs.Common.{sym, ap, subst, ◌∙◌, ⊎_elim, arith}
use Rattle.std.proofs.Math.Logic.{by_cases}
use Rattle.std.proofs.Math.Decide.{ℕ_discrete}
use Rattle.gf2.specs.Answers.{Tells}
use Rattle.gf2.specs.Truth.{clash, told}
use Rattle.regular.specs.Accepted.{accepted_sizes}
use Rattle.regular.specs.Book.{header_kind, header_length, columns_length, book_length}
use Rattle.regular.specs.PlanBytes.{byte_values}
use Rattle.regular.specs.InTurn.{Check, InTurn}
use Rattle.regular.specs.InTurnLaws.{turn_zero, refuses, goes_on}
use Rattle.regular.specs.Refusals.{Lowest, size_faults}
use Rattle.regular.specs.RefusalLaws.{none_lowest}
use Rattle.regular.specs.Reading.{RecordAt, HeaderChecks, factors_in, generators_in, resolution_in, count_in, EntriesChecks, Reading}
use Rattle.regular.specs.ReadingAnswers.{refused_book}
use Rattle.regular.specs.Sizes.{Sized}
use Rattle.regular.specs.declared.ReadAnswer.{ReadAnswer}
use Rattle.reading_laws.specs.Taken.{read_sized, read_columns_lem}
use Rattle.reading.specs.Answers.{EntryThere, header_with, header_of, HeaderRead, Answered, Judged}

answered_refused : {checks : ℕ → Type 0} {book : List ℕ} (k : ℕ) (a : ReadAnswer) → a ≡ refused_book k → checks k → (k ≡ 0 → ⊥) → Answered checks book a
answered_refused {checks} {book} k a e c ne = subst (Answered checks book) (sym e) (record {
  number = c;
  refused = λ _. refl;
  header = λ z. absurd (ne z);
  few = omega arith;
  low = λ z. absurd (ne z);
})

answered_header : {checks : ℕ → Type 0} {book : List ℕ} (a : ReadAnswer) → HeaderRead book a → checks 0 → Answered checks book a
answered_header {checks} {book} a h c = record {
  number = subst (λ (x : ReadAnswer). checks x.number) (sym h.is) c;
  refused = λ l. absurd (omega (arith, ap (λ (x : ReadAnswer). x.number) h.is));
  header = λ _. h.is;
  few = h.few;
  low = λ _. h.low;
}

-- four numbers for equal ones
for_equal : (P : ℕ → ℕ → ℕ → ℕ → Type 0) {n g r k n' g' r' k' : ℕ} → n ≡ n' → g ≡ g' → r ≡ r' → k ≡ k' → P n g r k → P n' g' r' k'
for_equal P {n} {g} {r} {k} {n'} {g'} {r'} {k'} e f h l p =
    subst (P n' g' r') l (subst (λ (x : ℕ). P n' g' x k) h (subst (λ (x : ℕ). P n' x r k) f (subst (λ (x : ℕ). P x g r k) e p)))

-- the header's bytes
pub header_made : (book : List ℕ) (low high : ℕ) → (low ≡ get_or book 4 0) × (low < 256) → (high ≡ get_or book 5 0) × (high < 256)
    → HeaderRead book (header_with book (low + byte_values * high))
header_made book low high l h =
    let count : low + byte_values * high ≡ count_in book = omega (arith, l.0, h.0) in
    record { is = ap (header_with book) count; few = omega (arith, l.1, h.1); low = omega (arith, l.0, l.1) }

-- the header's two judgements
module _ (book : List ℕ) (k : ℕ) (here : RecordAt header_kind header_length book 0 k) where
  pub opened_other : (a : ReadAnswer) → a ≡ refused_book k → (k ≡ 0 → ⊥) → Answered (HeaderChecks book) book a
  opened_other a e ne = answered_refused k a e (refuses k ne here) ne

  module _ (whole : k ≡ 0) (header : ReadAnswer) (read : HeaderRead book header) (n g r b : ℕ)
      (sizes : (n ≡ header.factors) × (g ≡ header.generators) × (r ≡ header.resolution)) (low : Lowest (size_faults n g r) b) where
    bounds : HeaderChecks book b
    bounds = goes_on k b whole here (for_equal (λ n g r b. Lowest (size_faults n g r) b) (sizes.0 ∙ ap (λ (a : ReadAnswer). a.factors) read.is)
        (sizes.1 ∙ ap (λ (a : ReadAnswer). a.generators) read.is) (sizes.2 ∙ ap (λ (a : ReadAnswer). a.resolution) read.is) refl low)

    pub opened_bounds : (a : ReadAnswer) → a ≡ refused_book b → (b ≡ 0 → ⊥) → Answered (HeaderChecks book) book a
    opened_bounds a e ne = answered_refused b a e bounds ne

    pub opened : b ≡ 0 → Answered (HeaderChecks book) book header
    opened e = answered_header header read (subst (HeaderChecks book) e bounds)

-- what the header says, by the numbers that it says
module _ {checks : ℕ → Type 0} {book : List ℕ} {a : ReadAnswer} (x : Answered checks book a) (e : a.number ≡ 0) where
  abbrev field : (f : ReadAnswer → ℕ) → f a ≡ f (header_of book)
  field f = ap f (x.header e)

  pub said : (P : ℕ → ℕ → ℕ → ℕ → Type 0) → P (factors_in book) (generators_in book) (resolution_in book) (count_in book)
      → P a.factors a.generators a.resolution a.count
  said P = for_equal P (sym (field (λ a. a.factors))) (sym (field (λ a. a.generators))) (sym (field (λ a. a.resolution))) (sym (field (λ a. a.count)))

  pub says : (P : ℕ → ℕ → ℕ → ℕ → Type 0) → P a.factors a.generators a.resolution a.count
      → P (factors_in book) (generators_in book) (resolution_in book) (count_in book)
  says P = for_equal P (field (λ a. a.factors)) (field (λ a. a.generators)) (field (λ a. a.resolution)) (field (λ a. a.count))

-- the entries, judged by the header's numbers
module _ (book : List ℕ) (header : ReadAnswer) (x : Answered (HeaderChecks book) book header) (room : Bool) where
  abbrev Due : ℕ → Type 0
  Due = EntriesChecks (factors_in book) (generators_in book) (resolution_in book) book 0 (count_in book)

  pub judged_header : (header.number ≡ 0 → ⊥) → Judged book header room header
  judged_header ne = record { stays = λ _. refl; cramped = λ e. absurd (ne e); entries = λ e. absurd (ne e) }

  module _ (e : header.number ≡ 0) where
    pub judged_cramped : room ≡ false → (a : ReadAnswer) → a ≡ refused_book 8 → Judged book header room a
    judged_cramped b a is = record { stays = λ h. absurd (omega arith); cramped = λ _ _. is; entries = λ _ c. absurd (clash c b) }

    module _ (b : room ≡ true) (n g r k : ℕ) (sizes : (n ≡ header.factors) × (g ≡ header.generators) × (r ≡ header.resolution)) where
      judged_by : (a : ReadAnswer) → Answered Due book a → Judged book header room a
      judged_by a y = record { stays = λ h. absurd (omega arith); cramped = λ _ c. absurd (clash b c); entries = λ _ _. y }

      pub judged_sized : Sized n g r
      judged_sized =
          for_equal (λ n g r _. Sized n g r) {k = 0} (sym sizes.0) (sym sizes.1) (sym sizes.2) refl
          (said x e (λ n g r _. Sized n g r) (accepted_sizes (factors_in book) (generators_in book) (resolution_in book)
          (none_lowest (size_faults (factors_in book) (generators_in book) (resolution_in book)) (turn_zero (subst (HeaderChecks book) e x.number)).1)))

      module _ (c : EntriesChecks n g r book 0 header.count k) where
        checked : Due k
        checked = says x e (λ n g r count. EntriesChecks n g r book 0 count k)
            (for_equal (λ n g r count. EntriesChecks n g r book 0 count k) sizes.0 sizes.1 sizes.2 refl c)

        pub judged_refused : (k ≡ 0 → ⊥) → (a : ReadAnswer) → a ≡ refused_book k → Judged book header room a
        judged_refused ne a is = judged_by a (answered_refused k a is checked ne)

        pub judged_taken : k ≡ 0 → Judged book header room header
        judged_taken z = judged_by header (record {
          number = subst Due (z ∙ sym e) checked;
          refused = λ h. absurd (omega arith);
          header = x.header;
          few = x.few;
          low = x.low;
        })

-- a refused header is the answer
pub answered_stays : (takes : ℕ → ℕ → ℕ) (places : ℕ) (book : List ℕ) (header : ReadAnswer) → Answered (HeaderChecks book) book header
    → (header.number ≡ 0 → ⊥) → Answered (Reading takes places book) book header
answered_stays takes places book header x ne =
    answered_refused header.number header (x.refused (omega arith)) (refuses header.number ne x.number) ne

-- header, room and entries make the reading
pub answered : (takes : ℕ → ℕ → ℕ) (places : ℕ) (book : List ℕ) (header : ReadAnswer) (room : Bool) (a : ReadAnswer)
    → Answered (HeaderChecks book) book header → Judged book header room a
    → Tells room (takes header.factors header.count ≤ places) (takes header.factors header.count ≤ places → ⊥)
    → Answered (Reading takes places book) book a
answered takes places book header room a x j fits = by_cases (ℕ_discrete header.number 0) goes stays
  where
    stays : (header.number ≡ 0 → ⊥) → Answered (Reading takes places book) book a
    stays ne =
        let e = x.refused (omega arith) in
        answered_refused header.number a (j.stays (omega arith) ∙ e) (refuses header.number ne x.number) ne

    goes : header.number ≡ 0 → Answered (Reading takes places book) book a
    goes e = ⊎_elim roomy cramped (told room)
      where
        cramped : room ≡ false → Answered (Reading takes places book) book a
        cramped b = answered_refused 8 a (j.cramped e b) (goes_on header.number 8 e x.number
            (refuses 8 (λ z. omega arith) (Check.fails (λ h. fits.1 b (said x e (λ n g r count. takes n count ≤ places) h))))) (λ z. omega arith)

        roomy : room ≡ true → Answered (Reading takes places book) book a
        roomy b =
            let y = j.entries e b in
            record {
              number = goes_on header.number a.number e x.number
                  (InTurn.passes a.number (Check.holds (says x e (λ n g r count. takes n count ≤ places) (fits.0 b))) y.number);
              refused = y.refused;
              header = y.header;
              few = y.few;
              low = y.low;
            }

-- an answer with an entry refuses nothing; the entry is there
module _ (takes : ℕ → ℕ → ℕ) (places : ℕ) (book : List ℕ) (a : ReadAnswer) (x : Answered (Reading takes places book) book a) where
  pub not_refused : (i : ℕ) → i < a.count → a.number ≡ 0
  not_refused i h = by_cases (ℕ_discrete a.number 0) (λ e. e) (λ ne. absurd (omega (arith, ap (λ (b : ReadAnswer). b.count) (x.refused (omega arith)))))

  module _ (e : a.number ≡ 0) where
    pub taken_reading : Reading takes places book 0
    taken_reading = subst (Reading takes places book) e x.number

    pub taken_sized : Sized a.factors a.generators a.resolution
    taken_sized = said x e (λ n g r _. Sized n g r) (read_sized takes places book taken_reading)

    pub taken_there : (i : ℕ) → i < a.count → EntryThere a.factors book i
    taken_there i h = record {
      size = taken_sized.size.most;
      few = omega (arith, x.few);
      whole = said x e (λ n _ _ count. i < count → book_length n i + columns_length n ≤ length book) (read_columns_lem takes places book taken_reading i) h;
    }
