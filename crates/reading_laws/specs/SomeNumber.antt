-- Every list of bytes has a number: with `reading_one`, exactly one.
use Rattle.std.specs.Prelude.{ℕ, zero, suc, ◌+◌, ◌-◌, ◌≡◌, refl, List, length, get_or}
use Rattle.std.proofs.Common.{subst, inl, inr, arith}
use Rattle.std.proofs.Math.Logic.{by_cases}
use Rattle.std.proofs.Math.Decide.{ℕ_discrete, dec_le, dec_lt}
use Rattle.regular.specs.Sizes.{Size}
use Rattle.regular.specs.Refusals.{Lowest, size_faults}
use Rattle.regular.specs.Accepted.{size_accepted}
use Rattle.regular.specs.Book.{header_kind, header_length, columns_kind, columns_length, pattern_kind, pattern_length, book_length}
use Rattle.regular.specs.InTurn.{Check, InTurn}
use Rattle.regular.specs.InTurnLaws.{turn_zero, check_zero}
use Rattle.regular.specs.Reading.{RecordAt, HeaderChecks, factors_in, generators_in, resolution_in, count_in}
use Rattle.regular.specs.Reading.{pattern_place, TrueColumns, EntryChecks, EntriesChecks, Reading}
use Rattle.admission.specs.Faults.{size_1, size_2, bounds_size, bounds_3, bounds_0}
use Rattle.reading_laws.specs.Number.{reading_one}
use Rattle.reading_laws.specs.Decided.{columns_or_not, pattern_or_not}

-- a judgement that has a number
abbrev Some : (ℕ → Type 0) → Type 0
Some J = (a : ℕ) × J a

check_some : (number : ℕ) {P : Type 0} → Dec P → Some (Check number P)
check_some number d = by_cases d (λ p. (0, Check.holds p)) (λ q. (number, Check.fails q))

-- what comes then may need what was met first
turn_some : {First Then : ℕ → Type 0} → Some First → (First 0 → Some Then) → Some (InTurn First Then)
turn_some {First} {Then} f t =
    by_cases (ℕ_discrete f.0 0)
    (λ e. let p = subst First e f.1 in let u = t p in (u.0, InTurn.passes u.0 p u.1))
    (λ ne. (f.0, InTurn.stops f.0 (omega arith) f.1))

record_some : (kind len : ℕ) (book : List ℕ) (at : ℕ) → Some (RecordAt kind len book at)
record_some kind len book at =
    turn_some (check_some 10 (dec_lt at (length book)))
    (λ _. turn_some (check_some 11 (ℕ_discrete (get_or book at 0) kind)) (λ _. check_some 10 (dec_le (at + len) (length book))))

sizes_some : (n g r : ℕ) → Some (Lowest (size_faults n g r))
sizes_some n g r =
    by_cases (dec_lt n 1) (λ h. (1, (bounds_size n g r 1 (λ e. omega arith) (size_1 n g (inl h))).0)) (λ a.
    by_cases (dec_lt 16 n) (λ h. (1, (bounds_size n g r 1 (λ e. omega arith) (size_1 n g (inr h))).0)) (λ b.
    by_cases (dec_le n g) (λ h. (2, (bounds_size n g r 2 (λ e. omega arith) (size_2 n g (omega arith) (omega arith) (inl h))).0)) (λ c.
    by_cases (dec_lt 7 (n - g)) (λ h. (2, (bounds_size n g r 2 (λ e. omega arith) (size_2 n g (omega arith) (omega arith) (inr h))).0)) (λ d.
    let z : Size n g = record { some = omega arith; most = omega arith; less = omega arith; few = omega arith } in
    by_cases (dec_lt r 3) (λ h. (3, (bounds_3 n g r 0 refl (size_accepted n g z) (inl h)).0)) (λ e.
    by_cases (dec_lt 16 r) (λ h. (3, (bounds_3 n g r 0 refl (size_accepted n g z) (inr h)).0)) (λ f.
    (0, (bounds_0 n g r z (omega arith) (omega arith)).0)))))))

header_some : (book : List ℕ) → Some (HeaderChecks book)
header_some book =
    turn_some (record_some header_kind header_length book 0) (λ _. sizes_some (factors_in book) (generators_in book) (resolution_in book))

entry_some : (n g r : ℕ) (book : List ℕ) (i : ℕ) → Some (EntryChecks n g r book i)
entry_some n g r book i =
    turn_some
    (turn_some (record_some (columns_kind n) (columns_length n) book (book_length n i)) (λ _. check_some 12 (columns_or_not n g r book i)))
    (λ c. let x : TrueColumns n g r book i = check_zero (omega arith) (turn_zero c).1 in
    turn_some (record_some (pattern_kind n) (pattern_length n) book (pattern_place n i)) (λ _. check_some 12 (pattern_or_not n g r book i x)))

entries_some : (n g r : ℕ) (book : List ℕ) (i due : ℕ) → Some (EntriesChecks n g r book i due)
unfolding EntriesChecks
entries_some n g r book i zero = check_some 10 (dec_le (length book) (book_length n i))
entries_some n g r book i (suc due) = turn_some (entry_some n g r book i) (λ _. entries_some n g r book (suc i) due)

pub reading_some : (takes : ℕ → ℕ → ℕ) (places : ℕ) (book : List ℕ) → (number : ℕ) × Reading takes places book number
reading_some takes places book =
    turn_some (header_some book) (λ _. turn_some (check_some 8 (dec_le (takes (factors_in book) (count_in book)) places))
    (λ _. entries_some (factors_in book) (generators_in book) (resolution_in book) book 0 (count_in book)))

-- exactly one number
pub record OneNumber (takes : ℕ → ℕ → ℕ) (places : ℕ) (book : List ℕ) : Type 0 where
  pub number : ℕ
  pub is : Reading takes places book number
  pub only : (other : ℕ) → Reading takes places book other → other ≡ number

pub one_number : (takes : ℕ → ℕ → ℕ) (places : ℕ) (book : List ℕ) → OneNumber takes places book
one_number takes places book =
    let x = reading_some takes places book in
    record { number = x.0; is = x.1; only = λ other y. reading_one takes places book other x.0 y x.1 }
