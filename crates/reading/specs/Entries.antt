-- Laws of the entries: whatever the entries from entry i on answer is the answer of all.
use Prim.Native.Nat.{ℕ, suc, ◌+◌, ◌-◌, ◌≤◌, ◌<◌}
use Rattle.std.specs.Prelude.{◌≡◌, List, length}
use Rattle.std.proofs.Common.{subst, add-one}
use native.Mathlib.Omega.{arith}
use Rattle.regular.specs.Book.{book_length}
use Rattle.regular.specs.InTurn.{Check, InTurn}
use Rattle.regular.specs.InTurnLaws.{refuses, goes_on}
use Rattle.regular.specs.Reading.{EntryChecks, EntriesChecks}

-- before the turn of entry i
pub record EntriesFrom (n g r : ℕ) (book : List ℕ) (count i : ℕ) : Type 0 where
  pub within : i ≤ count
  pub answers : (k : ℕ) → EntriesChecks n g r book i (count - i) k → EntriesChecks n g r book 0 count k

module _ (n g r : ℕ) (book : List ℕ) (count : ℕ) where
  pub from_none : EntriesFrom n g r book count 0
  from_none =
      let all : count - 0 ≡ count = omega arith in
      record { within = omega arith; answers = λ k c. subst (λ (d : ℕ). EntriesChecks n g r book 0 d k) all c }

  module _ (i : ℕ) (more : i < count) (x : EntriesFrom n g r book count i) (k : ℕ) where
    -- the entries from i on are entry i and those after it
    split : (a : ℕ) → InTurn (EntryChecks n g r book i) (EntriesChecks n g r book (suc i) (count - suc i)) a → EntriesChecks n g r book 0 count a
    unfolding EntriesChecks
    split a t =
        let due : suc (count - suc i) ≡ count - i = omega arith in
        x.answers a (subst (λ (d : ℕ). EntriesChecks n g r book i d a) due t)

    pub from_stops : (k ≡ 0 → ⊥) → EntryChecks n g r book i k → EntriesChecks n g r book 0 count k
    from_stops ne e = split k (refuses k ne e)

    pub from_more : k ≡ 0 → EntryChecks n g r book i k → EntriesFrom n g r book count (i + 1)
    from_more e c = record {
      within = omega arith;
      answers = λ a t. split a (goes_on k a e c (subst (λ (j : ℕ). EntriesChecks n g r book j (count - j) a) (add-one i) t));
    }

  module _ (i : ℕ) (none : count ≤ i) (x : EntriesFrom n g r book count i) (at : ℕ) (end : at ≡ book_length n count) where
    last : (a : ℕ) → Check 10 (length book ≤ book_length n count) a → EntriesChecks n g r book 0 count a
    unfolding EntriesChecks
    last a c =
        let same : count ≡ i = omega (arith, x.within) in
        let due : 0 ≡ count - i = omega (arith, same) in
        x.answers a (subst (λ (d : ℕ). EntriesChecks n g r book i d a) due (subst (λ (j : ℕ). Check 10 (length book ≤ book_length n j) a) same c))

    pub from_left : at < length book → EntriesChecks n g r book 0 count 10
    from_left h = last 10 (Check.fails (λ l. omega (arith, end)))

    pub from_end : length book ≤ at → EntriesChecks n g r book 0 count 0
    from_end h = last 0 (Check.holds (omega (arith, end)))
