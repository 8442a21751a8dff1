-- A lent list of too few places as the last argument to be judged.
use Rattle.std.specs.Prelude.{ℕ, ◌≤◌, ◌<◌, ◌≡◌, List, length, Result, Err}
use Rattle.std.proofs.Common.{subst, arith}
use Rattle.regular.specs.Refusals.{LentFault, either, Lowest}
use Rattle.regular.specs.Answers.{refusal_of}
use Rattle.regular.specs.RefusalLaws.{lowest_first, lowest_then, lent_is, lent_short, lent_fits, number_positive}
use Rattle.regular.specs.declared.Refusal.{Refusal}

-- the refusal x of a call's other arguments, and then that of a lent list with `places`, of which n are wanted
pub data Lending (x n places : ℕ) : ℕ → Type 0 where
  passed : 0 < x → Lending x n places x
  short : x ≡ 0 → places < n → Lending x n places 8
  none : x ≡ 0 → n ≤ places → Lending x n places 0

-- a refusal is passed on
pub lending_refused : {A B : Type 0} (e : Refusal) (a : Result A Refusal) (b : Result B Refusal) (n places : ℕ) → a ≡ Err e → b ≡ Err e
    → Lending (refusal_of a) n places (refusal_of b)
lending_refused e a b n places p q = rw p (rw q (Lending.passed (number_positive e)))

pub lending_lowest : (F : ℕ → Type 0) (x n : ℕ) (ys : List ℕ) (r : ℕ) → Lowest F x → ((k : ℕ) → F k → k ≤ 8) → Lending x n (length ys) r
    → Lowest (either F (LentFault n ys)) r
lending_lowest F x n ys r low most (Lending.passed h) =
    lowest_first F (LentFault n ys) x h low (λ k f. omega (arith, lent_is n ys k f, most x (low.applies h)))
lending_lowest F x n ys r low most (Lending.short e h) =
    lowest_then F (LentFault n ys) 8 (subst (Lowest F) e low) (lent_short n ys h)
lending_lowest F x n ys r low most (Lending.none e h) =
    lowest_then F (LentFault n ys) 0 (subst (Lowest F) e low) (lent_fits n ys h)

pub lending_accepted : (x n places r : ℕ) → Lending x n places r → r ≡ 0 → (x ≡ 0) × (n ≤ places)
lending_accepted x n places r (Lending.passed h) e = absurd (omega arith)
lending_accepted x n places r (Lending.short q h) e = absurd (omega arith)
lending_accepted x n places r (Lending.none q h) e = (q, h)
