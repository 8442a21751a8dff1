-- Laws of a record at a place of a book: when it stands whole, and by which number it is refused.
use Rattle.std.specs.Prelude.{ℕ, ◌+◌, ◌≤◌, ◌<◌, ◌≡◌, List, length, get_or}
use Rattle.std.proofs.Common.{subst, arith}
use Rattle.regular.specs.InTurn.{Check, InTurn}
use Rattle.regular.specs.InTurnLaws.{check_zero, turn_zero}
use Rattle.regular.specs.Reading.{RecordAt}

module _ (kind len : ℕ) (book : List ℕ) (at : ℕ) where
  pub record_missing : length book ≤ at → RecordAt kind len book at 10
  record_missing h = InTurn.stops 10 (omega arith) (Check.fails (λ l. omega arith))

  pub record_other : at < length book → (get_or book at 0 ≡ kind → ⊥) → RecordAt kind len book at 11
  record_other h ne = InTurn.passes 11 (Check.holds h) (InTurn.stops 11 (omega arith) (Check.fails ne))

  pub record_cut : at < length book → get_or book at 0 ≡ kind → length book < at + len → RecordAt kind len book at 10
  record_cut h e l = InTurn.passes 10 (Check.holds h) (InTurn.passes 10 (Check.holds e) (Check.fails (λ w. omega arith)))

  pub record_stands : at < length book → get_or book at 0 ≡ kind → at + len ≤ length book → RecordAt kind len book at 0
  record_stands h e l = InTurn.passes 0 (Check.holds h) (InTurn.passes 0 (Check.holds e) (Check.holds l))

  -- what the number 0 says
  pub record_zero : (k : ℕ) → k ≡ 0 → RecordAt kind len book at k → (get_or book at 0 ≡ kind) × (at + len ≤ length book)
  record_zero k z c =
      let p = turn_zero (turn_zero (subst (RecordAt kind len book at) z c)).1 in
      (check_zero (omega arith) p.0, check_zero (omega arith) p.1)
