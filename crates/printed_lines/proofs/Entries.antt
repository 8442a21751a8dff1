-- An entry of a catalogue is a design without fault, so that a call on it is accepted.
use Rattle.std.specs.Prelude.{◌≡◌, refl, List, ℕ, ◌≤◌, length, Result, Ok, Err, IsOk}
use Rattle.std.proofs.Common.{arith}
use Rattle.regular.specs.Answers.{refusal_of}
use Rattle.regular.specs.declared.Refusal.{Refusal}
use Rattle.regular.specs.Refusals.{LentFault, either, design_faults, Lowest, Gives, Fills}
use Rattle.regular.specs.RefusalLaws.{lowest_unique, lowest_then, lent_fits, number_positive}
use Rattle.regular.specs.Accepted.{entry_accepted}
use Rattle.regular.specs.declared.Design.{Design}
use Rattle.printed_lines.specs.Listed.{Listable}

no_fault : {n g : ℕ} {d : Design} → Listable n g d → Lowest (design_faults n g d) 0
no_fault {n} {g} {d} l = entry_accepted n g l.r d l.size l.low l.holds

-- a call that answers a value, and one that fills a list
pub listed_gives : {n g : ℕ} {d : Design} → Listable n g d → {Value : ℕ → Type 0} {none r value : ℕ}
    → Gives (design_faults n g d) Value none r value → Value value
listed_gives {n} {g} {d} l {r = r} h = h.result (lowest_unique (design_faults n g d) r 0 h.number (no_fault l))

pub listed_fills : {n g : ℕ} {d : Design} → Listable n g d → {k r : ℕ} {Filled : List ℕ → Type 0} {ys zs : List ℕ} → k ≤ length ys
    → Fills (either (design_faults n g d) (LentFault k ys)) k Filled ys zs r → Filled zs
listed_fills {n} {g} {d} l {k = k} {r = r} {ys = ys} room h =
    h.result (lowest_unique (either (design_faults n g d) (LentFault k ys)) r 0 h.number
    (lowest_then (design_faults n g d) (LentFault k ys) 0 (no_fault l) (lent_fits k ys room)))

-- .. so that it answers no refusal
accepted : {A : Type 0} (r : Result A Refusal) → refusal_of r ≡ 0 → IsOk r
accepted (Ok x) e = refl
accepted (Err f) e = absurd (omega (arith, number_positive f))

pub listed_given : {n g : ℕ} {d : Design} → Listable n g d → {A B : Type 0} (r : Result A Refusal) {Value : B → Type 0} {none value : B}
    → Gives (design_faults n g d) Value none (refusal_of r) value → IsOk r
listed_given {n} {g} {d} l r h = accepted r (lowest_unique (design_faults n g d) (refusal_of r) 0 h.number (no_fault l))

pub listed_filled : {n g : ℕ} {d : Design} → Listable n g d → {A : Type 0} (r : Result A Refusal) {k : ℕ} {Filled : List ℕ → Type 0} {ys zs : List ℕ}
    → k ≤ length ys → Fills (either (design_faults n g d) (LentFault k ys)) k Filled ys zs (refusal_of r) → IsOk r
listed_filled {n} {g} {d} l r {k = k} {ys = ys} room h =
    accepted r (lowest_unique (either (design_faults n g d) (LentFault k ys)) (refusal_of r) 0 h.number
    (lowest_then (design_faults n g d) (LentFault k ys) 0 (no_fault l) (lent_fits k ys room)))
