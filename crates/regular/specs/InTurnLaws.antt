-- Laws of checks in turn: each answers one number, and the number 0 says that all of them hold.
use Rattle.std.specs.Prelude.{ℕ, ◌<◌, ◌≡◌, refl}
use Rattle.std.proofs.Common.{subst, arith}
use Rattle.regular.specs.InTurn.{Check, InTurn}

-- a judgement of one number
abbrev pub One : (ℕ → Type 0) → Type 0
One J = (a b : ℕ) → J a → J b → a ≡ b

pub check_one : (number : ℕ) (P : Type 0) → One (Check number P)
check_one number P a b (Check.holds p) (Check.holds _) = refl
check_one number P a b (Check.holds p) (Check.fails q) = absurd (q p)
check_one number P a b (Check.fails q) (Check.holds p) = absurd (q p)
check_one number P a b (Check.fails q) (Check.fails _) = refl

pub turn_one : {First Then : ℕ → Type 0} → One First → One Then → One (InTurn First Then)
turn_one {First} {Then} f t a b (InTurn.stops _ h p) (InTurn.stops _ l q) = f a b p q
turn_one {First} {Then} f t a b (InTurn.stops _ h p) (InTurn.passes _ q u) = absurd (omega (arith, f a 0 p q))
turn_one {First} {Then} f t a b (InTurn.passes _ p u) (InTurn.stops _ l q) = absurd (omega (arith, f b 0 q p))
turn_one {First} {Then} f t a b (InTurn.passes _ p u) (InTurn.passes _ q v) = t a b u v

-- what the number 0 says
at_zero : {First Then : ℕ → Type 0} (a : ℕ) → a ≡ 0 → InTurn First Then a → First 0 × Then 0
at_zero {First} {Then} a e (InTurn.stops _ h p) = absurd (omega arith)
at_zero {First} {Then} a e (InTurn.passes _ p t) = (p, subst Then e t)

pub turn_zero : {First Then : ℕ → Type 0} → InTurn First Then 0 → First 0 × Then 0
turn_zero t = at_zero 0 refl t

held : {number : ℕ} {P : Type 0} (a : ℕ) → a ≡ 0 → 0 < number → Check number P a → P
held a e h (Check.holds p) = p
held a e h (Check.fails q) = absurd (omega arith)

pub check_zero : {number : ℕ} {P : Type 0} → 0 < number → Check number P 0 → P
check_zero h c = held 0 refl h c

-- the first refuses; or it passes, and the next answers
pub refuses : {First Then : ℕ → Type 0} (k : ℕ) → (k ≡ 0 → ⊥) → First k → InTurn First Then k
refuses k ne f = InTurn.stops k (omega (arith, ne)) f

pub goes_on : {First Then : ℕ → Type 0} (k a : ℕ) → k ≡ 0 → First k → Then a → InTurn First Then a
goes_on {First} k a e f t = InTurn.passes a (subst First e f) t
