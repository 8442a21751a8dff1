-- Plans one after another in bytes (document 01's table, several plans in one list): how many bytes a plan takes, what they are, where plan i stands,
-- and how many plans there are. How long a plan is stands in `plan_bytes` alone. Definitions only.
use Rattle.std.specs.Prelude.{ℕ, suc, ◌+◌, ◌*◌, ◌/◌, ◌≤◌, List, length, get_or, take, drop}

-- how many values a byte has
abbrev pub byte_values : ℕ
byte_values = 256

-- how many bytes a plan takes: its n columns, and the two of its switch mask (document 02, request 5)
abbrev pub plan_bytes : ℕ → ℕ
plan_bytes n = n + 2

-- the mask after the n columns, low byte first
abbrev pub mask_in : ℕ → List ℕ → ℕ
mask_in n plan = get_or plan n 0 + byte_values * get_or plan (suc n) 0

-- the place where plan i starts: after i plans
abbrev pub plan_start : ℕ → ℕ → ℕ
plan_start n i = i * plan_bytes n

-- plan i of the bytes
abbrev pub plan_at : ℕ → List ℕ → ℕ → List ℕ
plan_at n bytes i = take (plan_bytes n) (drop (plan_start n i) bytes)

-- the bytes hold a plan i: it ends where plan i + 1 starts
abbrev pub HasPlan : ℕ → List ℕ → ℕ → Type 0
HasPlan n bytes i = plan_start n (suc i) ≤ length bytes

-- how many plans so many bytes hold
abbrev pub plan_count : ℕ → ℕ → ℕ
plan_count n len = len / plan_bytes n
