-- The places of plans one after another: where plan i starts and ends, which plans the bytes hold, and what stands there.
--     columns-within, start_first, start-next, start-order   a plan's bytes, and the starts one after another
--     count_held, held-count, start-whole                    the plans that the bytes hold are those below `plan_count`
--     plan-place, plan-column, plan-mask, plan-size          what plan i is
--     plan-part, plan-only                                   .. as a part of the bytes, and where it is all of them
use Rattle.std.specs.Prelude.{ℕ, suc, ◌+◌, ◌*◌, ◌-◌, ◌/◌, ◌≤◌, ◌<◌, ◌≡◌, List, length, get_or, take, drop}
use Rattle.std.proofs.Common.{sym, ap, ◌∙◌, mul-le-mul_right, zero-mul, suc-mul, div-mul-le_self, le-div_iff_mul-le}
use Rattle.std.proofs.Common.{mul-div_cancel, arith, length-drop, length-take-le, take_all, get_or-take, get_or-drop}
use Rattle.regular.specs.PlanBytes.{byte_values, plan_bytes, mask_in, plan_start, plan_at, HasPlan, plan_count}

-- the columns of a plan are among its bytes
pub columns_within : (n : ℕ) → n ≤ plan_bytes n
columns_within n = omega arith

-- the first plan starts at 0, and plan i ends where the next starts
pub start_first : (n : ℕ) → plan_start n 0 ≡ 0
start_first n = zero-mul (plan_bytes n)

pub start_next : (n i : ℕ) → plan_start n (suc i) ≡ plan_start n i + plan_bytes n
start_next n i = suc-mul i (plan_bytes n)

-- the starts stand in the order of the plans
pub start_order : (n i j : ℕ) → i ≤ j → plan_start n i ≤ plan_start n j
start_order n i j h = mul-le-mul_right {m = i} {n = j} (plan_bytes n) h

-- the plans below the count are there, and no others
pub count_held : (n len i : ℕ) → i < plan_count n len → plan_start n (suc i) ≤ len
count_held n len i h =
    let most : plan_start n (plan_count n len) ≤ len = div-mul-le_self len (plan_bytes n) in
    omega (arith, most, start_order n (suc i) (plan_count n len) h)

pub held_count : (n len i : ℕ) → 1 ≤ n → plan_start n (suc i) ≤ len → i < plan_count n len
held_count n len i some h = (le-div_iff_mul-le {k = plan_bytes n} {x = suc i} {y = len} (omega (arith, columns_within n))).1 h

-- bytes that are whole plans end where the count says
pub start_whole : (n len count : ℕ) → len ≡ plan_start n count → len ≡ plan_start n (plan_count n len)
start_whole n len count e =
    let same : plan_count n len ≡ count = ap (λ (k : ℕ). k / plan_bytes n) e ∙ mul-div_cancel count (omega arith) in
    e ∙ ap (plan_start n) (sym same)

-- the bytes of plan i: its columns and its mask
pub plan_place : (n : ℕ) (bytes : List ℕ) (i f : ℕ) → f < plan_bytes n → get_or (plan_at n bytes i) f 0 ≡ get_or bytes (plan_start n i + f) 0
plan_place n bytes i f h = get_or-take (plan_bytes n) (drop (plan_start n i) bytes) f 0 h ∙ get_or-drop (plan_start n i) bytes f 0

pub plan_column : (n : ℕ) (bytes : List ℕ) (i f : ℕ) → f < n → get_or (plan_at n bytes i) f 0 ≡ get_or bytes (plan_start n i + f) 0
plan_column n bytes i f h = plan_place n bytes i f (omega (arith, columns_within n))

pub plan_mask : (n : ℕ) (bytes : List ℕ) (i : ℕ)
    → mask_in n (plan_at n bytes i) ≡ get_or bytes (plan_start n i + n) 0 + byte_values * get_or bytes (plan_start n i + suc n) 0
plan_mask n bytes i =
    ap (λ (x : ℕ). x + byte_values * get_or (plan_at n bytes i) (suc n) 0) (plan_place n bytes i n (omega arith))
    ∙ ap (λ (x : ℕ). get_or bytes (plan_start n i + n) 0 + byte_values * x) (plan_place n bytes i (suc n) (omega arith))

pub plan_size : (n : ℕ) (bytes : List ℕ) (i : ℕ) → HasPlan n bytes i → length (plan_at n bytes i) ≡ plan_bytes n
plan_size n bytes i h =
    length-take-le (plan_bytes n) (drop (plan_start n i) bytes) (omega (arith, length-drop (plan_start n i) bytes, start_next n i))

-- the part of the bytes from its start to its end
pub plan_part : (n : ℕ) (bytes : List ℕ) (i start end : ℕ) → start ≡ plan_start n i → end ≡ plan_start n (suc i)
    → take (end - start) (drop start bytes) ≡ plan_at n bytes i
plan_part n bytes i start end s e =
    let size : end - start ≡ plan_bytes n = omega (arith, s, e, start_next n i) in
    ap (λ (k : ℕ). take k (drop start bytes)) size ∙ ap (λ (k : ℕ). take (plan_bytes n) (drop k bytes)) s

-- .. and all of them, if there are as many as a plan takes
pub plan_only : (n : ℕ) (bytes : List ℕ) → length bytes ≡ plan_bytes n → plan_at n bytes 0 ≡ bytes
plan_only n bytes h = ap (λ (k : ℕ). take (plan_bytes n) (drop k bytes)) (start_first n) ∙ take_all (plan_bytes n) bytes (omega (arith, h))
