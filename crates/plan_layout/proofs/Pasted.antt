-- A plan's columns pasted over the bytes from its start on, and its mask after them: what stands where.
use mathlib.Core.Path.{◌≡◌, sym, ap, subst, ◌∙◌}
use mathlib.Core.List.{List, ◌++◌, append_assoc}
use Prim.Native.Nat.{ℕ, suc, ◌+◌, ◌*◌, ◌/◌, ◌%◌, ◌≤◌, ◌<◌}
use native.Mathlib.Omega.{arith}
use lib.ListN.{length, get_or, take, drop, set, length-set, get_or-append}
use lib.Seq.{paste, length-paste, drop-paste, length-take-le, get_or-append-add, get_or-take}
use lib.Seq.{get_or-set_same, get_or-set_other, drop-set-lt, drop-drop, ext_get_or}
use Rattle.regular.specs.Smallest.{Equal}
use Rattle.regular.specs.PlanBytes.{byte_values, plan_bytes, mask_in, plan_start, plan_at, HasPlan}
use Rattle.plan_layout.specs.Put.{MaskPut, PlanPut}
use Rattle.plan_layout.specs.Places.{start_first, start_next, start_order, plan_place, plan_column, plan_mask, plan_size}

-- what was put from base on, the first n of c, and what was there before it
module _ (n : ℕ) (c : List ℕ) (base : ℕ) (v : List ℕ) (room : base + n ≤ length v) (many : n ≤ length c) where
  put_new : (f : ℕ) → f < n → get_or (paste v base c n) (base + f) 0 ≡ get_or c f 0
  put_new f h =
      let e : length (take base v) ≡ base = length-take-le base v (omega arith) in
      ap (λ (l : List ℕ). get_or l (base + f) 0) (append_assoc (take base v) (take n c) (drop (base + n) v))
      ∙ ap (λ (k : ℕ). get_or (take base v ++ (take n c ++ drop (base + n) v)) (k + f) 0) (sym e)
      ∙ get_or-append-add (take base v) (take n c ++ drop (base + n) v) f 0
      ∙ get_or-append (take n c) (drop (base + n) v) 0 f (omega (arith, length-take-le n c many)) ∙ get_or-take n c f 0 h

  put_low : (j : ℕ) → j < base → get_or (paste v base c n) j 0 ≡ get_or v j 0
  put_low j h =
      ap (λ (l : List ℕ). get_or l j 0) (append_assoc (take base v) (take n c) (drop (base + n) v))
      ∙ get_or-append (take base v) (take n c ++ drop (base + n) v) 0 j (omega (arith, length-take-le base v (omega arith))) ∙ get_or-take base v j 0 h

-- the mask's low and high byte
bytes_mask : (mask : ℕ) → mask % byte_values + byte_values * (mask / byte_values) ≡ mask
bytes_mask mask = omega arith

-- the mask put over the bytes v of a plan, `high` being the place of its high byte
pub mask_put : (n mask : ℕ) (v : List ℕ) (high : ℕ) → high ≡ suc n → length v ≡ plan_bytes n
    → MaskPut n mask v (set (set v n (mask % byte_values)) high (mask / byte_values))
mask_put n mask v high at h =
    let low = set v n (mask % byte_values) in
    let both = set low high (mask / byte_values) in
    record {
      columns = λ f l.
          get_or-set_other low high f (mask / byte_values) 0 (λ e. omega (arith, at, e, l))
          ∙ get_or-set_other v n f (mask % byte_values) 0 (λ e. omega (arith, e, l));
      mask =
          ap (λ (x : ℕ). x + byte_values * get_or both (suc n) 0)
          (get_or-set_other low high n (mask / byte_values) 0 (λ e. omega (arith, at, e)) ∙ get_or-set_same v n (mask % byte_values) 0 (omega (arith, h)))
          ∙ ap (λ (k : ℕ). mask % byte_values + byte_values * get_or both k 0) (sym at)
          ∙ ap (λ (x : ℕ). mask % byte_values + byte_values * x)
          (get_or-set_same low high (mask / byte_values) 0 (omega (arith, at, h, length-set v n (mask % byte_values))))
          ∙ bytes_mask mask;
      size = length-set low high (mask / byte_values) ∙ length-set v n (mask % byte_values);
    }

-- the plan i of the columns c and the mask, put over the bytes v
module _ (n : ℕ) (c : List ℕ) (mask i : ℕ) (v : List ℕ) (there : HasPlan n v i) (many : n ≤ length c) where
  abbrev pasted : List ℕ
  pasted = paste v (plan_start n i) c n

  abbrev low : List ℕ
  low = set pasted (plan_start n i + n) (mask % byte_values)

  abbrev planned : List ℕ
  planned = set low (plan_start n i + n + 1) (mask / byte_values)

  end : plan_start n i + n + 2 ≤ length v
  end = omega (arith, there, start_next n i)

  pasted_size : length pasted ≡ length v
  pasted_size = length-paste v (plan_start n i) c n (omega (arith, end)) many

  low_size : length low ≡ length v
  low_size = length-set pasted (plan_start n i + n) (mask % byte_values) ∙ pasted_size

  planned_size : length planned ≡ length v
  planned_size = length-set low (plan_start n i + n + 1) (mask / byte_values) ∙ low_size

  -- the places before the mask are the pasted ones
  unmasked : (j : ℕ) → j < plan_start n i + n → get_or planned j 0 ≡ get_or pasted j 0
  unmasked j h =
      get_or-set_other low (plan_start n i + n + 1) j (mask / byte_values) 0 (λ e. omega (arith, e, h))
      ∙ get_or-set_other pasted (plan_start n i + n) j (mask % byte_values) 0 (λ e. omega (arith, e, h))

  masked : mask_in n (plan_at n planned i) ≡ mask
  masked =
      let at = plan_start n i + n in
      plan_mask n planned i
      ∙ ap (λ (x : ℕ). x + byte_values * get_or planned (plan_start n i + suc n) 0)
      (get_or-set_other low (at + 1) at (mask / byte_values) 0 (λ e. omega (arith, e))
      ∙ get_or-set_same pasted at (mask % byte_values) 0 (omega (arith, end, pasted_size)))
      ∙ ap (λ (k : ℕ). mask % byte_values + byte_values * get_or planned k 0) (omega arith)
      ∙ ap (λ (x : ℕ). mask % byte_values + byte_values * x) (get_or-set_same low (at + 1) (mask / byte_values) 0 (omega (arith, end, low_size)))
      ∙ bytes_mask mask

  before : (j : ℕ) → j < i → plan_at n planned j ≡ plan_at n v j
  before j h =
      let under : plan_start n (suc j) ≤ plan_start n i = start_order n (suc j) i h in
      let size = plan_size n planned j (omega (arith, under, end, planned_size)) in
      ext_get_or 0 (plan_at n planned j) (plan_at n v j) (size ∙ sym (plan_size n v j (omega (arith, under, end))))
      (λ f l. let inside : f < plan_bytes n = omega (arith, l, size) in
      let less : plan_start n j + f < plan_start n i = omega (arith, inside, under, start_next n j) in
      plan_place n planned j f inside ∙ unmasked (plan_start n j + f) (omega (arith, less))
      ∙ put_low n c (plan_start n i) v (omega (arith, end)) many (plan_start n j + f) less ∙ sym (plan_place n v j f inside))

  rest : drop (plan_start n i + n + 2) planned ≡ drop (plan_start n i + n + 2) v
  rest =
      let at = plan_start n i + n in
      drop-set-lt (at + 2) low (at + 1) (mask / byte_values) (omega arith) ∙ drop-set-lt (at + 2) pasted at (mask % byte_values) (omega arith)
      ∙ sym (drop-drop 2 at pasted) ∙ ap (drop 2) (drop-paste v (plan_start n i) c n (omega (arith, end)) many) ∙ drop-drop 2 at v

  planned_put : PlanPut n c mask i v planned
  planned_put = record {
    plan = λ f l.
        plan_column n planned i f l ∙ unmasked (plan_start n i + f) (omega (arith, l)) ∙ put_new n c (plan_start n i) v (omega (arith, end)) many f l;
    mask = masked;
    earlier = before;
    rest = let e : plan_start n i + n + 2 ≡ plan_start n (suc i) = omega (arith, start_next n i) in subst (λ (k : ℕ). drop k planned ≡ drop k v) e rest;
    size = planned_size;
  }

  -- .. where `start` is the plan's start and w the bytes with the columns pasted
  module _ (start : ℕ) (w : List ℕ) (s : start ≡ plan_start n i) (e : w ≡ paste v start c n) where
    room : start + n + 2 ≤ length w
    room = omega (arith, s, end, ap length e, length-paste v start c n (omega (arith, s, end)) many)

    pub low_room : start + n < length w
    low_room = omega (arith, room)

    pub high_room : start + n + 1 < length (set w (start + n) (mask % byte_values))
    high_room = omega (arith, room, length-set w (start + n) (mask % byte_values))

    pub plan_put : PlanPut n c mask i v (set (set w (start + n) (mask % byte_values)) (start + n + 1) (mask / byte_values))
    plan_put =
        subst (λ (x : List ℕ). PlanPut n c mask i v (set (set x (start + n) (mask % byte_values)) (start + n + 1) (mask / byte_values))) (sym e)
        (subst (λ (k : ℕ). PlanPut n c mask i v (set (set (paste v k c n) (k + n) (mask % byte_values)) (k + n + 1) (mask / byte_values))) (sym s) planned_put)

-- plan 0 with the columns and the mask, as the first bytes of all
pub first_put : (n : ℕ) (c : List ℕ) (mask : ℕ) (v z : List ℕ) → plan_bytes n ≤ length v → PlanPut n c mask 0 v z
    → (Equal n z c × (mask_in n z ≡ mask)) × (drop (plan_bytes n) z ≡ drop (plan_bytes n) v)
first_put n c mask v z room put =
    let here : (f : ℕ) → get_or z (plan_start n 0 + f) 0 ≡ get_or z f 0 = λ f. ap (λ (k : ℕ). get_or z k 0) (omega (arith, start_first n)) in
    let end : plan_start n 1 ≡ plan_bytes n = omega (arith, start_first n, start_next n 0) in (
      (
        (λ f l. sym (plan_column n z 0 f l ∙ here f) ∙ put.plan f l),
        sym (plan_mask n z 0 ∙ ap (λ (x : ℕ). x + byte_values * get_or z (plan_start n 0 + suc n) 0) (here n)
            ∙ ap (λ (x : ℕ). get_or z n 0 + byte_values * x) (here (suc n))) ∙ put.mask,
      ),
      subst (λ (k : ℕ). drop k z ≡ drop k v) end put.rest,
    )
