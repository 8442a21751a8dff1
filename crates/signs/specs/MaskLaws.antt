-- The mask of a plan: the plan's basic factors are those of its switched plans, the one run that is high at all of them is its mask, and `MaskOf` gives
-- it from any run.
use Rattle.std.specs.Prelude.{ℕ, zero, suc, ◌+◌, ◌*◌, ◌-◌, ◌/◌, ◌%◌, ◌^◌, ◌≤◌, ◌<◌, ◌≡◌, refl, List, get_or}
use Rattle.std.proofs.Common.{sym, ap, subst, ◌∙◌, arith, mod-lt, pow_pos, pow_mono}
use Rattle.std.proofs.Math.Logic.{by_cases}
use Rattle.std.proofs.Math.Nat.{two-pow-succ}
use Rattle.std.proofs.Math.Decide.{ℕ_discrete, dec_lt}
use Rattle.std.proofs.Math.Arith.{digits_lt}
use Rattle.std.specs.Int.Bits.{bit_xor, xor_zero_l, xor_zero_r}
use Rattle.std.proofs.lemmas.Nat.{xor_lt, xor_comm}
use Rattle.gf2.specs.Digits.{bit, odd}
use Rattle.gf2.specs.DigitLaws.{bit_xor_lem, bit_none, bit_ext, bit_over, bit_top, low_bit, xor_assoc, xor_back, xor_none}
use Rattle.gf2.specs.Parity.{odd_bit, odd_comm}
use Rattle.regular.specs.Runs.{Runs, Agree, switched}
use Rattle.regular.specs.Columns.{plan_of, run_of, Basic, Allowed, Standard}
use Rattle.standard.specs.Form.{units_before, StandardFor}
use Rattle.standard.specs.Runs.{run_lt, run_zero, run_xor, run_bit}
use Rattle.standard.specs.Units.{units_zero, units_next, units_stay, units_mono}
use Rattle.words.specs.Model.{last_of}
use Rattle.words.specs.Pivots.{last_bit, last_lt, last_is}
use Rattle.words.specs.Standards.{unit_basic, basic_unit, form_standard}
use Rattle.words.specs.Switches.{agree_sym, word_agree, word_switched, word_switched_back}
use Rattle.words.specs.WordList.{is_unit}
use Rattle.signs.specs.Masks.{MaskOf}

-- the basic factors of a plan are those of its switched plans
pub basic_switched : (n mask : ℕ) (s : Runs) (f : ℕ) → Basic n s f → Basic n (switched mask s) f
basic_switched n mask s f b w word last = b w (word_switched_back n mask s w word) last

pub basic_switched_back : (n mask : ℕ) (s : Runs) (f : ℕ) → Basic n (switched mask s) f → Basic n s f
basic_switched_back n mask s f b w word last = b w (word_switched n mask s w word) last

pub basic_agree : (n : ℕ) (s t : Runs) → Agree s t → (f : ℕ) → Basic n s f → Basic n t f
basic_agree n s t a f b w word last = b w (word_agree n t s (agree_sym s t a) w word) last

-- no word reaches past factor n
pub past_basic : (n : ℕ) (s : Runs) (f : ℕ) → n ≤ f → Basic n s f
past_basic n s f h w word last =
    let up : 2 ^ n ≤ 2 ^ f = pow_mono h in
    omega (arith, last_bit f w last, bit_over f w (omega (arith, word.within, up)))

-- so an allowed mask of sixteen bits has none past factor n
pub allowed_within : (n : ℕ) (s : Runs) (mask : ℕ) → mask < 2 ^ 16 → Allowed n s mask → mask < 2 ^ n
allowed_within n s mask l a =
    by_cases (ℕ_discrete mask 0) (λ e. subst (λ (x : ℕ). x < 2 ^ n) (sym e) (pow_pos n))
    (λ ne.
    let f = last_of 16 mask in
    let last = (last_is 16 mask l ne).1 in
    by_cases (dec_lt f n)
    (λ h. let up : 2 ^ suc f ≤ 2 ^ n = pow_mono h in omega (arith, last_lt f mask last, up))
    (λ h. absurd (omega (arith, last_bit f mask last, a f (past_basic n s f (omega arith))))))

-- the level of a unit's factor in run j is a bit of j
unit_level : (c : List ℕ) (n f j : ℕ) → f < n → is_unit c f → bit f (run_of c n j) ≡ bit (units_before c f) j
unit_level c n f j h u = run_bit c n j f h ∙ ap (odd j) u ∙ odd_comm j (2 ^ units_before c f) ∙ odd_bit (units_before c f) j

-- a run that is high at every unit's factor is run 0
module _ (c : List ℕ) (n j : ℕ) (high : (f : ℕ) → f < n → is_unit c f → bit f (run_of c n j) ≡ 0) where
  low_bits : (f : ℕ) → f ≤ n → (k : ℕ) → k < units_before c f → bit k j ≡ 0
  low_bits zero h k l = absurd (omega (arith, units_zero c))
  low_bits (suc f) h k l =
      by_cases (ℕ_discrete (get_or c f 0) (2 ^ units_before c f))
      (λ u. by_cases (ℕ_discrete k (units_before c f))
      (λ e. ap (λ (i : ℕ). bit i j) e ∙ sym (unit_level c n f j h u) ∙ high f h u)
      (λ ne. low_bits f (omega arith) k (omega (arith, units_next c f u))))
      (λ ne. low_bits f (omega arith) k (omega (arith, units_stay c f ne)))

  first_run : j < 2 ^ units_before c n → run_of c n j ≡ 0
  first_run l =
      ap (run_of c n) (bit_ext (units_before c n) j 0 l (pow_pos (units_before c n)) (λ k h. low_bits n (omega arith) k h ∙ sym (bit_none k)))
      ∙ run_zero c n

-- a run of columns in standard form that is high at every basic factor is high at all
all_high : (n m : ℕ) (s : Runs) (c : List ℕ) → StandardFor n m s c → (x : ℕ) → s x → ((f : ℕ) → f < n → Basic n s f → bit f x ≡ 0) → x ≡ 0
all_high n m s c st x h z =
    let q = st.plan.into x h in
    let e : x ≡ run_of c n q.0 = q.1.1 in
    e ∙ first_run c n q.0 (λ f l u. ap (bit f) (sym e) ∙ z f l (unit_basic n m s c st f l u))
    (subst (λ (k : ℕ). q.0 < 2 ^ k) (sym st.form.units) q.1.0)

zero_sum : (a b : ℕ) → a ≡ 0 → b ≡ 0 → (a + b) % 2 ≡ 0
zero_sum a b p q = omega arith

-- the mask of a plan is one: it is the only run that is allowed as a mask
pub mask_one : (n m : ℕ) (s : Runs) (c : List ℕ) (mask other : ℕ) → StandardFor n m (switched mask s) c → Allowed n s mask → s other → Allowed n s other
    → mask ≡ other
mask_one n m s c mask other st a run b =
    let x = bit_xor other mask in
    let there : switched mask s x = subst s (sym (xor_back other mask)) run in
    sym (xor_none other mask
    (all_high n m (switched mask s) c st x there
    (λ f h q. let basic = basic_switched_back n mask s f q in
    bit_xor_lem f other mask ∙ zero_sum (bit f other) (bit f mask) (b f basic) (a f basic))))

-- the mask of columns is a run of the plan: run 0
pub mask_run : (n m : ℕ) (s : Runs) (c : List ℕ) (mask : ℕ) → Agree (switched mask s) (plan_of n m c) → s mask
mask_run n m s c mask a = subst s (xor_zero_l mask) (a.onto 0 (0, (pow_pos m, sym (run_zero c n))))

-- the mask that a run gives
pub mask_within : (n : ℕ) (c : List ℕ) (x r : ℕ) → MaskOf n c x r → x < 2 ^ n → r < 2 ^ n
mask_within n c x r k l = subst (λ (y : ℕ). y < 2 ^ n) (sym k.is) (xor_lt n x (run_of c n k.run) l (run_lt c n k.run))

-- a run that is high at every unit's factor is its own mask
pub mask_fixed : (n : ℕ) (c : List ℕ) (x r : ℕ) → MaskOf n c x r → ((f : ℕ) → f < n → is_unit c f → bit f x ≡ 0) → r ≡ x
mask_fixed n c x r k high =
    let y = run_of c n k.run in
    let level : (f : ℕ) → f < n → is_unit c f → bit f y ≡ 0 = λ f h u.
    let is : y ≡ bit_xor r x = sym (xor_back y x) ∙ ap (λ (z : ℕ). bit_xor z x) (xor_comm y x ∙ sym k.is) in
    ap (bit f) is ∙ bit_xor_lem f r x ∙ zero_sum (bit f r) (bit f x) (k.high f h u) (high f h u) in
    k.is ∙ ap (bit_xor x) (first_run c n k.run level k.below) ∙ xor_zero_r x

-- from a run of a plan, the plan's mask
module _ (n m : ℕ) (s : Runs) (x : ℕ) (c : List ℕ) (r : ℕ) (st : StandardFor n m (switched x s) c) (k : MaskOf n c x r) where
  pub mask_of_form : StandardFor n m (switched r s) c
  mask_of_form =
      let j = k.run in
      let y = run_of c n j in
      let small : j < 2 ^ m = subst (λ (u : ℕ). j < 2 ^ u) st.form.units k.below in
      let turn : (z : ℕ) → bit_xor (bit_xor z y) x ≡ bit_xor z r = λ z. xor_assoc z y x ∙ ap (bit_xor z) (xor_comm y x ∙ sym k.is) in
      record {
        form = st.form;
        plan = record {
          into = λ z h.
              let q = st.plan.into (bit_xor z y) (subst s (sym (turn z)) h) in
              (bit_xor q.0 j, (xor_lt m q.0 j q.1.0 small, sym (xor_back z y) ∙ ap (λ (v : ℕ). bit_xor v y) q.1.1 ∙ sym (run_xor c n q.0 j)));
          onto = λ z q. subst s (turn z) (st.plan.onto (bit_xor z y)
              (bit_xor q.0 j, (xor_lt m q.0 j q.1.0 small, ap (λ (v : ℕ). bit_xor v y) q.1.1 ∙ sym (run_xor c n q.0 j))));
        };
      }

  pub mask_of_allowed : x < 2 ^ n → Allowed n s r
  mask_of_allowed l f b =
      by_cases (dec_lt f n)
      (λ h. k.high f h (basic_unit n m (switched x s) c st f h (basic_switched n x s f b)))
      (λ h. bit_over f r (omega (arith, mask_within n c x r k l, pow_mono {i = n} {j = f} (omega arith))))

  pub mask_of_standard : x < 2 ^ n → Standard n m s c r
  mask_of_standard l = record { allowed = mask_of_allowed l; columns = form_standard n m (switched r s) c mask_of_form }

-- the bits of run x at the units of the first f factors, as a number
record Coordinates (c : List ℕ) (x f : ℕ) : Type 0 where
  number : ℕ
  below : number < 2 ^ units_before c f
  bits : (e : ℕ) → e < f → is_unit c e → bit (units_before c e) number ≡ bit e x

fewer_units : (c : List ℕ) (e f : ℕ) → e < f → is_unit c e → units_before c e < units_before c f
fewer_units c e f h u =
    let d = f - suc e in
    let z : d + suc e ≡ f = omega arith in
    omega (arith, units_next c e u, subst (λ (i : ℕ). units_before c (suc e) ≤ units_before c i) z (units_mono c (suc e) d))

coordinates : (c : List ℕ) (x f : ℕ) → Coordinates c x f
coordinates c x zero = record { number = 0; below = pow_pos (units_before c 0); bits = λ e h. absurd (omega arith) }
coordinates c x (suc f) =
    let k = coordinates c x f in
    let u = units_before c f in
    by_cases (ℕ_discrete (get_or c f 0) (2 ^ u))
    (λ is.
    let d = bit f x in
    let digit : d < 2 = mod-lt (x / 2 ^ f) (omega arith) in
    let up : units_before c (suc f) ≡ suc u = units_next c f is ∙ omega arith in
    record {
      number = d * 2 ^ u + k.number;
      below = subst (λ (v : ℕ). d * 2 ^ u + k.number < 2 ^ v) (sym up)
          (omega (arith, two-pow-succ u, digits_lt {q = d} {m = 2} {r = k.number} {c = 2 ^ u} digit k.below));
      bits = λ e h eu. by_cases (ℕ_discrete e f)
          (λ q. subst (λ (i : ℕ). bit (units_before c i) (d * 2 ^ u + k.number) ≡ bit i x) (sym q) (bit_top u d k.number digit k.below))
          (λ ne. low_bit (units_before c e) u d k.number (fewer_units c e f (omega arith) eu) k.below ∙ k.bits e (omega arith) eu);
    })
    (λ ne. record {
      number = k.number;
      below = subst (λ (v : ℕ). k.number < 2 ^ v) (sym (units_stay c f ne)) k.below;
      bits = λ e h eu. by_cases (ℕ_discrete e f) (λ q. absurd (ne (subst (is_unit c) q eu))) (λ other. k.bits e (omega arith) eu);
    })

twice : (b : ℕ) → (b + b) % 2 ≡ 0
twice b = omega arith

-- every run gives a mask
pub mask_of_some : (n : ℕ) (c : List ℕ) (x : ℕ) → (r : ℕ) × MaskOf n c x r
mask_of_some n c x =
    let k = coordinates c x n in
    let y = run_of c n k.number in (
      bit_xor x y,
      record {
        run = k.number;
        below = k.below;
        is = refl;
        high = λ f h u. bit_xor_lem f x y ∙ ap (λ (v : ℕ). (bit f x + v) % 2) (unit_level c n f k.number h u ∙ k.bits f h u) ∙ twice (bit f x);
      },
    )
