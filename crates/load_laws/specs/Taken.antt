-- What an accepted call on loads answers is taken by every other call: its record, and the bytes that it filled of the lent list.
use Rattle.std.specs.Prelude.{◌≡◌, List, ℕ, suc, ◌+◌, ◌*◌, ◌≤◌, ◌<◌, length, get_or, take}
use Rattle.std.proofs.Common.{ap₂, subst, ◌∙◌, inl, inr, arith, get_or-take, length-take-le}
use Rattle.std.proofs.Math.Logic.{by_cases}
use Rattle.std.proofs.Math.Decide.{dec_lt}
use Rattle.regular.specs.Accepted.{accepted_size}
use Rattle.regular.specs.Loads.{Load, load_faults, LoadsDesign, LoadsInto}
use Rattle.regular.specs.PlanBytes.{byte_values, plan_bytes, mask_in}
use Rattle.regular.specs.RefusalLaws.{none_lowest}
use Rattle.regular.specs.Refusals.{LentFault, either, design_faults, columns_faults, Lowest}
use Rattle.regular.specs.Answers.{LoadAnswer}
use Rattle.regular.specs.declared.StateAnswer.{StateAnswer}
use Rattle.load_laws.specs.LoadLaws.{load_accepted, load_plan_accepted}

pub answer_accepted : (n g seed : ℕ) (r : LoadAnswer) → LoadsDesign n g seed r → r.number ≡ 0 → Lowest (design_faults n g r.design) 0
answer_accepted n g seed r k e =
    load_accepted n g seed
    (accepted_size n g (λ i f. none_lowest (load_faults n g) (subst (Lowest (load_faults n g)) e k.lowest) i (inl f))) r.design (k.design e)

module _ (n g seed : ℕ) (entry exit : List ℕ) (r : StateAnswer) (k : LoadsInto n g seed entry exit r) (e : r.number ≡ 0) where
  abbrev faults : ℕ → Type 0
  faults = either (load_faults n g) (LentFault (plan_bytes n) entry)

  none : (i : ℕ) → faults i → ⊥
  none = none_lowest faults (subst (Lowest faults) e k.plan.number)

  fits : plan_bytes n ≤ length exit
  fits =
      by_cases (dec_lt (length entry) (plan_bytes n)) (λ h. absurd (none 8 (inr (LentFault.few h)))) (λ h. omega (arith, k.plan.size))

  abbrev plan : List ℕ
  plan = take (plan_bytes n) exit

  at : (f : ℕ) → f < plan_bytes n → get_or plan f 0 ≡ get_or exit f 0
  at f h = get_or-take (plan_bytes n) exit f 0 h

  load : Load n g seed plan
  load =
      let l = (k.plan.result e).0 in
      record { before = l.before; unswapped = l.unswapped; swaps = λ f h. at f (omega arith) ∙ l.swaps f h }

  unswitched : mask_in n plan ≡ 0
  unswitched = ap₂ (λ (low high : ℕ). low + byte_values * high) (at n (omega arith)) (at (suc n) (omega arith)) ∙ (k.plan.result e).1

  pub lent_accepted : Lowest (columns_faults n g plan) 0
  lent_accepted =
      load_plan_accepted n g seed (accepted_size n g (λ i f. none i (inl (inl f)))) plan (length-take-le (plan_bytes n) exit fits) load unswitched
