-- A call that lends on: it passes a refusal on, refuses a list of too few places by 8, or fills the list.
use Rattle.std.specs.Prelude.{◌≡◌, refl, List, [], ◌∷◌, ◌++◌, ℕ, zero, suc, ◌+◌, ◌≤◌, ◌<◌, length, drop, take}
use Rattle.std.proofs.Common.{sym, ap₂, subst, ◌∙◌, arith, get_or-take, length-take-le}
use Rattle.std.proofs.Math.Logic.{by_cases}
use Rattle.std.proofs.Math.Seq.{paste}
use Rattle.std.proofs.Math.Decide.{dec_lt}
use Rattle.regular.specs.Refusals.{LentFault, either, Lowest, Fills}
use Rattle.regular.specs.RefusalLaws.{lowest_first, lowest_then, lent_is, lent_short, lent_fits}
use Rattle.regular.specs.Smallest.{Equal}
use Rattle.lent.specs.Copied.{Copied, Starts, copied_begins, copied_past, copied_size}

-- what becomes of a lent list when the plan has the refusal `number`, 0 if accepted: k places are filled by a result
pub record Lends (number k : ℕ) (Result : List ℕ → Type 0) (entry exit : List ℕ) (r : ℕ) : Type 0 where
  pub refused : 0 < number → (r ≡ number) × (exit ≡ entry)
  pub short : number ≡ 0 → length entry < k → (r ≡ 8) × (exit ≡ entry)
  pub filled : number ≡ 0 → k ≤ length entry → (r ≡ 0) × (Result exit × (drop k exit ≡ drop k entry))
  pub size : length exit ≡ length entry

-- refused
pub lends_refused : (number k : ℕ) (Result : List ℕ → Type 0) (ys : List ℕ) → (number ≡ 0 → ⊥) → Lends number k Result ys ys number
lends_refused number k Result ys h = record {
  refused = λ _. (refl, refl);
  short = λ e _. absurd (h e);
  filled = λ e _. absurd (h e);
  size = refl;
}

-- the list is too short
pub lends_short : (k : ℕ) (Result : List ℕ → Type 0) (ys : List ℕ) → length ys < k → Lends 0 k Result ys ys 8
lends_short k Result ys h = record {
  refused = λ l. absurd (omega arith);
  short = λ _ _. (refl, refl);
  filled = λ _ l. absurd (omega arith);
  size = refl;
}

-- filled
pub lends_filled : (k : ℕ) (Result : List ℕ → Type 0) (ys zs : List ℕ) → k ≤ length ys → length zs ≡ length ys → Result zs → drop k zs ≡ drop k ys
    → Lends 0 k Result ys zs 0
lends_filled k Result ys zs h e r d = record {
  refused = λ l. absurd (omega arith);
  short = λ _ l. absurd (omega arith);
  filled = λ _ _. (refl, (r, d));
  size = e;
}

pub lends_copied : (xs ys zs : List ℕ) → length xs ≤ length ys → Copied xs ys zs → Lends 0 (length xs) (Starts xs) ys zs 0
lends_copied xs ys zs h c =
    lends_filled (length xs) (Starts xs) ys zs h (copied_size xs ys zs h c) (copied_begins xs ys zs h c) (copied_past xs ys zs h c)

-- what the result means
pub lends_means : (number k : ℕ) (A B : List ℕ → Type 0) (ys zs : List ℕ) (r : ℕ) → (number ≡ 0 → A zs → B zs) → Lends number k A ys zs r
    → Lends number k B ys zs r
lends_means number k A B ys zs r h l = record {
  refused = l.refused;
  short = l.short;
  filled = λ e p. let q = l.filled e p in (q.0, (h e q.1.0, q.1.1));
  size = l.size;
}

-- the first k places of an array, lent on
pub lends_part : (k : ℕ) (arr ys zs : List ℕ) (r : ℕ) → k ≡ length (take k arr) → Lends 0 (length (take k arr)) (Starts (take k arr)) ys zs r
    → Lends 0 k (λ zs. Equal k zs arr) ys zs r
lends_part k arr ys zs r e l =
    subst (λ (j : ℕ). Lends 0 j (λ zs. Equal k zs arr) ys zs r) (sym e)
    (lends_means 0 (length (take k arr)) (Starts (take k arr)) (λ zs. Equal k zs arr) ys zs r
    (λ _ b i h. b i (omega arith) ∙ get_or-take k arr i 0 h) l)

-- .. where the list has the places
pub record Lent (k : ℕ) (arr entry exit : List ℕ) : Type 0 where
  pub places : Equal k exit arr
  pub past : drop k exit ≡ drop k entry
  pub size : length exit ≡ length entry

pub lends_lent : (k : ℕ) (arr ys zs : List ℕ) (r : ℕ) → k ≤ length ys → Lends 0 k (λ zs. Equal k zs arr) ys zs r → Lent k arr ys zs
lends_lent k arr ys zs r h l = let f = l.filled refl h in record { places = f.1.0; past = f.1.1; size = l.size }

take_none : (ys : List ℕ) → take 0 ys ≡ []
take_none [] = refl
take_none (y ∷ ys) = refl

pub pasted_lent : (k : ℕ) (arr ys zs : List ℕ) → k ≤ length arr → k ≤ length ys → zs ≡ paste ys 0 arr k → Lent k arr ys zs
pasted_lent k arr ys zs l h e =
    let xs = take k arr in
    let s : length xs ≡ k = length-take-le k arr l in
    let fits : length xs ≤ length ys = omega (arith, s) in
    let j : 0 + k ≡ length xs = omega (arith, s) in
    let c : Copied xs ys zs = e ∙ ap₂ (λ (p : List ℕ) (j : ℕ). (p ++ xs) ++ drop j ys) (take_none ys) j in
    record {
      places = λ i q. copied_begins xs ys zs fits c i (omega (arith, s)) ∙ get_or-take k arr i 0 q;
      past = subst (λ (j : ℕ). drop j zs ≡ drop j ys) s (copied_past xs ys zs fits c);
      size = copied_size xs ys zs fits c;
    }

-- the call's contract, from the lowest fault of its plan
pub lends_fills : (fault : ℕ → Type 0) (number k : ℕ) (Result : List ℕ → Type 0) (ys zs : List ℕ) (r : ℕ) → ((j : ℕ) → fault j → j ≤ 7) → Lowest fault number
    → Lends number k Result ys zs r → Fills (either fault (LentFault k ys)) k Result ys zs r
lends_fills fault zero k Result ys zs r most low l =
    by_cases (dec_lt (length ys) k)
    (λ h. let s = l.short refl h in subst (λ (a : ℕ). Fills (either fault (LentFault k ys)) k Result ys zs a) (sym s.0)
    (record {
      number = lowest_then fault (LentFault k ys) 8 low (lent_short k ys h);
      refused = λ _. s.1;
      result = λ e. absurd (omega arith);
      past = λ e. absurd (omega arith);
      size = l.size;
    }))
    (λ h. let s = l.filled refl (omega arith) in subst (λ (a : ℕ). Fills (either fault (LentFault k ys)) k Result ys zs a) (sym s.0)
    (record {
      number = lowest_then fault (LentFault k ys) 0 low (lent_fits k ys (omega arith));
      refused = λ e. absurd (omega arith);
      result = λ _. s.1.0;
      past = λ _. s.1.1;
      size = l.size;
    }))
lends_fills fault (suc number) k Result ys zs r most low l =
    let s = l.refused (omega arith) in
    subst (λ (a : ℕ). Fills (either fault (LentFault k ys)) k Result ys zs a) (sym s.0)
    (record {
      number = lowest_first fault (LentFault k ys) (suc number) (omega arith) low
          (λ j f. omega (arith, lent_is k ys j f, most (suc number) (low.applies (omega arith))));
      refused = λ _. s.1;
      result = λ e. absurd (omega arith);
      past = λ e. absurd (omega arith);
      size = l.size;
    })
