-- The names of a claimed witness: n of them that are a renaming, read one after another against the names seen so far.
use Rattle.std.specs.Prelude.{◌≡◌, List, ℕ, ◌+◌, ◌*◌, ◌%◌, ◌^◌, ◌≤◌, ◌<◌, length, get_or}
use Rattle.std.proofs.Common.{sym, ap, ap₂, ◌∙◌, subst, arith, below_more, shl_exact}
use Rattle.std.proofs.Math.Logic.{by_cases}
use Rattle.std.proofs.Math.Decide.{ℕ_discrete}
use Rattle.std.specs.Int.Bits.{bit_xor}
use Rattle.gf2.specs.Digits.{bit}
use Rattle.gf2.specs.DigitLaws.{bit_xor_lem, bit_none, bit_own, bit_other}
use Rattle.regular.specs.Same.{Renaming}

-- n names, each of the n factors being used once
pub record AllNamed (n : ℕ) (p : List ℕ) : Type 0 where
  pub count : length p ≡ n
  pub renaming : Renaming n p

-- the first f names are factors, each used once, and `seen` has the bits that they name
pub record Used (n : ℕ) (p : List ℕ) (f seen : ℕ) : Type 0 where
  pub within : (g : ℕ) → g < f → get_or p g 0 < n
  pub once : (g h : ℕ) → g < f → h < f → get_or p g 0 ≡ get_or p h 0 → g ≡ h
  pub marked : (g : ℕ) → g < f → bit (get_or p g 0) seen ≡ 1
  pub only : (e : ℕ) → bit e seen ≡ 1 → (g : ℕ) × ((g < f) × (get_or p g 0 ≡ e))

pub used_none : (n : ℕ) (p : List ℕ) → Used n p 0 0
used_none n p = record {
  within = λ g h. absurd (omega arith);
  once = λ g h l k e. absurd (omega arith);
  marked = λ g h. absurd (omega arith);
  only = λ e h. absurd (omega (arith, bit_none e));
}

-- the next name is out of range
pub past_not : (n : ℕ) (p : List ℕ) (f name : ℕ) → name ≡ get_or p f 0 → f < n → n ≤ name → AllNamed n p → ⊥
past_not n p f name is h l w = omega (arith, is, w.renaming.within f h)

-- the next name
module _ (n : ℕ) (p : List ℕ) (f seen name : ℕ) (s : Used n p f seen) (is : name ≡ get_or p f 0) where
  -- it is seen already
  pub twice_not : f < n → bit name seen ≡ 1 → AllNamed n p → ⊥
  twice_not h b w =
      let g = s.only name b in
      let l = g.1.0 in
      omega (arith, w.renaming.once g.0 f (omega arith) h (g.1.1 ∙ is))

  -- it is new
  module _ (low : name < n) (free : bit name seen ≡ 0) where
    apart : (g : ℕ) → g < f → get_or p g 0 ≡ name → ⊥
    apart g h e = let b : bit name seen ≡ 1 = subst (λ (i : ℕ). bit i seen ≡ 1) e (s.marked g h) in omega arith

    own : bit name (bit_xor seen (2 ^ name)) ≡ 1
    own = bit_xor_lem name seen (2 ^ name) ∙ ap₂ (λ (a b : ℕ). (a + b) % 2) free (bit_own name)

    other : (e : ℕ) → (e ≡ name → ⊥) → bit e (bit_xor seen (2 ^ name)) ≡ bit e seen
    other e ne = bit_xor_lem e seen (2 ^ name) ∙ omega (arith, bit_other e name ne)

    named : (g : ℕ) → g ≡ f → get_or p g 0 ≡ name
    named g e = ap (λ (i : ℕ). get_or p i 0) e ∙ sym is

    pub used_more : Used n p (f + 1) (bit_xor seen (2 ^ name))
    used_more = record {
      within = below_more _ _ s.within (omega (arith, is));
      once = λ g h l k e. by_cases (ℕ_discrete g f)
          (λ a. by_cases (ℕ_discrete h f) (λ b. a ∙ sym b) (λ b. absurd (apart h (omega arith) (sym e ∙ named g a))))
          (λ a. by_cases (ℕ_discrete h f) (λ b. absurd (apart g (omega arith) (e ∙ named h b))) (λ b. s.once g h (omega arith) (omega arith) e));
      marked = below_more _ _ (λ g h. other (get_or p g 0) (apart g h) ∙ s.marked g h)
          (subst (λ (i : ℕ). bit i (bit_xor seen (2 ^ name)) ≡ 1) is own);
      only = λ e b. by_cases (ℕ_discrete e name)
          (λ a. (f, (omega arith, sym (a ∙ is))))
          (λ a. let g = s.only e (sym (other e a) ∙ b) in (g.0, (omega (arith, g.1.0), g.1.1)));
    }

-- all names read
pub used_all : (n : ℕ) (p : List ℕ) (f seen : ℕ) → length p ≡ n → n ≤ f → Used n p f seen → AllNamed n p
used_all n p f seen e l s = record {
  count = e;
  renaming = record { within = λ g h. s.within g (omega arith); once = λ g h j k q. s.once g h (omega arith) (omega arith) q };
}

-- the bit that a name has in `seen`
pub mark_fits : (name : ℕ) → name < 16 → 1 * 2 ^ name % 65536 ≡ 2 ^ name
mark_fits name l = shl_exact 1 name 16 (omega arith) (omega arith) ∙ omega arith
