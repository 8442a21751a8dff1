-- Places swapped one by one: all that is left at first, one turn, and nothing left.
use Rattle.std.specs.Prelude.{◌≡◌, ℕ, zero, suc, ◌+◌, ◌-◌, ◌%◌, ◌^◌, ◌<◌, List}
use Rattle.std.proofs.Common.{sym, ap, subst, ◌∙◌, arith}
use Rattle.regular.specs.Loads.{state_after, draw, swapped, yielded, swap}
use Rattle.loads.specs.Drawing.{PlacesSwapped, PlacesLeft}

pub left_all : (n state : ℕ) (c : List ℕ) → PlacesLeft n state c (n - 1) state c
left_all n state c seed k e =
    let none : k + (n - 1 - (n - 1)) ≡ k = omega arith in
    (ap (λ (i : ℕ). swapped seed (n - 1) i c) none, e ∙ ap (state_after seed) (sym none))

pub left_turn : (n before : ℕ) (b : List ℕ) (i state : ℕ) (c : List ℕ) (next j : ℕ) → 0 < i → i < n → PlacesLeft n before b i state c
    → next ≡ (state + 2654435769) % 2 ^ 32 → j ≡ yielded next % (i + 1) → PlacesLeft n before b (i - 1) next (swap c i j)
unfolding swapped state_after
left_turn n before b zero state c next j h l p is place seed k e = absurd (omega arith)
left_turn n before b (suc i) state c next j h l p is place seed k e =
    let q = p seed k e in
    let at = k + (n - 1 - suc i) in
    let more : k + (n - 1 - i) ≡ suc at = omega arith in
    let drawn : next ≡ state_after seed (suc at) = is ∙ ap (λ (s : ℕ). (s + 2654435769) % 2 ^ 32) q.1 in
    let to : j ≡ draw seed at % (suc i + 1) = place ∙ ap (λ (s : ℕ). yielded s % (suc i + 1)) drawn in
    let less : suc i - 1 ≡ i = omega arith in
    let rest : ℕ → ℕ = λ d. k + (n - 1 - d) in
    subst (λ (d : ℕ). (swapped seed d (rest d) (swap c (suc i) j) ≡ swapped seed (n - 1) k b) × (next ≡ state_after seed (rest d))) (sym less) (
      ap (λ (d : ℕ). swapped seed i d (swap c (suc i) j)) more ∙ ap (λ (d : ℕ). swapped seed i (suc at) (swap c (suc i) d)) to ∙ q.0,
      drawn ∙ ap (state_after seed) (sym more),
    )

pub left_none : (n before : ℕ) (b : List ℕ) (i state : ℕ) (c : List ℕ) → i ≡ 0 → PlacesLeft n before b i state c → PlacesSwapped n before b state c
unfolding swapped
left_none n before b i state c none p seed k e =
    let q = subst (λ (d : ℕ). PlacesLeft n before b d state c) none p seed k e in
    let all : n - 1 - 0 ≡ n - 1 = omega arith in
    (q.0, q.1 ∙ ap (λ (d : ℕ). state_after seed (k + d)) all)
