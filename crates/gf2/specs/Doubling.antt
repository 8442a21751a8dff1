-- A table that is doubled by a number: its places, each summed with the number, stand again behind them. The loop that does it, place by place.
use Rattle.std.specs.Prelude.{◌≡◌, refl, List, ℕ, ◌+◌, ◌≤◌, ◌<◌, length, get_or, set}
use Rattle.std.proofs.Common.{ap, ◌∙◌, subst, arith, length-set, get_or-set_same, get_or-set_other}
use Rattle.std.proofs.Math.Logic.{by_cases}
use Rattle.std.proofs.Math.Decide.{ℕ_discrete}
use Rattle.std.specs.Int.Bits.{bit_xor}

-- t is s with its first k places, x exclusive-or, written from place half on
pub record Doubling (x half k : ℕ) (s t : List ℕ) : Type 0 where
  pub size : length t ≡ length s
  pub low : (i : ℕ) → i < half → get_or t i 0 ≡ get_or s i 0
  pub high : (i : ℕ) → i < k → get_or t (half + i) 0 ≡ bit_xor (get_or s i 0) x
  pub past : (i : ℕ) → half + k ≤ i → get_or t i 0 ≡ get_or s i 0

pub doubling_none : (x half : ℕ) (s : List ℕ) → Doubling x half 0 s s
doubling_none x half s = record { size = refl; low = λ i h. refl; high = λ i h. absurd (omega arith); past = λ i h. refl }

pub doubling_more : (x half k : ℕ) (s t : List ℕ) → k < half → half + k < length t → Doubling x half k s t
    → Doubling x half (k + 1) s (set t (half + k) (bit_xor (get_or t k 0) x))
doubling_more x half k s t hk l c =
    let v = bit_xor (get_or t k 0) x in
    record {
      size = length-set t (half + k) v ∙ c.size;
      low = λ i h. get_or-set_other t (half + k) i v 0 (λ e. omega arith) ∙ c.low i h;
      high = λ i h. by_cases (ℕ_discrete i k)
          (λ e. rw e (get_or-set_same t (half + k) v 0 l ∙ ap (λ (y : ℕ). bit_xor y x) (c.low k hk)))
          (λ ne. get_or-set_other t (half + k) (half + i) v 0 (λ e. omega arith) ∙ c.high i (omega arith));
      past = λ i h. get_or-set_other t (half + k) i v 0 (λ e. omega arith) ∙ c.past i (omega arith);
    }

pub doubling_all : (x half k : ℕ) (s t : List ℕ) → k ≤ half → half ≤ k → Doubling x half k s t → Doubling x half half s t
doubling_all x half k s t p q c = let e : k ≡ half = omega arith in subst (λ (i : ℕ). Doubling x half i s t) e c
