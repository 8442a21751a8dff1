-- Full factorials, the plans without words: their resolution is above that of every other plan of their factors (document 02, request 2), and they
-- meet every wanted resolution.
use Rattle.std.specs.Prelude.{◌≡◌, List, ℕ, ◌+◌, ◌-◌, ◌^◌, ◌≤◌, ◌<◌}
use Rattle.std.proofs.Common.{ap, arith, pow_mono}
use Rattle.gf2.specs.Counts.{Count}
use Rattle.regular.specs.Pattern.{Resolution}
use Rattle.regular.specs.Runs.{Runs, Table, runs_of}
use Rattle.regular.specs.Words.{Word, NoShort}
use Rattle.counts.specs.Counting.{count_zero, count_some}
use Rattle.counts.specs.Patterns.{word_some, word_most}
use Rattle.counts.specs.PlanCounts.{table_words}
use Rattle.counts.specs.Resolutions.{resolution_unique}

module _ (n : ℕ) (s : Runs) where
  -- a resolution is from 1 to n + 1, so none is 0
  pub resolution_some : (k : ℕ) → Resolution n s k → 1 ≤ k
  resolution_some k (Resolution.full h) = omega arith
  resolution_some k (Resolution.shortest w h least) = word_some n s w h

  pub resolution_most : (k : ℕ) → Resolution n s k → k ≤ n + 1
  resolution_most k (Resolution.full h) = omega arith
  resolution_most k (Resolution.shortest w h least) = omega (arith, word_most n s w h)

  -- a resolution of at least r is the same as no word of fewer than r letters, where r is at most n + 1. Past that a plan without words has no such word,
  -- and a resolution below r
  pub resolution_long : (r k : ℕ) → Resolution n s k → r ≤ k → NoShort n r s
  resolution_long r k (Resolution.full h) l w is = absurd (h w is)
  resolution_long r k (Resolution.shortest v h least) l w is = omega (arith, least w is)

  pub long_resolution : (r k : ℕ) → r ≤ n + 1 → Resolution n s k → NoShort n r s → r ≤ k
  long_resolution r k l (Resolution.full h) long = l
  long_resolution r k l (Resolution.shortest w h least) long = long w h

-- a plan of g generators has 2^g - 1 words: none for g 0, else some
module _ (n g : ℕ) (s : Runs) (words : Count (Word n s) (2 ^ g - 1)) where
  wordless : g ≡ 0 → (w : ℕ) → Word n s w → ⊥
  wordless e = count_zero (Word n s) (2 ^ g - 1) (ap (λ (k : ℕ). 2 ^ k - 1) e) words

  -- a full factorial has resolution n + 1 and meets every wanted resolution; any other plan has a resolution of at most n
  pub full_resolution : g ≡ 0 → Resolution n s (n + 1)
  full_resolution e = Resolution.full (wordless e)

  pub full_meets : g ≡ 0 → (r : ℕ) → NoShort n r s
  full_meets e r w is = absurd (wordless e w is)

  pub fraction_resolution : 0 < g → (k : ℕ) → Resolution n s k → k ≤ n
  fraction_resolution some k (Resolution.full h) =
      let w = count_some (Word n s) (2 ^ g - 1) (omega (arith, pow_mono {i = 1} {j = g} some)) words in
      absurd (h w.0 w.1)
  fraction_resolution some k (Resolution.shortest w h least) = word_most n s w h

-- the request's title: of the regular plans of n factors, a full factorial sorts above every other
pub full_first : (n m : ℕ) (s t : List ℕ) → Table n n s → Table n m t → m < n → (a b : ℕ) → Resolution n (runs_of s) a → Resolution n (runs_of t) b → b < a
full_first n m s t full fraction few a b h k =
    omega (
      arith,
      resolution_unique n (runs_of s) a (n + 1) h (full_resolution n (n - n) (runs_of s) (table_words n n s full) (omega arith)),
      fraction_resolution n (n - m) (runs_of t) (table_words n m t fraction) (omega arith) b k,
    )
