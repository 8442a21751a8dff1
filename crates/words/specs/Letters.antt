-- Letters of sums of words: a letter of one word only, the last letter, sums of sets of factors whose columns cancel.
use Rattle.std.specs.Prelude.{◌≡◌, ◌≢◌, List, ℕ, zero, suc, ◌+◌, ◌*◌, ◌%◌, ◌^◌, ◌≤◌, ◌<◌, get_or}
use Rattle.std.proofs.Common.{sym, ap, ap₂, ◌∙◌, arith, pow_mono}
use Rattle.std.proofs.Math.Logic.{by_cases}
use Rattle.std.proofs.Math.Decide.{ℕ_discrete, dec_le}
use Rattle.std.specs.Int.Bits.{bit_xor}
use Rattle.std.proofs.Math.Pow.{split}
use Rattle.gf2.specs.Digits.{bit}
use Rattle.gf2.specs.DigitLaws.{bit_xor_lem, bit_none}
use Rattle.regular.specs.Words.{total, Last}
use Rattle.standard.specs.Total.{total_xor, total_none}
use Rattle.words.specs.Pivots.{last_lt}

-- a word has one last letter
last_ge : (f w : ℕ) → Last f w → 2 ^ f ≤ w
last_ge f w e =
    let p : w ≡ 1 * 2 ^ f + w % 2 ^ f = sym (split w f) ∙ ap (λ (d : ℕ). d * 2 ^ f + w % 2 ^ f) e in
    omega arith

last_le : (e f w : ℕ) → Last e w → Last f w → f ≤ e
last_le e f w p q =
    by_cases (dec_le (suc e) f)
    (λ l. absurd (omega (arith, last_lt e w p, last_ge f w q, pow_mono {i = suc e} {j = f} l)))
    (λ l. omega arith)

pub last_unique : (e f w : ℕ) → Last e w → Last f w → e ≡ f
last_unique e f w p q = omega (arith, last_le e f w p q, last_le f e w q p)

-- a word that is taken or not
bit_times : (e x d : ℕ) → d < 2 → bit e (x * d) ≡ bit e x * d
bit_times e x zero h = let z : x * 0 ≡ 0 = omega arith in ap (λ (y : ℕ). bit e y) z ∙ bit_none e ∙ omega arith
bit_times e x (suc zero) h = let z : x * 1 ≡ x = omega arith in ap (λ (y : ℕ). bit e y) z ∙ omega arith
bit_times e x (suc (suc d)) h = absurd (omega arith)

-- a letter of none of the words
pub letter_none : (ws : List ℕ) (e k t : ℕ) → ((j : ℕ) → j < k → bit e (get_or ws j 0) ≡ 0) → bit e (total ws k t) ≡ 0
unfolding total
letter_none ws e zero t h = bit_none e
letter_none ws e (suc k) t h =
    let x = get_or ws k 0 in
    bit_xor_lem e (total ws k t) (x * bit k t)
    ∙ ap₂ (λ (p q : ℕ). (p + q) % 2) (letter_none ws e k t (λ j l. h j (omega arith)))
    (bit_times e x (bit k t) (omega arith) ∙ ap (λ (d : ℕ). d * bit k t) (h k (omega arith)))
    ∙ omega arith

-- a letter of the i-th word only: it stands in a sum exactly if the i-th word is taken
pub letter_one : (ws : List ℕ) (e i k t : ℕ) → i < k → bit e (get_or ws i 0) ≡ 1 → ((j : ℕ) → j < k → j ≢ i → bit e (get_or ws j 0) ≡ 0)
    → bit e (total ws k t) ≡ bit i t
unfolding total
letter_one ws e i zero t l b h = absurd (omega arith)
letter_one ws e i (suc k) t l b h =
    let x = get_or ws k 0 in
    bit_xor_lem e (total ws k t) (x * bit k t)
    ∙ by_cases (ℕ_discrete k i)
    (λ q.
    let c : bit e x ≡ 1 = ap (λ (j : ℕ). bit e (get_or ws j 0)) q ∙ b in
    ap₂ (λ (p r : ℕ). (p + r) % 2) (letter_none ws e k t (λ j r. h j (omega arith) (λ z. omega arith)))
    (bit_times e x (bit k t) (omega arith) ∙ ap (λ (d : ℕ). d * bit k t) c)
    ∙ ap (λ (j : ℕ). (0 + 1 * bit j t) % 2) q ∙ omega arith)
    (λ q.
    ap₂ (λ (p r : ℕ). (p + r) % 2) (letter_one ws e i k t (omega arith) b (λ j r z. h j (omega arith) z))
    (bit_times e x (bit k t) (omega arith) ∙ ap (λ (d : ℕ). d * bit k t) (h k (omega arith) q))
    ∙ omega arith)

-- sums of sets whose columns cancel
pub total_cancels : (a : List ℕ) (n : ℕ) (ws : List ℕ) (k t : ℕ) → ((j : ℕ) → j < k → total a n (get_or ws j 0) ≡ 0) → total a n (total ws k t) ≡ 0
unfolding total
total_cancels a n ws zero t h = total_none a n
total_cancels a n ws (suc k) t h =
    total_xor a n (total ws k t) (get_or ws k 0 * bit k t)
    ∙ ap₂ bit_xor (total_cancels a n ws k t (λ j l. h j (omega arith))) (times (bit k t) (omega arith))
  where
    times : (d : ℕ) → d < 2 → total a n (get_or ws k 0 * d) ≡ 0
    times zero l = let z : get_or ws k 0 * 0 ≡ 0 = omega arith in ap (total a n) z ∙ total_none a n
    times (suc zero) l = let z : get_or ws k 0 * 1 ≡ get_or ws k 0 = omega arith in ap (total a n) z ∙ h k (omega arith)
    times (suc (suc d)) l = absurd (omega arith)
