-- What is printed for a line is one list of bytes (`output_unique`), and its first nine bytes, or more of them, decide it (`first_nine`).
use Rattle.std.specs.Prelude.{◌≡◌, refl, List, [], ◌∷◌, ◌++◌, ℕ, zero, suc, ◌+◌, ◌-◌, ◌≤◌, ◌<◌, length, get_or, take}
use Rattle.std.proofs.Common.{sym, ap, ap₂, subst, ◌∙◌, arith, take_all, length-take-le}
use Rattle.std.proofs.Math.Logic.{by_cases}
use Rattle.std.proofs.Math.Decide.{dec_le}
use Rattle.regular.specs.Columns.{plan_of}
use Rattle.regular.specs.Pattern.{Pattern, Resolution, of_length}
use Rattle.regular.specs.Book.{each}
use Rattle.regular.specs.RefusalLaws.{lowest_unique}
use Rattle.regular.specs.Smallest.{Equal}
use Rattle.standard.specs.Runs.{plan_cols}
use Rattle.words.specs.Switches.{agree_sym, pattern_agree, resolution_agree}
use Rattle.counts.specs.Patterns.{pattern_unique}
use Rattle.counts.specs.Resolutions.{resolution_unique}
use Rattle.catalogue_laws.specs.Demand.{catalogue_unique}
use Rattle.size_lines.specs.Lines.{Digit, Number, one, two, SizeLine}
use Rattle.printed_lines.specs.Text.{decimal, next, columns_text, counts_text, columns_word, pattern_word, newline, res, header_line, entry, refused}
use Rattle.printing.specs.Output.{Lines, printed_faults, SizeOutput, Output, line_room}

-- a line gives one size
digit_same : {l : List ℕ} {p d e : ℕ} → Digit l p d → Digit l p e → d ≡ e
digit_same a b = omega (arith, a.byte, b.byte)

abbrev Ends : List ℕ → ℕ → Type 0
Ends l p = (x : ℕ) → Digit l p x → ⊥

number_same : {l : List ℕ} {p v e w f : ℕ} → Number l p v e → Number l p w f → Ends l e → Ends l f → (v ≡ w) × (e ≡ f)
number_same (one d D) (one e E) x y = (digit_same D E, refl)
number_same (one d D) (two e f E F) x y = absurd (x f F)
number_same (two d e D E) (one f F) x y = absurd (y e E)
number_same (two d e D E) (two f h F H) x y = (omega (arith, digit_same D F, digit_same E H), refl)

space_ends : {l : List ℕ} {p : ℕ} → get_or l p 0 ≡ 32 → Ends l p
space_ends h x d = omega (arith, h, d.byte)

past : (l : List ℕ) → get_or l (length l) 0 ≡ 0
past [] = refl
past (x ∷ xs) = past xs

line_ends : (l : List ℕ) → Ends l (length l)
line_ends l x d = omega (arith, past l, d.byte)

size_unique : {l : List ℕ} {n g r x y z : ℕ} → SizeLine l n g r → SizeLine l x y z → (n ≡ x) × (g ≡ y) × (r ≡ z)
size_unique {l} {n} {g} {r} {x} {y} {z} s t =
    let p = number_same s.first t.first (space_ends s.space1) (space_ends t.space1) in
    let q = number_same s.second (subst (λ (k : ℕ). Number l (k + 1) y t.b) (sym p.1) t.second) (space_ends s.space2)
    (space_ends t.space2) in
    let u = number_same s.third (subst (λ (k : ℕ). Number l (k + 1) z (length l)) (sym q.1) t.third) (line_ends l) (line_ends l) in
    (p.0, q.0, u.0)

-- an entry's line is fixed by its columns
each_same : (F G : ℕ → List ℕ) (k : ℕ) → ((j : ℕ) → j < k → F j ≡ G j) → each F k ≡ each G k
unfolding each
each_same F G zero h = refl
each_same F G (suc k) h = ap₂ ◌++◌ (each_same F G k (λ j l. h j (omega arith))) (h k (omega arith))

module _ (n m place : ℕ) (c d : List ℕ) (same : Equal n c d) (i j : ℕ) (p q : List ℕ) where
  entry_unique : Resolution n (plan_of n m c) i → Resolution n (plan_of n m d) j → Pattern n (plan_of n m c) p → Pattern n (plan_of n m d) q
      → entry n place i c p ≡ entry n place j d q
  entry_unique a b x y =
      let s = agree_sym (plan_of n m c) (plan_of n m d) (plan_cols n m c d same) in
      let e : i ≡ j = resolution_unique n (plan_of n m c) i j a (resolution_agree n (plan_of n m d) (plan_of n m c) s j b) in
      let t : columns_text n c ≡ columns_text n d = each_same (λ f. next (get_or c f 0)) (λ f. next (get_or d f 0)) n
      (λ f l. ap (λ (v : ℕ). next v) (same f l)) in
      let u : counts_text n p ≡ counts_text n q =
      each_same (λ k. next (of_length p (3 + k))) (λ k. next (of_length q (3 + k))) (n - 2)
      (λ k l. ap (λ (v : ℕ). next v) (pattern_unique n (plan_of n m c) p q x (pattern_agree n (plan_of n m d) (plan_of n m c) s q y) (3 + k)
      (omega arith) (omega arith))) in
      ap (λ (v : ℕ). entry n place v c p) e
      ∙ ap (λ (v : List ℕ). (decimal place ++ res ++ next j ++ columns_word ++ v) ++ pattern_word ++ counts_text n p ++ newline) t
      ∙ ap (λ (v : List ℕ). (decimal place ++ res ++ next j ++ columns_word ++ columns_text n d) ++ pattern_word ++ v ++ newline) u

lines_unique : (n g : ℕ) (c d : ℕ → List ℕ) (k : ℕ) (a b : List ℕ) → ((i : ℕ) → i < k → Equal n (c i) (d i))
    → Lines n g c k a → Lines n g d k b → a ≡ b
lines_unique n g c d zero a b same Lines.none Lines.none = refl
lines_unique n g c d (suc k) a b same (Lines.more j s i p u x y) (Lines.more l t h q v z w) =
    ap₂ ◌++◌ (lines_unique n g c d k s t (λ f e. same f (omega arith)) u v)
    (entry_unique n (n - g) (suc k) (c k) (d k) (same k (omega arith)) i h p q x z y w)

size_output_unique : (n g r : ℕ) (a b : List ℕ) → SizeOutput n g r a → SizeOutput n g r b → a ≡ b
size_output_unique n g r a b (SizeOutput.refusal i h x) (SizeOutput.refusal j l y) = ap (λ (k : ℕ). refused k) (lowest_unique (printed_faults n g r) i j x y)
size_output_unique n g r a b (SizeOutput.refusal i h x) (SizeOutput.listing k c t y z w) =
    absurd (omega (arith, lowest_unique (printed_faults n g r) i 0 x y, h))
size_output_unique n g r a b (SizeOutput.listing k c t y z w) (SizeOutput.refusal i h x) =
    absurd (omega (arith, lowest_unique (printed_faults n g r) i 0 x y, h))
size_output_unique n g r a b (SizeOutput.listing k c s x y z) (SizeOutput.listing l d t u v w) =
    let e = catalogue_unique n (n - g) r k l c d y v in
    ap (λ (j : ℕ). header_line n g r j ++ s) e.0
    ∙ ap (λ (v : List ℕ). header_line n g r l ++ v) (lines_unique n g c d k s t e.1 z (subst (λ (j : ℕ). Lines n g d j t) (sym e.0) w))

pub output_unique : (line a b : List ℕ) → Output line a → Output line b → a ≡ b
output_unique line a b (Output.no_size h) (Output.no_size k) = refl
output_unique line a b (Output.no_size h) (Output.size n g r t s o) = absurd (h n g r s)
output_unique line a b (Output.size n g r t s o) (Output.no_size h) = absurd (h n g r s)
output_unique line a b (Output.size n g r t s o) (Output.size x y z u v p) =
    let e = size_unique v s in
    size_output_unique n g r t u o
    (subst (λ (k : ℕ). SizeOutput n g k u) e.2 (subst (λ (k : ℕ). SizeOutput n k z u) e.1 (subst (λ (k : ℕ). SizeOutput k y z u) e.0 p)))

-- a line that gives a size has at most eight bytes, so that the first nine of a line decide
number_short : {l : List ℕ} {p v e : ℕ} → Number l p v e → e ≤ p + 2
number_short (one d D) = omega arith
number_short (two d e D E) = omega arith

size_short : {l : List ℕ} {n g r : ℕ} → SizeLine l n g r → length l ≤ 8
size_short s = omega (arith, number_short s.first, number_short s.second, number_short s.third)

long_output : (line a t : List ℕ) → 8 < length line → 8 < length a → Output a t → Output line t
long_output line a t h k (Output.no_size x) = Output.no_size (λ n g r s. omega (arith, size_short s, h))
long_output line a t h k (Output.size n g r u s o) = absurd (omega (arith, size_short s, k))

pub first_nine : (k : ℕ) (line t : List ℕ) → line_room ≤ k → Output (take k line) t → Output line t
first_nine k line t most o =
    by_cases (dec_le (length line) k)
    (λ h. subst (λ (l : List ℕ). Output l t) (take_all k line h) o)
    (λ h. long_output line (take k line) t (omega (arith, h, most)) (omega (arith, most, length-take-le k line (omega (arith, h)))) o)
