-- Adding text to a list: byte by byte, text after text, number after number; and the digits of a number.
use Rattle.std.specs.Prelude.{◌≡◌, refl, Bool, cond, List, [], ◌∷◌, ◌++◌, ℕ, zero, suc, ◌+◌}
use Rattle.std.specs.Prelude.{◌-◌, ◌*◌, ◌/◌, ◌%◌, ◌^◌, ◌≤◌, ◌<◌, length, get_or, take, drop, set}
use Rattle.std.proofs.Common.{sym, ap, ◌∙◌, subst, append_assoc, append-nil, arith, add-zero, add-suc, le_of_eq}
use Rattle.std.proofs.Common.{add-one, lt-ltb, le-ltb, length-set, length-append, take-suc, take-suc-set, drop-drop, drop-set-lt}
use Rattle.std.proofs.Math.Nat.{pow-succ'}
use Rattle.std.proofs.Math.Decide.{dec_le, dec_lt}
use Rattle.std.proofs.Math.Logic.{by_cases}
use Rattle.io.specs.Digits.{last_digits, hex_digit_ascii, IsDigitCount}
use Rattle.std.proofs.Math.Seq.{take-length}
use Rattle.regular.specs.Book.{each}
use Rattle.regular.specs.Pattern.{of_length}
use Rattle.printed_lines.specs.Text.{TextAdded, digits_up_to, decimal, next, columns_text, counts_text}

-- nothing was added yet
pub adds_none : (xs : List ℕ) (at : ℕ) → TextAdded xs xs at [] at
adds_none xs at = record { text = sym (append-nil (take at xs)); place = omega arith; rest = refl; size = refl }

-- what is untouched from a place on is so from a later one
later : (xs ys : List ℕ) (i j : ℕ) → i ≤ j → drop i ys ≡ drop i xs → drop j ys ≡ drop j xs
later xs ys i j h e =
    let k : i + (j - i) ≡ j = omega arith in
    subst (λ (p : ℕ). drop p ys ≡ drop p xs) k (sym (drop-drop (j - i) i ys) ∙ ap (drop (j - i)) e ∙ drop-drop (j - i) i xs)

-- one byte more
adds_byte : (xs ys : List ℕ) (at : ℕ) (t : List ℕ) (end b : ℕ) → TextAdded xs ys at t end → end < length ys
    → TextAdded xs (set ys end b) at (t ++ (b ∷ [])) (end + 1)
adds_byte xs ys at t end b a h =
    record {
      text =
          ap (λ (k : ℕ). take k (set ys end b)) (add-one end) ∙ take-suc-set ys end b h ∙ ap (λ (l : List ℕ). l ++ (b ∷ [])) a.text
          ∙ append_assoc (take at xs) t (b ∷ []);
      place = omega (arith, a.place, length-append t (b ∷ []));
      rest = drop-set-lt (end + 1) ys end b (omega arith) ∙ later xs ys end (end + 1) (omega arith) a.rest;
      size = length-set ys end b ∙ a.size;
    }

-- text after text
pub adds_more : {xs ys zs : List ℕ} {at mid end : ℕ} {t u : List ℕ} → TextAdded xs ys at t mid → TextAdded ys zs mid u end → TextAdded xs zs at (t ++ u) end
adds_more {xs} {ys} {zs} {at} {mid} {end} {t} {u} a b =
    record {
      text = b.text ∙ ap (λ (l : List ℕ). l ++ u) a.text ∙ append_assoc (take at xs) t u;
      place = omega (arith, a.place, b.place, length-append t u);
      rest = b.rest ∙ later xs ys mid end (omega (arith, b.place)) a.rest;
      size = b.size ∙ a.size;
    }

pub adds_is : {xs ys : List ℕ} {at end : ℕ} {t u : List ℕ} → t ≡ u → TextAdded xs ys at t end → TextAdded xs ys at u end
adds_is {xs} {ys} {at} {end} e a = subst (λ (l : List ℕ). TextAdded xs ys at l end) e a

-- a turn of the loop over a text, and its end
pub text_turn : (xs ys : List ℕ) (at : ℕ) (text : List ℕ) (i end : ℕ) → i < length text → end < length ys → TextAdded xs ys at (take i text) end
    → TextAdded xs (set ys end (get_or text i 0)) at (take (i + 1) text) (end + 1)
text_turn xs ys at text i end h l a =
    adds_is (sym (take-suc text i 0 h) ∙ ap (λ (k : ℕ). take k text) (sym (add-one i))) (adds_byte xs ys at (take i text) end (get_or text i 0) a l)

pub text_all : (xs ys : List ℕ) (at : ℕ) (text : List ℕ) (i end : ℕ) → i ≤ length text → length text ≤ i → TextAdded xs ys at (take i text) end
    → TextAdded xs ys at text end
text_all xs ys at text i end h l a =
    let e : i ≡ length text = omega arith in
    adds_is (ap (λ (k : ℕ). take k text) e ∙ take-length text) a

-- the digits of a number: `io::decimal` makes the fewest that hold it
glyph_is : (d : ℕ) → d < 10 → hex_digit_ascii d ≡ 48 + d
glyph_is d h = ap (λ (b : Bool). cond b (48 + d) (87 + d)) (lt-ltb d 10 h)

one_digit : (k x : ℕ) → x < 10 → hex_digit_ascii (x % 10) ∷ [] ≡ digits_up_to (suc k) x
unfolding digits_up_to
one_digit k x h =
    let low : x % 10 ≡ x = omega arith in
    ap (λ (y : ℕ). hex_digit_ascii y ∷ []) low ∙ ap (λ (y : ℕ). y ∷ []) (glyph_is x h)
    ∙ ap (λ (b : Bool). cond b ((48 + x) ∷ []) (digits_up_to k (x / 10) ++ ((48 + x % 10) ∷ []))) (sym (lt-ltb x 10 h))

more_digits : (k x : ℕ) (t : List ℕ) → 10 ≤ x → t ≡ digits_up_to k (x / 10) → t ++ (hex_digit_ascii (x % 10) ∷ []) ≡ digits_up_to (suc k) x
unfolding digits_up_to
more_digits k x t h e =
    ap (λ (l : List ℕ). l ++ (hex_digit_ascii (x % 10) ∷ [])) e ∙ ap (λ (y : ℕ). digits_up_to k (x / 10) ++ (y ∷ [])) (glyph_is (x % 10) (omega arith))
    ∙ ap (λ (b : Bool). cond b ((48 + x) ∷ []) (digits_up_to k (x / 10) ++ ((48 + x % 10) ∷ []))) (sym (le-ltb x 10 h))

minus_one : (k : ℕ) → suc k - 1 ≡ k
minus_one k = omega arith

ten_more : (r : ℕ) → 10 ^ suc r ≡ 10 * 10 ^ r
ten_more r = pow-succ' 10 r

ten_pos : (r : ℕ) → 1 ≤ 10 ^ r
ten_pos zero = omega arith
ten_pos (suc r) = omega (arith, ten_pos r, ten_more r)

pub digits_are : (k r x : ℕ) → IsDigitCount 10 1 x r → r ≤ k → last_digits 10 r x ≡ digits_up_to k x
digits_are k zero x f l = absurd (omega (arith, f.0))
digits_are zero (suc r) x f l = absurd (omega arith)
digits_are (suc k) (suc zero) x f l = one_digit k x f.1
digits_are (suc k) (suc (suc r)) x f l =
    let large : 10 ^ suc r ≤ x = subst (λ (k : ℕ). 10 ^ k ≤ x) (minus_one (suc r)) (f.2 (omega arith)) in
    let p : 10 ^ suc r ≡ 10 * 10 ^ r = ten_more r in
    let q : 10 ^ suc (suc r) ≡ 10 * 10 ^ suc r = ten_more (suc r) in
    let o : 1 ≤ 10 ^ r = ten_pos r in
    more_digits k x (last_digits 10 (suc r) (x / 10)) (omega (arith, large, p, o))
    (digits_are k (suc r) (x / 10) (omega arith, omega (arith, f.1, q), λ _. subst (λ (k : ℕ). 10 ^ k ≤ x / 10) (sym (minus_one r)) (omega (arith, large, p)))
    (omega arith))

-- a number of 64 bits has at most 20
ten_mono : (i d : ℕ) → 10 ^ i ≤ 10 ^ (i + d)
ten_mono i zero = le_of_eq (ap (λ (k : ℕ). 10 ^ k) (sym (add-zero i)))
ten_mono i (suc d) = subst (λ (k : ℕ). 10 ^ i ≤ 10 ^ k) (sym (add-suc i d)) (omega (arith, ten_mono i d, ten_more (i + d)))

pub few_digits : (x k : ℕ) → x < 2 ^ 64 → IsDigitCount 10 1 x k → k ≤ 20
few_digits x k h f =
    by_cases (dec_le k 20) (λ l. l)
    (λ l. let e : 20 + (k - 21) ≡ k - 1 = omega arith in
    let m : 10 ^ 20 ≤ 10 ^ (k - 1) = subst (λ (j : ℕ). 10 ^ 20 ≤ 10 ^ j) e (ten_mono 20 (k - 21)) in
    let o : 10 ^ (k - 1) ≤ x = f.2 (omega arith) in
    absurd (omega (arith, h, m, o)))

-- a number below 10 ^ k has at most k digits
short_digits : (j k x : ℕ) → x < 10 ^ suc k → length (digits_up_to j x) ≤ suc k
unfolding digits_up_to
short_digits zero k x h = omega arith
short_digits (suc j) zero x h =
    subst (λ (b : Bool). length (cond b ((48 + x) ∷ []) (digits_up_to j (x / 10) ++ ((48 + x % 10) ∷ []))) ≤ 1) (sym (lt-ltb x 10 h)) (omega arith)
short_digits (suc j) (suc k) x h =
    by_cases (dec_lt x 10)
    (λ l. subst (λ (b : Bool). length (cond b ((48 + x) ∷ []) (digits_up_to j (x / 10) ++ ((48 + x % 10) ∷ []))) ≤ suc (suc k))
    (sym (lt-ltb x 10 l)) (omega arith))
    (λ l. subst (λ (b : Bool). length (cond b ((48 + x) ∷ []) (digits_up_to j (x / 10) ++ ((48 + x % 10) ∷ []))) ≤ suc (suc k))
    (sym (le-ltb x 10 (omega (arith, l))))
    (omega (arith, short_digits j k (x / 10) (omega (arith, h, ten_more (suc k))), length-append (digits_up_to j (x / 10)) ((48 + x % 10) ∷ []))))

pub decimal_short : (k x : ℕ) → x < 10 ^ suc k → length (decimal x) ≤ suc k
decimal_short k x h = short_digits 20 k x h

pub next_short : (k x : ℕ) → x < 10 ^ suc k → length (next x) ≤ suc (suc k)
next_short k x h = omega (arith, short_digits 20 k x h, length-append (32 ∷ []) (decimal x))

-- numbers, each after a space: none yet, one column more, the count of one length more
pub columns_none : (xs : List ℕ) (at : ℕ) (columns : List ℕ) → TextAdded xs xs at (columns_text 0 columns) at
unfolding each
columns_none xs at columns = adds_none xs at

pub counts_none : (xs : List ℕ) (at : ℕ) (counts : List ℕ) → TextAdded xs xs at (counts_text 2 counts) at
unfolding each
counts_none xs at counts = adds_none xs at

part_more : {xs ys zs : List ℕ} {at mid end : ℕ} (part : ℕ → List ℕ) (k : ℕ) → TextAdded xs ys at (each part k) mid → TextAdded ys zs mid (part k) end
    → TextAdded xs zs at (each part (suc k)) end
unfolding each
part_more part k a b = adds_more a b

pub column_turn : {xs ys zs : List ℕ} {at mid end : ℕ} (columns : List ℕ) (f : ℕ) → TextAdded xs ys at (columns_text f columns) mid
    → TextAdded ys zs mid (next (get_or columns f 0)) end
    → TextAdded xs zs at (columns_text (f + 1) columns) end
column_turn columns f a b = adds_is (ap (λ (k : ℕ). columns_text k columns) (sym (add-one f))) (part_more (λ i. next (get_or columns i 0)) f a b)

pub count_turn : {xs ys zs : List ℕ} {at mid end : ℕ} (counts : List ℕ) (l : ℕ) → 2 ≤ l → TextAdded xs ys at (counts_text l counts) mid
    → TextAdded ys zs mid (next (get_or counts l 0)) end
    → TextAdded xs zs at (counts_text (l + 1) counts) end
count_turn counts l low a b =
    let part : ℕ → List ℕ = λ i. next (of_length counts (3 + i)) in
    let place : l ≡ 3 + (l - 2) - 1 = omega arith in
    let more : suc (l - 2) ≡ l + 1 - 2 = omega arith in
    adds_is (ap (each part) more) (part_more part (l - 2) a (adds_is (ap (λ (i : ℕ). next (get_or counts i 0)) place) b))
