-- Laws of what each part of the writer puts: a number, the header, the columns, one count more, an entry; and the lengths that fit.
use Rattle.std.specs.Prelude.{ℕ, zero, suc, ◌+◌, ◌*◌, ◌-◌, ◌^◌, ◌≤◌, ◌<◌, ◌≡◌, refl, List, [], ◌∷◌, ◌++◌, length, get_or, take, drop, set}
use Rattle.std.specs.Int.{w16, to_le_bytes}
use Rattle.std.proofs.Common.{sym, ap, ap₂, ◌∙◌, arith, length-set, take-suc, append_assoc, drop-drop}
use Rattle.std.proofs.Math.Seq.{paste}
use Rattle.std.proofs.lemmas.List.Edits.{length-paste}
use Rattle.regular.specs.Pattern.{of_length}
use Rattle.regular.specs.Book.{low_first, each, header_kind, header, header_length, columns_kind, columns_record, columns_length}
use Rattle.regular.specs.Book.{pattern_kind, pattern_record, entry_records, entry_length}
use Rattle.book.specs.Over.{over, over_none, over_one, over_parts, over_length, put_more, put_then}
use Rattle.book.specs.EntryLaws.{each_more, each_none, columns_bytes, counts_bytes}

-- two bytes
pub number_put : (at a b : ℕ) (v : List ℕ) → at + 2 ≤ length v → set (set v at a) (at + 1) b ≡ over at (a ∷ b ∷ []) v
number_put at a b v h =
    ap (λ (l : List ℕ). set l (at + 1) b) (sym (over_one at a v (omega arith))) ∙ put_more at 1 b (a ∷ []) v refl (omega arith)

-- .. as the library makes them, and as it copies them
pub le_bytes_two : (x : ℕ) → x < 2 ^ 16 → to_le_bytes w16 x ≡ low_first x
le_bytes_two x h = ap₂ (λ (a b : ℕ). a ∷ b ∷ []) (omega arith) (omega arith)

pub number_copied : (at x : ℕ) (v bytes : List ℕ) → x < 2 ^ 16 → at + 2 ≤ length v → bytes ≡ to_le_bytes w16 x
    → take at v ++ (bytes ++ drop (at + 2 - at) (drop at v)) ≡ over at (low_first x) v
number_copied at x v bytes h room e =
    let end : at + (at + 2 - at) ≡ at + 2 = omega arith in
    ap₂ (λ (b l : List ℕ). take at v ++ (b ++ l)) (e ∙ le_bytes_two x h) (drop-drop (at + 2 - at) at v ∙ ap (λ (k : ℕ). drop k v) end)
    ∙ sym (append_assoc (take at v) (low_first x) (drop (at + 2) v))
    ∙ sym (over_parts at (low_first x) v (omega arith))

-- the header's first four bytes
abbrev pub headed : ℕ → ℕ → ℕ → List ℕ → List ℕ
headed n g r v = set (set (set (set v 0 header_kind) 1 n) 2 g) 3 r

pub header_put : (n g r count : ℕ) (v : List ℕ) → header_length ≤ length v → over 4 (low_first count) (headed n g r v) ≡ over 0 (header n g r count) v
header_put n g r count v h =
    ap (over 4 (low_first count))
    (ap (λ (l : List ℕ). set (set (set l 1 n) 2 g) 3 r) (sym (over_one 0 header_kind v (omega arith)))
    ∙ ap (λ (l : List ℕ). set (set l 2 g) 3 r) (put_more 0 1 n (header_kind ∷ []) v refl (omega arith))
    ∙ ap (λ (l : List ℕ). set l 3 r) (put_more 0 2 g (header_kind ∷ n ∷ []) v refl (omega arith))
    ∙ put_more 0 3 r (header_kind ∷ n ∷ g ∷ []) v refl (omega arith))
    ∙ put_then 0 4 (header_kind ∷ n ∷ g ∷ r ∷ []) (low_first count) v refl

pub header_size : (n g r : ℕ) (v : List ℕ) → length (headed n g r v) ≡ length v
header_size n g r v =
    length-set (set (set (set v 0 header_kind) 1 n) 2 g) 3 r
    ∙ length-set (set (set v 0 header_kind) 1 n) 2 g ∙ length-set (set v 0 header_kind) 1 n ∙ length-set v 0 header_kind

-- the columns
abbrev column_byte : List ℕ → ℕ → List ℕ
column_byte c f = get_or c f 0 ∷ []

columns_taken : (c : List ℕ) (n : ℕ) → n ≤ length c → take n c ≡ each (column_byte c) n
unfolding each
columns_taken c zero h = refl
columns_taken c (suc n) h = take-suc c n 0 (omega arith) ∙ ap (λ (l : List ℕ). l ++ column_byte c n) (columns_taken c n (omega arith))

columns_put : (n : ℕ) (c : List ℕ) (at : ℕ) (v w : List ℕ) → at + n ≤ length v → n ≤ length c → w ≡ paste v at c n
    → w ≡ over at (each (column_byte c) n) v
columns_put n c at v w h many e =
    e ∙ ap (λ (l : List ℕ). (take at v ++ l) ++ drop (at + n) v) (columns_taken c n many)
    ∙ ap (λ (k : ℕ). (take at v ++ each (column_byte c) n) ++ drop (at + k) v) (sym (columns_bytes c n))
    ∙ sym (over_parts at (each (column_byte c) n) v (omega arith))

-- the counts, that of length i + 1 after i - 2 others
abbrev count_bytes : List ℕ → ℕ → List ℕ
count_bytes p i = low_first (of_length p (3 + i))

counts_none : (p : List ℕ) (at : ℕ) (v : List ℕ) → v ≡ over at (each (count_bytes p) (2 - 2)) v
counts_none p at v = sym (ap (λ (l : List ℕ). over at l v) (each_none (count_bytes p)) ∙ over_none at v)

counts_more : (p : List ℕ) (at to i : ℕ) (v w : List ℕ) → 2 ≤ i → to ≡ at + 2 * (i - 2) → w ≡ over at (each (count_bytes p) (i - 2)) v
    → over to (low_first (get_or p i 0)) w ≡ over at (each (count_bytes p) (i + 1 - 2)) v
counts_more p at to i v w h t e =
    let k = i - 2 in
    let here : i ≡ 3 + k - 1 = omega arith in
    let next : k + 1 ≡ i + 1 - 2 = omega arith in
    ap (λ (m : ℕ). over m (low_first (get_or p i 0)) w) t
    ∙ ap (λ (l : List ℕ). over (at + 2 * k) (low_first (get_or p i 0)) l) e
    ∙ ap (λ (m : ℕ). over (at + 2 * k) (low_first (get_or p m 0)) (over at (each (count_bytes p) k) v)) here
    ∙ put_then at (2 * k) (each (count_bytes p) k) (count_bytes p k) v (counts_bytes p k)
    ∙ ap (λ (l : List ℕ). over at l v) (sym (each_more (count_bytes p) k) ∙ ap (each (count_bytes p)) next)

-- what is known before each turn: the counts of the lengths up to i stand
pub record CountsPut (n : ℕ) (p : List ℕ) (at : ℕ) (v w : List ℕ) (i to : ℕ) : Type 0 where
  pub from : 2 ≤ i
  pub within : i - 2 ≤ n - 2
  pub place : to ≡ at + 2 * (i - 2)
  pub size : length w ≡ length v
  pub bytes : w ≡ over at (each (λ i. low_first (of_length p (3 + i))) (i - 2)) v

pub counts_start : (n : ℕ) (p : List ℕ) (at : ℕ) (v : List ℕ) → CountsPut n p at v v 2 at
counts_start n p at v = record { from = omega arith; within = omega arith; place = omega arith; size = refl; bytes = counts_none p at v }

pub counts_turn : {n : ℕ} {p : List ℕ} {at : ℕ} {v w w' : List ℕ} {i to : ℕ} → at + 2 * (n - 2) ≤ length v → i < n
    → CountsPut n p at v w i to → w' ≡ over to (low_first (get_or p i 0)) w → CountsPut n p at v w' (i + 1) (to + 2)
counts_turn {n} {p} {at} {v} {w} {w'} {i} {to} room h x e =
    let all : w' ≡ over at (each (count_bytes p) (i + 1 - 2)) v = e ∙ counts_more p at to i v w x.from x.place x.bytes in
    record {
      from = omega (arith, x.from);
      within = omega (arith, x.from);
      place = omega (arith, x.place, x.from);
      size = ap length all ∙ over_length at (each (count_bytes p) (i + 1 - 2)) v (omega (arith, counts_bytes p (i + 1 - 2), x.from));
      bytes = all;
    }

-- an entry at v's place `at`: its first kind and its columns give w; its second kind and its counts give u
module _ (n at : ℕ) (c v w : List ℕ) (h : at + entry_length n ≤ length v) (many : n ≤ length c)
    (first : w ≡ paste (set v at (columns_kind n)) (at + 1) c n) where
  kind_size : length (set v at (columns_kind n)) ≡ length v
  kind_size = length-set v at (columns_kind n)

  -- the length stays after the first record
  pub entry_size : length w ≡ length v
  entry_size = ap length first ∙ length-paste (set v at (columns_kind n)) (at + 1) c n (omega (arith, kind_size)) many ∙ kind_size

  columns_stand : w ≡ over at (columns_record n c) v
  columns_stand =
      columns_put n c (at + 1) (set v at (columns_kind n)) w (omega (arith, kind_size)) many first
      ∙ ap (over (at + 1) (each (column_byte c) n)) (sym (over_one at (columns_kind n) v (omega arith)))
      ∙ put_then at 1 (columns_kind n ∷ []) (each (column_byte c) n) v refl

  pub entry_put : (p u : List ℕ) → u ≡ over (at + 1 + n + 1) (each (λ i. low_first (of_length p (3 + i))) (n - 2)) (set w (at + 1 + n) (pattern_kind n))
      → u ≡ over at (entry_records n c p) v
  entry_put p u second =
      let counts = each (count_bytes p) (n - 2) in
      let long : length (columns_record n c) ≡ columns_length n = omega (arith, columns_bytes c n) in
      let mid : at + 1 + n ≡ at + columns_length n = omega arith in
      second
      ∙ ap (λ (k : ℕ). over (k + 1) counts (set w k (pattern_kind n))) mid
      ∙ ap (over (at + columns_length n + 1) counts) (sym (over_one (at + columns_length n) (pattern_kind n) w (omega (arith, entry_size))))
      ∙ put_then (at + columns_length n) 1 (pattern_kind n ∷ []) counts w refl
      ∙ ap (over (at + columns_length n) (pattern_record n p)) columns_stand
      ∙ put_then at (columns_length n) (columns_record n c) (pattern_record n p) v long
