-- Laws of the reader's steps: where the columns of an entry stand, their order, the counts of a pattern.
use Rattle.std.specs.Prelude.{ℕ, zero, suc, ◌+◌, ◌*◌, ◌-◌, ◌≤◌, ◌<◌, ◌≡◌, refl, Bool, List, ltb, length, get_or, take, drop}
use Rattle.std.proofs.Common.{sym, ap, ap₂, subst₂, ◌∙◌, inr, mul-le-mul_right, arith, ltb-true, ltb-false}
use Rattle.std.proofs.Math.Logic.{by_cases}
use Rattle.std.proofs.Math.Decide.{ℕ_discrete}
use Rattle.gf2.specs.Answers.{Tells}
use Rattle.regular.specs.Book.{entry_length, book_length}
use Rattle.regular.specs.Reading.{columns_in, EntryRises}
use Rattle.regular.specs.Smallest.{Before}
use Rattle.smallest_laws.specs.Dictionary.{not_both}
use Rattle.reading_laws.specs.Entries.{columns_size}
use Rattle.reading.specs.Answers.{EntryThere, earlier_columns, NumberAt, CountsAt}

-- two lists of columns where they first differ
pub differ_told : (n at : ℕ) (c d : List ℕ) → at < n → ((g : ℕ) → g < at → get_or c g 0 ≡ get_or d g 0) → (get_or c at 0 ≡ get_or d at 0 → ⊥)
    → Tells (ltb (get_or c at 0) (get_or d at 0)) (Before n c d) (Before n c d → ⊥)
differ_told n at c d h agree ne = (
  λ y. record { at = at; within = h; agree = agree; smaller = ltb-true (get_or c at 0) (get_or d at 0) y },
  λ y. not_both n d c
      (inr (record { at = at; within = h; agree = λ g l. sym (agree g l); smaller = omega (arith, ltb-false (get_or c at 0) (get_or d at 0) y, ne) })),
)

-- the part of the book that has the columns of entry i
pub columns_part : (n : ℕ) (book : List ℕ) (i at : ℕ) → at ≡ book_length n i → take (at + 1 + n - (at + 1)) (drop (at + 1) book) ≡ columns_in n book i
columns_part n book i at e =
    let len : at + 1 + n - (at + 1) ≡ n = omega arith in
    let from : at + 1 ≡ suc (book_length n i) = omega (arith, e) in
    ap₂ (λ (k j : ℕ). take k (drop j book)) len from

-- the columns of the entry before it are there too; and they are n
pub earlier_there : (n : ℕ) (book : List ℕ) (i : ℕ) → EntryThere n book i → EntryThere n book (i - 1)
earlier_there n book i t = record {
  size = t.size;
  few = omega (arith, t.few);
  whole = omega (arith, t.whole, mul-le-mul_right {m = i - 1} {n = i} (entry_length n) (omega arith));
}

pub earlier_last : (n : ℕ) (book : List ℕ) (i : ℕ) → (i ≡ 0 → ⊥) → columns_in n book (i - 1) ≡ earlier_columns n book i
earlier_last n book zero ne = absurd (ne refl)
earlier_last n book (suc j) ne = let last : suc j - 1 ≡ j = omega arith in ap (columns_in n book) last

pub columns_long : (n : ℕ) (book : List ℕ) (i : ℕ) → EntryThere n book i → {c : List ℕ} → c ≡ columns_in n book i → length c ≡ n
columns_long n book i t {c} e = ap length e ∙ columns_size n book i t.whole

pub rises_told : (n : ℕ) (book : List ℕ) (i : ℕ) → (i ≡ 0 → ⊥) → {c d : List ℕ} → c ≡ columns_in n book (i - 1) → d ≡ columns_in n book i → (b : Bool)
    → Tells b (Before n c d) (Before n c d → ⊥) → Tells b (EntryRises n book i) (EntryRises n book i → ⊥)
rises_told n book i ne {c} {d} e f b t = (
  λ y j s. subst₂ (Before n) (e ∙ ap (columns_in n book) (last j s)) f (t.0 y),
  λ y w. t.1 y (subst₂ (Before n) (sym e) (sym f) (w (i - 1) (omega arith))),
)
  where
    last : (j : ℕ) → suc j ≡ i → i - 1 ≡ j
    last j s = omega arith

-- the counts before place i: one more, or another number there
module _ (counts book : List ℕ) (at i to : ℕ) (two : 2 ≤ i) (here : to ≡ at + (i - 2) * 2) where
  abbrev Stands : ℕ → ℕ → Type 0
  Stands j k = NumberAt (get_or counts j 0) book k

  pub counts_more : CountsAt (i - 2) counts book at → NumberAt (get_or counts i 0) book to → CountsAt (i + 1 - 2) counts book at
  counts_more old new j h =
      by_cases (ℕ_discrete j (i - 2))
      (λ e. let place : i ≡ 3 + j - 1 = omega arith in let stands : to ≡ at + j * 2 = omega arith in subst₂ Stands place stands new)
      (λ ne. old j (omega arith))

  pub counts_not : (n : ℕ) → i < n → (NumberAt (get_or counts i 0) book to → ⊥) → CountsAt (n - 2) counts book at → ⊥
  counts_not n l new all =
      let place : 3 + (i - 2) - 1 ≡ i = omega arith in
      new (subst₂ Stands place (sym here) (all (i - 2) (omega arith)))
