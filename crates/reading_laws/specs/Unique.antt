-- The reader's promise leaves nothing open: for one book and one lent list there is one answer, and one list after it.
use Rattle.std.specs.Prelude.{ℕ, ◌-◌, ◌<◌, ◌≡◌, List, ◌++◌, length, get_or, take, drop}
use Rattle.std.proofs.Common.{sym, ap, ap₂, subst, subst₂, ◌∙◌, arith, take-append-drop, length-take-le, get_or-take}
use Rattle.std.proofs.Math.Logic.{by_cases}
use Rattle.std.proofs.Math.Decide.{ℕ_discrete}
use Rattle.regular.specs.Book.{entry_of_columns}
use Rattle.regular.specs.Designs.{Holds, blank}
use Rattle.regular.specs.PlanBytes.{plan_start, plan_at, mask_in}
use Rattle.regular.specs.ReadingAnswers.{Reads, ReadsPlans, ReadsDesigns, places_of, refused_book}
use Rattle.regular.specs.Smallest.{Equal, Entry}
use Rattle.regular.specs.declared.Design.{Design}
use Rattle.regular.specs.declared.ReadAnswer.{ReadAnswer}
use Rattle.reading_laws.specs.Number.{reading_one}
use Rattle.reading_laws.specs.Lists.{plans_same, designs_equal, designs_same}
use Rattle.reading_laws.specs.WriteRead.{AsWritten, gives_back, FullColumns}

-- an answer by its numbers
abbrev answer_of : ℕ → ℕ → ℕ → ℕ → ℕ → ReadAnswer
answer_of k n g r count = record { number = k; factors = n; generators = g; resolution = r; count = count }

same_answer : (a b : ReadAnswer) → a.number ≡ b.number → AsWritten a.factors a.generators a.resolution a.count b → a ≡ b
same_answer a b e w =
    ap₂ (λ (k n : ℕ). answer_of k n a.generators a.resolution a.count) e (sym w.factors)
    ∙ ap₂ (λ (g r : ℕ). answer_of b.number b.factors g r a.count) (sym w.generators) (sym w.resolution)
    ∙ ap (answer_of b.number b.factors b.generators b.resolution) (sym w.entries)

-- in whichever list, if equal columns at the first places make them equal
module _ {A : Type 0} (takes : ℕ → ℕ → ℕ) (place : ℕ → List A → ℕ → List ℕ) (book : List ℕ) (before x y : List A) (a b : ReadAnswer)
    (p : Reads takes (λ n g list i. entry_of_columns n g (place n list i)) book before x a)
    (q : Reads takes (λ n g list i. entry_of_columns n g (place n list i)) book before y b)
    (front : a.number ≡ 0 → AsWritten a.factors a.generators a.resolution a.count b
    → ((i : ℕ) → i < a.count → Equal a.factors (place a.factors y i) (place a.factors x i))
    → take (takes a.factors a.count) y ≡ take (takes a.factors a.count) x) where
  number : a.number ≡ b.number
  number = reading_one takes (length before) book a.number b.number p.number q.number

  refused : (a.number ≡ 0 → ⊥) → (a ≡ b) × (x ≡ y)
  refused ne =
      let s = p.refused (omega arith) in
      let t = q.refused (omega (arith, number)) in
      (s.0 ∙ ap refused_book number ∙ sym t.0, s.1 ∙ sym t.1)

  taken : a.number ≡ 0 → (a ≡ b) × (x ≡ y)
  taken e =
      let n = a.factors in
      let k = takes n a.count in
      let back = gives_back takes place n a.generators a.resolution a.count (place n x) book before y b (p.taken e) q (p.room e) in
      let w = back.0 in
      let past : drop k y ≡ drop k before = subst₂ (λ (m c : ℕ). drop (takes m c) y ≡ drop (takes m c) before) w.factors w.entries q.rest in (
        same_answer a b number w,
        sym (take-append-drop k x) ∙ ap₂ ◌++◌ (sym (front e w back.1)) (p.rest ∙ sym past) ∙ take-append-drop k y,
      )

  reads_one : (a ≡ b) × (x ≡ y)
  reads_one = by_cases (ℕ_discrete a.number 0) taken refused

-- plans as bytes
pub reads_plans_one : (book before x y : List ℕ) (a b : ReadAnswer) → ReadsPlans book before x a → ReadsPlans book before y b → (a ≡ b) × (x ≡ y)
reads_plans_one book before x y a b p q = reads_one plan_start plan_at book before x y a b p.reads q.reads
    (λ e w same. plans_same a.factors a.count y x (omega (arith, p.reads.room e, q.reads.size))
    (omega (arith, p.reads.room e, p.reads.size)) same
    (λ i h. subst (λ (n : ℕ). mask_in n (plan_at n y i) ≡ 0) w.factors (q.unswitched i (omega (arith, w.entries)))) p.unswitched)

-- design records, of sixteen columns each
pub reads_designs_one : (book : List ℕ) (before x y : List Design) (a b : ReadAnswer) → ReadsDesigns book before x a → ReadsDesigns book before y b
    → FullColumns a.count x → FullColumns a.count y → (a ≡ b) × (x ≡ y)
reads_designs_one book before x y a b p q full also =
    reads_one places_of (λ _ list i. (get_or list i blank).columns) book before x y a b p.reads q.reads front
  where
    front : a.number ≡ 0 → AsWritten a.factors a.generators a.resolution a.count b
        → ((i : ℕ) → i < a.count → Equal a.factors (get_or y i blank).columns (get_or x i blank).columns) → take a.count y ≡ take a.count x
    front e w same =
        let room = p.reads.room e in
        designs_same a.count y (take a.count x) (omega (arith, room, q.reads.size)) (length-take-le a.count x (omega (arith, room, p.reads.size)))
        (λ i h. designs_equal a.factors (a.factors - a.generators) (get_or y i blank) (get_or x i blank) (also i h) (full i h)
        (subst₂ (λ (n g : ℕ). Holds n (n - g) (Entry n (n - g) b.resolution) (get_or y i blank)) w.factors w.generators
        (q.records i (omega (arith, w.entries)))) (p.records i h) (same i h) ∙ sym (get_or-take a.count x i blank h))
