-- The marks of used columns: of lists that agree they are the same; and the first unused column by the marks.
use Rattle.std.specs.Prelude.{◌≡◌, ℕ, ◌+◌, ◌%◌, ◌<◌, ◌≤◌, ◌⊎◌, List, ◌≢◌, slice_index}
use Rattle.std.proofs.Common.{sym, ap, subst, ◌∙◌, inl, inr, ⊎_elim, mod-eq_of_lt, arith}
use Rattle.std.proofs.Math.Logic.{by_cases}
use Rattle.std.proofs.Math.Decide.{ℕ_discrete}
use Rattle.regular.specs.Columns.{Column}
use Rattle.regular.specs.Loads.{FirstUnused}
use Rattle.regular.specs.Smallest.{Equal}
use Rattle.column_forms.specs.Tables.{Seen}
use Rattle.load_laws.specs.Unused.{column_equal, stepped, steps_first, few_used}

pub seen_equal : (f : ℕ) (c d t : List ℕ) → Equal f c d → Seen c f t → Seen d f t
seen_equal f c d t same s = record {
  size = s.size;
  none = s.none;
  passed = λ g h e. s.passed g h (ap (λ (x : ℕ). slice_index t x) (same g h) ∙ e);
  only = λ v marked. ⊎_elim (λ z. inl z) (λ k. inr (column_equal f c d same f (omega arith) v k)) (s.only v marked);
  distinct = record {
    some = λ g h. subst (λ (x : ℕ). 0 < x) (same g h) (s.distinct.some g h);
    once = λ e g l h q. s.distinct.once e g l h (same e (omega arith) ∙ q ∙ sym (same g h));
  };
}

-- the marks of f columns: what is marked is used, what is not marked is not; after f marks in a row there is none
module _ (c : List ℕ) (f : ℕ) (seen : List ℕ) (s : Seen c f seen) where
  marked_used : (v : ℕ) → 0 < v → (slice_index seen v ≢ 0) → Column f c v
  marked_used v some marked = ⊎_elim (λ z. absurd (omega arith)) (λ k. k) (s.only v marked)

  unmarked_unused : (v : ℕ) → slice_index seen v ≡ 0 → Column f c v → ⊥
  unmarked_unused v free k = s.passed k.0 k.1.0 (ap (λ (x : ℕ). slice_index seen x) k.1.1 ∙ free)

  -- column k steps up from x + 1, where those before it are marked and it is not, or k is f
  pub marks_first : (last x k : ℕ) → x < last → f < last → ((i : ℕ) → i < k → slice_index seen (stepped last x i) ≢ 0)
      → (slice_index seen (stepped last x k) ≡ 0) ⊎ (k ≡ f) → FirstUnused last (Column f c) (x + 1) (stepped last x k)
  marks_first last x k h l marked end =
      let used : (i : ℕ) → i < k → Column f c (stepped last x i) = λ i b. marked_used (stepped last x i) (omega arith) (marked i b) in
      subst (λ (y : ℕ). FirstUnused last (Column f c) (y + 1) (stepped last x k)) (start h)
      (steps_first last (Column f c) k x used
      (λ u. ⊎_elim (λ free. unmarked_unused (stepped last x k) free u) (λ e. few_used last f x c l (all used e u)) end))
    where
      start : x < last → (x + 0) % last ≡ x
      start h = let e : x + 0 ≡ x = omega arith in ap (λ (y : ℕ). y % last) e ∙ mod-eq_of_lt h

      all : ((i : ℕ) → i < k → Column f c (stepped last x i)) → k ≡ f → Column f c (stepped last x k) → (i : ℕ) → i ≤ f → Column f c (stepped last x i)
      all used e u i b =
          by_cases (ℕ_discrete i k) (λ q. subst (λ (j : ℕ). Column f c (stepped last x j)) (sym q) u) (λ ne. used i (omega arith))
