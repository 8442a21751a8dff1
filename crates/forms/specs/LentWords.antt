-- What becomes of the lent list for the reduced words of a plan, and of their signs: refused, too short, or filled.
use Rattle.std.specs.Prelude.{ℕ, ◌≡◌, List, get_or}
use Rattle.std.proofs.Common.{sym, subst, ◌∙◌, arith}
use Rattle.regular.specs.Columns.{run_of}
use Rattle.regular.specs.Smallest.{Equal}
use Rattle.regular.specs.declared.SignsAnswer.{SignsAnswer}
use Rattle.standard.specs.Runs.{run_cols}
use Rattle.words.specs.WordList.{words_to}
use Rattle.lent.specs.Lends.{Lends, lends_refused, lends_means}
use Rattle.forms.specs.Made.{SignedAt, WordsLent}

-- an accepted plan has the number 0
answered : (g : ℕ) (Made : List ℕ → Type 0) (ys zs : List ℕ) (number k r : ℕ) → number ≡ 0 → r ≡ k → Lends 0 g Made ys zs k → Lends number g Made ys zs r
answered g Made ys zs number k r accepted is l =
    subst (λ (j : ℕ). Lends j g Made ys zs r) (sym accepted) (subst (Lends 0 g Made ys zs) (sym is) l)

module _ {n g number : ℕ} {a : List ℕ} {x : ℕ} {ys : List ℕ} {r : SignsAnswer} where
  pub words_refused : (number ≡ 0 → ⊥) → r.number ≡ number → r.signs ≡ 0 → WordsLent n g number a x ys ys r
  words_refused some is none =
      let Made = SignedAt n g a x r.signs in
      record { words = subst (Lends number g Made ys ys) (sym is) (lends_refused number g Made ys some); no_signs = λ _. none }

  -- the first g numbers of the array ws are lent, with the answer k
  module _ (ws : List ℕ) {zs : List ℕ} {k : ℕ} (accepted : number ≡ 0) (l : Lends 0 g (λ us. Equal g us ws) ys zs k) (is : r.number ≡ k) where
    pub words_short : (k ≡ 0 → ⊥) → r.signs ≡ 0 → WordsLent n g number a x ys zs r
    words_short some none = record {
      words = answered g (SignedAt n g a x r.signs) ys zs number k r.number accepted is
          (record { refused = l.refused; short = l.short; filled = λ e h. absurd (some (l.filled e h).0); size = l.size });
      no_signs = λ _. none;
    }

    pub words_filled : k ≡ 0 → ((i : ℕ) → get_or ws i 0 ≡ get_or (words_to a n) i 0) → r.signs ≡ run_of ws g x → WordsLent n g number a x ys zs r
    words_filled none table signs = record {
      words = answered g (SignedAt n g a x r.signs) ys zs number k r.number accepted is
          (lends_means 0 g (λ us. Equal g us ws) (SignedAt n g a x r.signs) ys zs k
          (λ _ h. (λ i q. h i q ∙ table i, signs ∙ run_cols ws zs g x (λ i q. sym (h i q)))) l);
      no_signs = λ h. absurd (omega (arith, is, none));
    }
