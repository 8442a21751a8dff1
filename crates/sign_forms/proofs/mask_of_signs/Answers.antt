-- `sign_forms::mask_of_signs` meets its contract: the words with their signs in the place of letter A have standard columns, run 1 of these with A switched
-- is a run of the words with signs, high at every basic factor. Assumes nothing.
use Rattle.std.proofs.Common.{◌≡◌, ◌∙◌, sym, ap, subst, ⊎_elim, List, length, take, replicate, ℕ, ◌-◌, ◌≤◌, arith, rules, length-take-le, is_some}
use Rattle.std.specs.Option.{unwrap_or}
use Rattle.std.proofs.Math.Seq.{get_or-take}
use Rattle.gf2.specs.Truth.{told}
use Rattle.regular.specs.Words.{Generated, Independent}
use Rattle.standard.specs.Form.{StandardFor}
use Rattle.signs.specs.SignLetter.{SignedAtA}
use Rattle.signs.specs.SignLetterLaws.{signed_within, signed_independent, signed_found, signed_mask, plus_mask}
use Rattle.sign_forms.proofs.mask_of_signs.Goals as goal

-- of an array, the words alone
signed_words : (words full : List ℕ) (signs : ℕ) → length words ≤ length full → SignedAtA (length words) words signs full
    → (length (take (length words) full) ≡ length words) × SignedAtA (length words) words signs (take (length words) full)
signed_words words full signs fits at_a = (
  length-take-le (length words) full fits,
  λ i h. get_or-take (length words) full i 0 h ∙ at_a i h,
)

pub returns-then-signs-eq0 : goal.returns-then-signs-eq0
returns-then-signs-eq0 c = plus_mask _ _ _ _ c.if-signs-eq0.true

pub words_columns-requires : goal.words_columns-requires
words_columns-requires c =
    let a = c.args in
    let words = a.words.now in
    let full = c.signs_at_a-signed.result in
    let o = c.requires in
    let s = signed_words words full a.signs (search rules) c.signs_at_a-signed.ensures in (
      o.most,
      omega (arith, s.0, o.less),
      omega (arith, s.0, o.basics),
      (λ i h. signed_within a.n (length words) words (take (length words) full) a.signs o s.1 i (omega (arith, s.0))),
    )

pub unwrap-solved-requires : goal.unwrap-solved-requires
unwrap-solved-requires c =
    let a = c.args in
    let words = a.words.now in
    let full = c.signs_at_a-signed.result in
    let signed = take (length words) full in
    let s = signed_words words full a.signs (search rules) c.signs_at_a-signed.ensures in
    let free = subst (λ (k : ℕ). Independent k signed) (sym s.0) (signed_independent a.n (length words) words signed a.signs c.requires s.1) in
    ⊎_elim (λ t. t) (λ t. absurd (c.words_columns.ensures.impossible t free)) (told (is_some c.words_columns.result))

pub returns : goal.returns
returns c =
    let a = c.args in
    let words = a.words.now in
    let g = length words in
    let full = c.signs_at_a-signed.result in
    let signed = take g full in
    let s = signed_words words full a.signs (search rules) c.signs_at_a-signed.ensures in
    let f = c.words_columns in
    let solved = c.unwrap-solved.result in
    let st = signed_found a.n g words signed a.signs c.requires s.1 (length signed) (is_some f.result) (unwrap_or f.result (replicate 16 0)) s.0 f.ensures in
    signed_mask a.n g words signed a.signs c.requires s.1 solved
    (subst (StandardFor a.n (a.n - g) (Generated a.n g signed)) (ap (λ o. unwrap_or o (replicate 16 0)) c.unwrap-solved.ensures) st)
    c.unit_run.result c.unit_run.ensures
