-- `admission::Form::admit` of words meets its contract: 1, 2 and 4 to 7 are met in this order. Assumes nothing.
use Rattle.std.proofs.Common.{arith, refl}
use Rattle.admission.proofs.OfWords.{count_refused, word_refused, signs_refused, rank_refused, words_below, short_refused, solvable, words_taken}
use Rattle.admission.proofs.WordsForm.admit.Goals as goal

pub returns-then-words-g : goal.returns-then-words-g
returns-then-words-g c =
    let a = c.args in
    count_refused a.n a.g a.self.list.now a.self.signs (c.in_ok-check_size.ensures.1 refl) c.if-words-g.true

pub returns-then-not-letters_below : goal.returns-then-not-letters_below
returns-then-not-letters_below c =
    let a = c.args in
    let w = c.letters_below.ensures.1 c.if-not-letters_below.true in
    word_refused a.n a.g a.self.list.now a.self.signs (c.in_ok-check_size.ensures.1 refl) c.if-words-g.false w.0 w.1.0
    (omega (arith, c.power.ensures.0, w.1.1))

pub returns-then-power-from : goal.returns-then-power-from
returns-then-power-from c =
    let a = c.args in
    signs_refused a.n a.g a.self.list.now a.self.signs (c.in_ok-check_size.ensures.1 refl) c.if-words-g.false
    (omega arith)

pub returns-in_default : goal.returns-in_default
returns-in_default c =
    let a = c.args in
    let ws = a.self.list.now in
    rank_refused a.n a.g ws a.self.signs (c.in_ok-check_size.ensures.1 refl) c.if-words-g.false c.power.result c.power.ensures.0
    (c.letters_below.ensures.0 c.if-not-letters_below.false)
    (omega arith) (c.in_default.ensures.impossible refl)

pub distinct_nonzero-requires : goal.distinct_nonzero-requires
distinct_nonzero-requires c =
    let a = c.args in
    let ws = a.self.list.now in
    let z = c.in_ok-check_size.ensures.1 refl in (
      z.most,
      words_below a.n a.g ws a.self.signs z c.if-words-g.false c.power.result c.power.ensures.0
          (c.letters_below.ensures.0 c.if-not-letters_below.false) c.in-Some.columns c.in-Some.ensures,
    )

pub returns-then-not-distinct_nonzero : goal.returns-then-not-distinct_nonzero
returns-then-not-distinct_nonzero c =
    let a = c.args in
    let ws = a.self.list.now in
    short_refused a.n a.g ws a.self.signs (c.in_ok-check_size.ensures.1 refl) c.if-words-g.false c.power.result c.power.ensures.0
    (c.letters_below.ensures.0 c.if-not-letters_below.false) c.in-Some.columns c.in-Some.ensures
    (omega arith) (c.distinct_nonzero.ensures.1 c.if-not-distinct_nonzero.true)

pub mask_of_signs-run-requires : goal.mask_of_signs-run-requires
mask_of_signs-run-requires c =
    let a = c.args in
    let ws = a.self.list.now in
    solvable a.n a.g ws a.self.signs (c.in_ok-check_size.ensures.1 refl) c.if-words-g.false c.power.result c.power.ensures.0
    (c.letters_below.ensures.0 c.if-not-letters_below.false) c.in-Some.columns c.in-Some.ensures
    (c.distinct_nonzero.ensures.0 c.if-not-distinct_nonzero.false)

pub returns : goal.returns
returns c =
    let a = c.args in
    let ws = a.self.list.now in
    words_taken a.n a.g ws a.self.signs (c.in_ok-check_size.ensures.1 refl) c.if-words-g.false c.power.result c.power.ensures.0
    (c.letters_below.ensures.0 c.if-not-letters_below.false) c.in-Some.columns c.in-Some.ensures
    (c.distinct_nonzero.ensures.0 c.if-not-distinct_nonzero.false) (omega arith)
    c.mask_of_signs-run.result c.mask_of_signs-run.ensures
