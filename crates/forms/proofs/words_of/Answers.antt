-- `forms::words_of` meets its contract: the plan is admitted, and lends its words and has their signs. Assumes nothing.
use Rattle.std.proofs.Common.{rules, refl, arith, ◌≡◌, Ok, Err}
use Rattle.regular.specs.Answers.{admitted_of}
use Rattle.regular.specs.RefusalLaws.{number_positive}
use Rattle.forms.specs.LentWords.{words_short, words_filled}
use Rattle.forms.specs.Made.{words_fills}
use Rattle.forms.proofs.Parts.{part_lent}
use Rattle.forms.proofs.words_of.Goals as goal

pub returns-in_err-lend_numbers : goal.returns-in_err-lend_numbers
returns-in_err-lend_numbers g c =
    let ad = c.in_ok-admitted.ensures in
    let w = c.generators-words in
    let e = c.in_err-lend_numbers.field-0.0 in
    let lent = part_lent c.args.g w.result (omega (arith, w.ensures.places, ad.size refl)) c.in_err-lend_numbers.ensures in
    let up : c.from_residual-in_err-lend_numbers.result ≡ Err e = search rules in
    rw up
    (words_fills {x = admitted_of (Ok c.in_ok-admitted.admitted)} ad c.args.out.now c.lend_numbers.new.out _
    (words_short w.result refl lent refl (λ z. omega (arith, number_positive e)) refl))

pub returns : goal.returns
returns g c =
    let ad = c.in_ok-admitted.ensures in
    let w = c.generators-words in
    let lent = part_lent c.args.g w.result (omega (arith, w.ensures.places, ad.size refl)) c.in_ok-lend_numbers.ensures in
    words_fills {x = admitted_of (Ok c.in_ok-admitted.admitted)} ad c.args.out.now c.lend_numbers.new.out _
    (words_filled w.result refl lent refl refl w.ensures.word c.signs_of.ensures)
