-- `witness_check::check_witness` meets its contract: the lower refusal of the tables is passed on; then the names, the mask and the partners are tested, and
-- a witness passes each test. Assumes nothing.
use Rattle.std.proofs.Common.{◌≡◌, arith, rules, sym, refl, ◌∙◌}
use Rattle.std.specs.Prelude.{Err, true, false}
use Rattle.std.proofs.lemmas.Bool.{ltb-true, ltb-false, false≢true}
use Rattle.regular.specs.RefusalLaws.{number_positive}
use Rattle.regular.specs.Answers.{number}
use Rattle.witness_check.specs.Verdict.{admission_lowest, check_refused, check_no, check_told, not_named, not_within}
use Rattle.witness_check.proofs.check_witness.Goals as goal
use Rattle.witness_check.proofs.check_witness.Goals.{then-each_once, else-each_once}

pub returns-in_err-both : goal.returns-in_err-both
returns-in_err-both c =
    let a = c.args in
    let e = c.in_err-both.field-0.0 in
    let is : c.from_residual.result ≡ Err e = search rules in
    rw is (check_refused a.n a.g a.first.now a.second.now a.names.now a.mask _ _ (number e) (admission_lowest c.admit-a.result c.admit-a.ensures)
    (admission_lowest c.admit-b.result c.admit-b.ensures) c.in_err-both.ensures.lower (λ z. omega (arith, number_positive e)))

pub returns-then-from-power : goal.returns-then-from-power
returns-then-from-power c =
    let a = c.args in
    let answer = check_told a.n a.g a.first.now a.second.now a.names.now a.mask _ _ 0 (admission_lowest c.admit-a.result c.admit-a.ensures)
    (admission_lowest c.admit-b.result c.admit-b.ensures) c.in_ok-both.ensures.lower c.partnered.result refl in
    elim c.if-each_once.branch [
      | then-each_once w ↦ answer (c.each_once.ensures.0 w.if-each_once.true)
          (let low = ltb-true w.from.result w.power.result (sym w.value-is ∙ c.if-from-power.true) in omega (arith, low, w.power.ensures.0, w.from.ensures))
          c.partnered.ensures
      | else-each_once w ↦ absurd (false≢true (sym w.if-each_once.false ∙ sym w.value-is ∙ c.if-from-power.true))
    ]

pub returns-else-from-power : goal.returns-else-from-power
returns-else-from-power c =
    let a = c.args in
    let no = check_no a.n a.g a.first.now a.second.now a.names.now a.mask _ _ 0 (admission_lowest c.admit-a.result c.admit-a.ensures)
    (admission_lowest c.admit-b.result c.admit-b.ensures) c.in_ok-both.ensures.lower refl in
    rw c.if-from-power.false
    (elim c.if-each_once.branch [
      | then-each_once w ↦ no (not_within a.n a.first.now a.second.now a.names.now a.mask
          (let high = ltb-false w.from.result w.power.result (sym w.value-is ∙ c.if-from-power.false)
          in omega (arith, high, w.power.ensures.0, w.from.ensures)))
      | else-each_once w ↦ no (not_named a.n a.first.now a.second.now a.names.now a.mask (c.each_once.ensures.1 w.if-each_once.false))
    ])
