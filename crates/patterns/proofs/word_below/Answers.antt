-- `patterns::word_below` meets its contract: of the lengths below r and up to n some has a count, or none. Assumes nothing.
use Rattle.std.proofs.Common.{◌≡◌, ◌<◌, arith, rules, take, length, ◌∙◌, ap, min}
use Rattle.std.proofs.lemmas.Iterator.{cases_from_any, YieldsList-from_slice}
use borrow.Author.Tests.{tests}
use Rattle.patterns.proofs.Laws.{below_tells}
use Rattle.patterns.proofs.word_below.Goals as goal

pub returns : goal.returns
returns c =
    let a = c.args in
    let end = c.min-end.result in
    let long : 16 ≡ length a.pattern = search rules in
    below_tells end a.pattern (omega (arith, c.min-end.ensures, c.requires, long)) a.n a.r c.any.result
    (c.min-end.ensures ∙ ap (min a.n) c.saturating_sub.ensures)
    (cases_from_any _ _ c.any.result (λ x. 0 < x) (λ x. x ≡ 0) c.any.ensures.ran (YieldsList-from_slice (take end a.pattern) cc)
    (λ x q k. search (rules, tests)) (λ x q k. search (rules, tests)))
