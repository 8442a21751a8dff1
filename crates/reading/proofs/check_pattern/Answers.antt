-- `reading::check_pattern` meets its contract: the record, then its counts against those of the plan. Assumes nothing.
use Rattle.std.proofs.Common.{◌+◌, ◌*◌, ◌-◌, ◌≤◌, ◌≡◌, refl, arith, rules, length}
use Rattle.std.specs.Prelude.{Ok, Err}
use Rattle.regular.specs.Answers.{number, admitted_of}
use Rattle.regular.specs.RefusalLaws.{number_positive}
use Rattle.regular.specs.Reading.{columns_in, pattern_place}
use Rattle.book.specs.PlanLaws.{admitted_ok}
use Rattle.reading.specs.Patterns.{no_pattern, counts_room, entry_admitted, entry_ready, entry_pattern, true_pattern, untrue_pattern}
use Rattle.reading.proofs.check_pattern.Goals as goal

pub returns-in_err-check_record : goal.returns-in_err-check_record
returns-in_err-check_record c =
    let a = c.args in
    let at_place : c.book_length.result + 1 + a.n ≡ pattern_place a.n a.i = omega (arith, c.book_length.ensures) in
    let e = c.in_err-check_record.field-0.0 in
    let up : c.from_residual.result ≡ Err e = search rules in
    rw up (no_pattern a.n a.g a.book.now a.i (c.book_length.result + 1 + a.n) c.pattern_length.result (number e) at_place c.pattern_length.ensures
    c.in_err-check_record.ensures (λ z. omega (arith, number_positive e)))

pub unwrap-plan-requires : goal.unwrap-plan-requires
unwrap-plan-requires c =
    let a = c.args in
    let e = c.requires.0 in
    let admitted = rw c.columns_in.ensures at c.admit.ensures in
    admitted_ok c.admit.result (entry_admitted a.n a.g e.0 (columns_in a.n a.book.now a.i) e.1 (admitted_of c.admit.result) admitted)

pub pattern-counts-requires : goal.pattern-counts-requires
pattern-counts-requires c =
    let a = c.args in
    let e = c.requires.0 in
    let admitted = rw (c.columns_in.ensures, c.unwrap-plan.ensures) at c.admit.ensures in
    entry_ready a.n a.g e.0 (columns_in a.n a.book.now a.i) e.1 (admitted_of (Ok c.unwrap-plan.result)) admitted

pub has_counts-requires : goal.has_counts-requires
has_counts-requires c =
    let a = c.args in
    let at_place : c.book_length.result + 1 + a.n ≡ pattern_place a.n a.i = omega (arith, c.book_length.ensures) in
    let room : c.book_length.result + 1 + a.n + 1 + (a.n - 2) * 2 ≤ length a.book.now =
    counts_room a.n a.g a.book.now a.i (c.book_length.result + 1 + a.n) c.pattern_length.result 0 at_place c.pattern_length.ensures
    c.in_ok-check_record.ensures refl in
    (c.requires.1.size, omega (arith, room))

pub returns-then-not-has_counts : goal.returns-then-not-has_counts
returns-then-not-has_counts c =
    let a = c.args in
    let e = c.requires.0 in
    let at_place : c.book_length.result + 1 + a.n ≡ pattern_place a.n a.i = omega (arith, c.book_length.ensures) in
    let admitted = rw (c.columns_in.ensures, c.unwrap-plan.ensures) at c.admit.ensures in
    let own = entry_pattern a.n a.g e.0 (columns_in a.n a.book.now a.i) e.1 (admitted_of (Ok c.unwrap-plan.result)) admitted c.pattern-counts.result
    c.pattern-counts.ensures.0 in
    untrue_pattern a.n a.g a.book.now a.i (c.book_length.result + 1 + a.n) c.pattern_length.result 0 at_place c.pattern_length.ensures
    c.in_ok-check_record.ensures refl c.pattern-counts.result own c.has_counts.result c.has_counts.ensures c.if-not-has_counts.true

pub returns : goal.returns
returns c =
    let a = c.args in
    let e = c.requires.0 in
    let at_place : c.book_length.result + 1 + a.n ≡ pattern_place a.n a.i = omega (arith, c.book_length.ensures) in
    let admitted = rw (c.columns_in.ensures, c.unwrap-plan.ensures) at c.admit.ensures in
    let own = entry_pattern a.n a.g e.0 (columns_in a.n a.book.now a.i) e.1 (admitted_of (Ok c.unwrap-plan.result)) admitted c.pattern-counts.result
    c.pattern-counts.ensures.0 in
    true_pattern a.n a.g a.book.now a.i (c.book_length.result + 1 + a.n) c.pattern_length.result 0 at_place c.pattern_length.ensures
    c.in_ok-check_record.ensures refl c.pattern-counts.result own c.has_counts.result c.has_counts.ensures c.if-not-has_counts.false
