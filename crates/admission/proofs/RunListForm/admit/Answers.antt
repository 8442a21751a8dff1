-- `admission::Form::admit` of a run table meets its contract: 1, 2 and 4 to 7 are met in this order. Assumes nothing.
use Rattle.std.proofs.Common.{arith, sym, ◌∙◌, refl}
use Rattle.admission.proofs.OfRuns.{count_refused, run_refused, low, table_refused, runs_below, short_refused, runs_taken}
use Rattle.admission.proofs.RunListForm.admit.Goals as goal

pub returns-then-runs-power : goal.returns-then-runs-power
returns-then-runs-power c =
    let a = c.args in
    count_refused a.n a.g a.self.0.now (c.in_ok-check_size.ensures.1 refl) (λ e. c.if-runs-power.true (e ∙ sym c.power.ensures.0))

pub returns-then-not-all_below : goal.returns-then-not-all_below
returns-then-not-all_below c =
    let a = c.args in
    let w = c.all_below.ensures.1 c.if-not-all_below.true in
    run_refused a.n a.g a.self.0.now (c.in_ok-check_size.ensures.1 refl) (c.if-runs-power.false ∙ c.power.ensures.0) w.0 w.1.0
    (omega (arith, c.power-2.ensures.0, w.1.1))

pub table_columns-requires : goal.table_columns-requires
table_columns-requires c =
    let z = c.in_ok-check_size.ensures.1 refl in
    let counted = c.if-runs-power.false ∙ c.power.ensures.0 in
    let a = c.args in
    (z.most, z.few, counted, low a.n a.g a.self.0.now z counted c.power-2.result c.power-2.ensures.0 (c.all_below.ensures.0 c.if-not-all_below.false))

pub returns-in_default : goal.returns-in_default
returns-in_default c =
    let a = c.args in
    table_refused a.n a.g a.self.0.now (c.in_ok-check_size.ensures.1 refl) (c.if-runs-power.false ∙ c.power.ensures.0) c.power-2.result c.power-2.ensures.0
    (c.all_below.ensures.0 c.if-not-all_below.false)
    (c.in_default.ensures.impossible refl)

pub distinct_nonzero-requires : goal.distinct_nonzero-requires
distinct_nonzero-requires c =
    let a = c.args in
    let z = c.in_ok-check_size.ensures.1 refl in (
      z.most,
      runs_below a.n a.g a.self.0.now z (c.if-runs-power.false ∙ c.power.ensures.0) c.power-2.result c.power-2.ensures.0
          (c.all_below.ensures.0 c.if-not-all_below.false) c.in-Some.columns c.in-Some.ensures,
    )

pub returns-then-not-distinct_nonzero : goal.returns-then-not-distinct_nonzero
returns-then-not-distinct_nonzero c =
    let a = c.args in
    short_refused a.n a.g a.self.0.now (c.in_ok-check_size.ensures.1 refl) (c.if-runs-power.false ∙ c.power.ensures.0) c.power-2.result c.power-2.ensures.0
    (c.all_below.ensures.0 c.if-not-all_below.false) c.in-Some.columns
    c.in-Some.ensures (c.distinct_nonzero.ensures.1 c.if-not-distinct_nonzero.true)

pub returns : goal.returns
returns c =
    let a = c.args in
    runs_taken a.n a.g a.self.0.now (c.in_ok-check_size.ensures.1 refl) (c.if-runs-power.false ∙ c.power.ensures.0) c.power-2.result c.power-2.ensures.0
    (c.all_below.ensures.0 c.if-not-all_below.false) c.in-Some.columns
    c.in-Some.ensures (c.distinct_nonzero.ensures.0 c.if-not-distinct_nonzero.false)
