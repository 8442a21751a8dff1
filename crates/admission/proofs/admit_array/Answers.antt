-- `admission::admit_array` meets its contract: 5 by a column and by the mask, 6 and 7 are met in this order. Assumes nothing.
use Rattle.std.proofs.Common.{arith, refl}
use Rattle.admission.proofs.OfColumns.{column_refused, mask_refused, rank_refused, standard_low, short_refused, columns_taken}
use Rattle.admission.proofs.admit_array.Goals as goal

pub returns-then-not-columns_below : goal.returns-then-not-columns_below
returns-then-not-columns_below c =
    let a = c.args in
    let w = c.columns_below.ensures.1 c.if-not-columns_below.true in
    column_refused a.n a.m a.columns a.mask c.power.result c.power.ensures.0 w.0 w.1.0 w.1.1

pub returns-then-not-allows : goal.returns-then-not-allows
returns-then-not-allows c =
    let a = c.args in
    mask_refused a.n a.m a.columns a.mask c.power.result c.power.ensures.0 (c.allows.ensures.1 c.if-not-allows.true)

pub returns-in_default : goal.returns-in_default
returns-in_default c =
    let a = c.args in
    rank_refused a.n a.m a.columns a.mask c.power.result c.power.ensures.0 (c.columns_below.ensures.0 c.if-not-columns_below.false)
    (c.allows.ensures.0 c.if-not-allows.false) (c.in_default.ensures.impossible refl)

pub distinct_nonzero-requires : goal.distinct_nonzero-requires
distinct_nonzero-requires c =
    let a = c.args in (
      c.requires.0,
      standard_low a.n a.m a.columns a.mask c.power.result c.power.ensures.0 (c.columns_below.ensures.0 c.if-not-columns_below.false)
          (c.allows.ensures.0 c.if-not-allows.false) c.in-Some.standard c.in-Some.ensures c.requires.1,
    )

pub returns-then-not-distinct_nonzero : goal.returns-then-not-distinct_nonzero
returns-then-not-distinct_nonzero c =
    let a = c.args in
    short_refused a.n a.m a.columns a.mask c.power.result c.power.ensures.0 (c.columns_below.ensures.0 c.if-not-columns_below.false)
    (c.allows.ensures.0 c.if-not-allows.false) c.in-Some.standard c.in-Some.ensures (c.distinct_nonzero.ensures.1 c.if-not-distinct_nonzero.true)

pub returns : goal.returns
returns c =
    let a = c.args in
    columns_taken a.n a.m a.columns a.mask c.power.result c.power.ensures.0 (c.columns_below.ensures.0 c.if-not-columns_below.false)
    (c.allows.ensures.0 c.if-not-allows.false) c.in-Some.standard c.in-Some.ensures (omega arith)
    (c.distinct_nonzero.ensures.0 c.if-not-distinct_nonzero.false)
