-- `patterns::pattern_of` meets its contract: the products' letters are counted, from length 1 on. Assumes nothing.
use Rattle.std.proofs.Common.{sym, length-take-le}
use Rattle.patterns.proofs.Laws.{counts_front, pattern_model, products_long}
use Rattle.patterns.proofs.pattern_of.Goals as goal

pub slice_bounds-sums-end : goal.slice_bounds-sums-end
slice_bounds-sums-end c = products_long c.args.g c.power.result _ _ c.requires.1 c.power.ensures.0 c.products-sums.ensures

pub slice_bounds-letter_counts-end : goal.slice_bounds-letter_counts-end
slice_bounds-letter_counts-end c =
    sym (length-take-le _ _ (products_long c.args.g c.power.result _ _ c.requires.1 c.power.ensures.0 c.products-sums.ensures))

pub returns : goal.returns
returns c =
    let long = products_long c.args.g c.power.result _ _ c.requires.1 c.power.ensures.0 c.products-sums.ensures in
    pattern_model c.args.n c.args.g c.power.result c.args.words c.products-sums.result _ _ c.requires.0 c.power.ensures.0 c.products-sums.ensures
    (counts_front c.power.result c.products-sums.result _ long c.letter_counts-counts.ensures) c.from_one.ensures
