-- `book::check_count` meets its contract: the count is tested. Assumes nothing.
use Rattle.book.specs.WritingLaws.{many_four}
use Rattle.book.proofs.check_count.Goals as goal

pub returns-then-count-gt-MOST_PLANS : goal.returns-then-count-gt-MOST_PLANS
returns-then-count-gt-MOST_PLANS c = many_four c.args.count c.if-count-gt-MOST_PLANS.true
