-- `table_forms::table_columns` meets its contract: where the walk reaches its end, the levels decide. Assumes nothing.
use Rattle.std.proofs.Common.{arith, subst, length}
use Rattle.regular.specs.Runs.{Table}
use Rattle.standard.specs.Finding.{not_found}
use Rattle.table_forms.specs.Walk.{TableWalk, AllLast}
use Rattle.table_forms.specs.Verdict.{verdict_regular, verdict_repeat}
use Rattle.table_forms.specs.Turns.{count_small}
use Rattle.table_forms.specs.Steps.{walk_small, walk_below}
use Rattle.table_forms.proofs.table_columns.Goals as goal

pub returns-then-not-walk : goal.returns-then-not-walk
returns-then-not-walk c =
    let s = c.args in
    not_found s.n s.m (Table s.n s.m s.t.now) _ (c.walk.ensures.refused (c.if-not-walk.true) s.n)

pub all_last-requires : goal.all_last-requires
all_last-requires c =
    let a = c.args in
    let p = c.requires in
    let w = c.walk.new.self in
    let walked : TableWalk a.m a.t.now a.n w = c.walk.ensures.walk (c.if-not-walk.false) in
    let l = walk_small a.m a.t.now a.n w walked p.1 in (
      (count_small a.m (length a.t.now) p.1 p.2).1,
      λ i h. omega (arith, l.1, walk_below a.m a.t.now a.n w walked i h),
    )

pub returns-then-not-all_last : goal.returns-then-not-all_last
returns-then-not-all_last c =
    let a = c.args in
    let w = c.walk.new.self in
    let walked : TableWalk a.m a.t.now a.n w = c.walk.ensures.walk (c.if-not-walk.false) in
    verdict_repeat a.n a.m a.t.now w c.requires.2 c.requires.3 walked (subst (AllLast _ _ _) (c.if-not-all_last.true) c.all_last.ensures)

pub returns : goal.returns
returns c =
    let a = c.args in
    let w = c.walk.new.self in
    let walked : TableWalk a.m a.t.now a.n w = c.walk.ensures.walk (c.if-not-walk.false) in
    verdict_regular a.n a.m a.t.now w c.requires.2 c.requires.3 walked (subst (AllLast _ _ _) (c.if-not-all_last.false) c.all_last.ensures)
