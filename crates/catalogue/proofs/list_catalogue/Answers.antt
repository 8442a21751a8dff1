use Rattle.std.proofs.Common.{refl}
use Rattle.catalogue.proofs.Bytes.{filling_none, filling_more, filling_room, filling_stops}
use Rattle.catalogue.proofs.list_catalogue.Goals as goal

pub loop-next-init : goal.loop-next-init
loop-next-init c = let a = c.args in filling_none a.n a.g a.r a.out.now _ _ c.walk_start-state.ensures.0

pub put_plan-requires : goal.put_plan-requires
put_plan-requires c =
    let a = c.args in
    let l = c.loop-next in
    let f = (rw c.in-Ok-Some.field-0-is at c.in-Ok-Some.ensures).goes refl in
    (f.sized.size.most, filling_room a.n a.g a.r a.out.now l.out l.count l.c l.state l.invariant _ c.plan_count-places.ensures _ _ f)

pub loop-next-preserved : goal.loop-next-preserved
loop-next-preserved c =
    let a = c.args in
    let l = c.loop-next in
    let f = (rw c.in-Ok-Some.field-0-is at c.in-Ok-Some.ensures).goes refl in
    filling_more a.n a.g a.r a.out.now l.out l.count l.c l.state l.invariant _ c.plan_count-places.ensures _ _ _ f c.put_plan.ensures

pub returns-in-Ok-None : goal.returns-in-Ok-None
returns-in-Ok-None c =
    let a = c.args in
    let l = c.loop-next in
    let t = rw c.in-Ok-None.field-0-is at c.in-Ok-None.ensures in
    rw (c.ended.ensures.0, c.ended.ensures.1)
    (filling_stops a.n a.g a.r a.out.now l.out l.count l.c l.state l.invariant _ c.plan_count-places.ensures _ (t.stops refl))

pub returns-in-Err : goal.returns-in-Err
returns-in-Err c =
    let a = c.args in
    let l = c.loop-next in
    rw (c.ended-in-Err.ensures.0, c.ended-in-Err.ensures.1, c.number.ensures.0)
    (filling_stops a.n a.g a.r a.out.now l.out l.count l.c l.state l.invariant _ c.plan_count-places.ensures _ (c.in-Err.ensures.stops refl))
