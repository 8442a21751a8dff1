use Rattle.std.proofs.Common.{refl}
use Rattle.catalogue.proofs.Records.{listing_none, listing_more, listing_stops}
use Rattle.catalogue.proofs.catalogue.Goals as goal

pub loop-next-init : goal.loop-next-init
loop-next-init c = let a = c.args in listing_none a.n a.g a.r a.list.now _ _ c.walk_start-state.ensures.0

pub loop-next-preserved : goal.loop-next-preserved
loop-next-preserved c =
    let a = c.args in
    let l = c.loop-next in
    let t = rw c.in-Ok-Some.field-0-is at c.in-Ok-Some.ensures in
    listing_more a.n a.g a.r a.list.now l.list l.i l.c l.state l.invariant _ _ _ (t.goes refl) c.design.ensures

pub returns-in-Ok-None : goal.returns-in-Ok-None
returns-in-Ok-None c =
    let a = c.args in
    let l = c.loop-next in
    let t = rw c.in-Ok-None.field-0-is at c.in-Ok-None.ensures in
    rw (c.ended.ensures.0, c.ended.ensures.1)
    (listing_stops a.n a.g a.r a.list.now l.list l.i l.c l.state l.invariant _ (t.stops refl))

pub returns-in-Err : goal.returns-in-Err
returns-in-Err c =
    let a = c.args in
    let l = c.loop-next in
    rw (c.ended-in-Err.ensures.0, c.ended-in-Err.ensures.1, c.number.ensures.0)
    (listing_stops a.n a.g a.r a.list.now l.list l.i l.c l.state l.invariant _ (c.in-Err.ensures.stops refl))
