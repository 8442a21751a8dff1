-- `table_forms::Walked::step` meets its contract: the candidate fits, or the factor is basic. Assumes nothing.
use Rattle.std.proofs.Common.{refl}
use Rattle.table_forms.specs.Turns.{count_small}
use Rattle.table_forms.specs.Steps.{ended, walk_room, walk_below, step_missing, step_follow, step_full, step_grow}
use Rattle.table_forms.proofs.Walked.step.Goals as goal

pub returns-in_default : goal.returns-in_default
returns-in_default c = ended _ _ _ _ (step_missing _ _ _ _ c.requires.3 _ _ c.in_default.ensures refl)

pub returns-then-fits : goal.returns-then-fits
returns-then-fits c =
    step_follow _ _ _ _ c.requires.3 _ _ c.in-Some.ensures refl
    c.fits.result c.fits.ensures c.follow.new.self c.if-fits.true c.requires.0 c.follow.ensures

pub returns-then-self-m : goal.returns-then-self-m
returns-then-self-m c =
    ended _ _ _ _ (step_full _ _ _ _ c.requires.3 _ _ c.in-Some.ensures refl
    c.fits.result c.fits.ensures c.if-fits.false c.if-self-m.true)

pub grow-requires : goal.grow-requires
grow-requires c =
    let room = walk_room _ _ _ _ c.requires.3 c.requires.1 c.if-self-m.false in
    let count = count_small _ _ c.requires.1 c.requires.2 in
    record { f_bound = (c.requires.0, room.0, room.1); t_nonzero = (count.0, count.1, walk_below _ _ _ _ c.requires.3) }

pub returns : goal.returns
returns c =
    step_grow _ _ _ _ c.requires.3 _ _ c.in-Some.ensures refl
    c.fits.result c.fits.ensures c.grow.new.self c.if-fits.false c.requires.0 c.if-self-m.false c.grow.ensures
