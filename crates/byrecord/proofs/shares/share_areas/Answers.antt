-- `byrecord::shares::share_areas` meets its contract. The loop's invariant: the areas passed are shared, and every other record has 0.
use native.Mathlib.Omega.{arith}
use Rattle.byrecord.proofs.Areas.{figure_read}
use Rattle.byrecord.proofs.Hour.{none_shared, area_place, shared_so_far, next_area, all_shared}
use Rattle.byrecord.proofs.shares.share_areas.Goals as goal

pub loop-a-init : goal.loop-a-init
loop-a-init c = none_shared c.requires

-- the offset of figures[a]
pub offset_bounds-figures-a : goal.offset_bounds-figures-a
offset_bounds-figures-a c = omega (arith, area_place c.requires c.loop-a.a (omega (arith, c.args.hour.now.areas_are)))

-- figures[a]
pub bounds-figures-a : goal.bounds-figures-a
bounds-figures-a c = area_place c.requires c.loop-a.a (omega (arith, c.args.hour.now.areas_are))

pub share_area-requires : goal.share_area-requires
share_area-requires c =
    let up = shared_so_far c.requires c.loop-a.invariant (omega (arith, c.args.hour.now.areas_are)) in rw (figure_read up) up

pub loop-a-preserved : goal.loop-a-preserved
loop-a-preserved c =
    next_area c.requires c.loop-a.invariant (omega (arith, c.args.hour.now.areas_are)) c.share_area.ensures c.share_area.auto.room

pub returns : goal.returns
returns c = all_shared c.requires c.loop-a.invariant (omega (arith, c.args.hour.now.areas_are))
