-- `byarea::area_without_demand` meets its contract. The loop's invariant: no area passed breaks refusal 6.
use mathlib.Core.Path.{◌≡◌, refl, sym}
use native.Mathlib.Omega.{arith}
use Rattle.whole.specs.Below.{first_below}
use Rattle.whole.proofs.Search.{first_next, first_hit}
use Rattle.whole.proofs.Machine.{element_fits}
use Rattle.byarea.specs.Posted.{unshared}
use Rattle.byarea.proofs.Tallies.{nobody_demands, somebody_demands, nothing_to_share}
use Rattle.byarea.proofs.area_without_demand.Goals as goal
use Rattle.byarea.proofs.area_without_demand.Goals.{else-t-a-eq0-via-then-t-a-eq0+else-ufe-a-ne0, else-t-a-eq0-via-else-t-a-eq0}

pub loop-a-init : goal.loop-a-init
unfolding first_below
loop-a-init c = refl

-- return Some(a)
pub returns-then-ufe-a-ne0 : goal.returns-then-ufe-a-ne0
returns-then-ufe-a-ne0 c =
    let broken = nobody_demands c.args.t c.args.ufe c.loop-a.a c.if-t-a-eq0.true c.if-ufe-a-ne0.true in
    sym (first_hit (unshared c.args.t c.args.ufe) c.loop-a.a _ c.loop-a.invariant broken (omega arith))

-- None
pub returns : goal.returns
returns c =
    let all : c.args.areas ≡ c.loop-a.a = omega arith in
    rw all (sym c.loop-a.invariant)

pub loop-a-preserved : goal.loop-a-preserved
loop-a-preserved c =
    let fits = element_fits c.args.ufe _ c.loop-a.a c.well_formed.1.1.0.1.1 in
    elim c.else-t-a-eq0.branch [
      | else-t-a-eq0-via-then-t-a-eq0+else-ufe-a-ne0 w ↦ first_next (unshared c.args.t c.args.ufe) c.loop-a.a c.loop-a.invariant
          (nothing_to_share c.args.t c.args.ufe c.loop-a.a fits w.if-ufe-a-ne0.false)
      | else-t-a-eq0-via-else-t-a-eq0 w ↦ first_next (unshared c.args.t c.args.ufe) c.loop-a.a c.loop-a.invariant
          (somebody_demands c.args.t c.args.ufe c.loop-a.a w.if-t-a-eq0.false)
    ]
