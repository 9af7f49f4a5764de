-- The tally is lent to a posting a turn, and after i turns it is the tally of the first i records.
use mathlib.Core.Path.{◌≡◌, ◌∙◌, ap}
use Prim.Native.Nat.{◌<◌}
use native.Mathlib.Omega.{arith}
use mir.Syntax.{w64}
use mir.Val.{to_z, of_z}
use mir.ValLaws.{to_z-of_z}
use borrow.Author.Rules.{sfits_of}
use Rattle.rules.specs.Record.{entry_of}
use Rattle.rules.specs.Inner.Posting.{accounted, tally_after}
use Rattle.hour.specs.Held.{held}
use Rattle.byarea.proofs.Tallies.{has_room, next_tally}
use Rattle.byarea.proofs.tally_of.Goals as goal
use Rattle.byarea.proofs.tally_of.Goals.{After-accounted-energy, In-loop-i}

there : (c : goal.In-loop-i) → c.loop-i.i < (held c.args.hour.now).count
there c = omega (arith, c.loop-i-test.true, c.args.hour.now.records_are)

energy-is : (c : goal.After-accounted-energy) →
    to_z w64 (of_z w64 c.accounted-energy.result) ≡ accounted (entry_of (held c.args.hour.now) c.loop-i.i)
energy-is c =
    to_z-of_z w64 _ (sfits_of c.accounted-energy.type_inv) ∙ c.accounted-energy.ensures ∙ ap accounted c.entry_of.ensures

pub loop-i-init : goal.loop-i-init
unfolding tally_after
loop-i-init c = c.empty_tally-tally.ensures

pub accounted-energy-requires : goal.accounted-energy-requires
accounted-energy-requires c =
    let own = (goal.at.accounted-energy-requires c).In-loop-i in
    rw c.entry_of.ensures (c.args.hour.now.kept.hour_kept.record_kept c.loop-i.i (there own)).entry_kept

pub post-requires : goal.post-requires
post-requires c =
    let at = goal.at.post-requires c in
    has_room (held c.args.hour.now) c.loop-i.i c.loop-i.invariant c.area_of.ensures c.demand_of.ensures (energy-is at.After-accounted-energy)
    c.args.hour.now.kept.hour_kept (there at.In-loop-i)

pub loop-i-preserved : goal.loop-i-preserved
loop-i-preserved c =
    let at = goal.at.loop-i-preserved c in
    c.post.ensures
    ∙ next_tally (held c.args.hour.now) c.loop-i.i c.loop-i.invariant c.area_of.ensures c.demand_of.ensures (energy-is at.After-accounted-energy)
