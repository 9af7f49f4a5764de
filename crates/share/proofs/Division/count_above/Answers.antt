-- `share::Division::count_above` meets its contract: of the demands so far, those with a remainder above the bound are counted.
use mathlib.Core.Path.{sym}
use Prim.Native.Nat.{◌+◌}
use native.Mathlib.Omega.{arith}
use Rattle.whole.proofs.Gathering.{count_none}
use Rattle.share.proofs.Parts.{above_more, above_few}
use Rattle.share.proofs.Division.count_above.Goals as goal

pub loop-demand-init : goal.loop-demand-init
loop-demand-init c = sym (count_none _)

-- count += u64::from(..)
pub overflow_add-count : goal.overflow_add-count
overflow_add-count c =
    let a = c.loop-demand in
    let d = c.args.self.now.divides in
    omega (
      arith,
      above_more d c.args.bound a.demand-index a.count a.invariant c.from-count.ensures,
      above_few d c.args.bound (a.demand-index + 1),
    )

pub loop-demand-preserved : goal.loop-demand-preserved
loop-demand-preserved c =
    above_more c.args.self.now.divides c.args.bound c.loop-demand.demand-index c.loop-demand.count c.loop-demand.invariant c.from-count.ensures
