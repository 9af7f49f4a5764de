-- `share::Division::left_over` meets its contract: of the demands so far, the whole parts are added up, and the remainders above half of t
-- counted.
use mathlib.Core.Path.{◌≡◌, sym, ◌∙◌, ap}
use Prim.Native.Nat.{◌+◌, ◌/◌}
use native.Mathlib.Omega.{arith}
use lib.ListN.{length}
use Rattle.whole.proofs.Sums.{sum_none}
use Rattle.whole.proofs.Gathering.{count_none}
use Rattle.share.specs.Steps.{above_before}
use Rattle.share.proofs.Parts.{handed_within, handed_more, handed_all, above_more, above_few}
use Rattle.share.proofs.Division.left_over.Goals as goal

pub loop-demand-init : goal.loop-demand-init
loop-demand-init c = record { handed_is = sym (sum_none _); above_is = sym (count_none _) }

-- handed += product / self.t
pub overflow_add-handed : goal.overflow_add-handed
overflow_add-handed c =
    let a = c.loop-demand in
    let d = c.args.self.now.divides in
    omega (
      arith,
      handed_more d a.demand-index a.handed a.invariant.handed_is,
      handed_within d (a.demand-index + 1) (omega arith),
    )

-- above += u64::from(..)
pub overflow_add-above : goal.overflow_add-above
overflow_add-above c =
    let a = c.loop-demand in
    let d = c.args.self.now.divides in
    let half = c.args.self.now.t / 2 in
    omega (
      arith,
      above_more d half a.demand-index a.above a.invariant.above_is c.from-above.ensures,
      above_few d half (a.demand-index + 1),
    )

pub loop-demand-preserved : goal.loop-demand-preserved
loop-demand-preserved c =
    let a = c.loop-demand in
    let d = c.args.self.now.divides in
    record {
      handed_is = handed_more d a.demand-index a.handed a.invariant.handed_is;
      above_is = above_more d (c.args.self.now.t / 2) a.demand-index a.above a.invariant.above_is c.from-above.ensures;
    }

-- self.size - handed
pub overflow_sub-result : goal.overflow_sub-result
overflow_sub-result c =
    omega (arith, handed_within c.args.self.now.divides c.loop-demand.demand-index (omega arith), c.loop-demand.invariant.handed_is)

pub returns-clause-units : goal.returns-clause-units
returns-clause-units c =
    handed_all c.args.self.now.divides c.loop-demand.demand-index c.loop-demand.handed (omega arith) c.loop-demand.invariant.handed_is

pub returns-clause-above : goal.returns-clause-above
returns-clause-above c =
    let division = c.args.self.now in
    let e : c.loop-demand.demand-index ≡ length division.demands.now = omega arith in
    c.loop-demand.invariant.above_is ∙ ap (above_before division.demands.now division.size (division.t / 2)) e
