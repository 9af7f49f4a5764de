-- `share::Division::left_over` meets its contract: of the demands so far, the whole parts are added up, and the remainders above half of t
-- counted.
use mathlib.Core.Path.{◌≡◌}
use Rattle.whole.specs.Below.{sum_below}
use Rattle.share.specs.Steps.{whole_of, above_before}
use Rattle.share.proofs.Division.left_over.Given as goal

abbrev pub invariant-loop-demand : goal.invariant-loop-demand
invariant-loop-demand l = record {
  handed_is : l.handed ≡ sum_below (whole_of l.self.demands.now l.self.size) l.demand-index;
  above_is : l.above ≡ above_before l.self.demands.now l.self.size l.half l.demand-index;
}
