-- `share::Division::count_above` meets its contract: of the demands so far, those with a remainder above the bound are counted.
use mathlib.Core.Path.{◌≡◌}
use Rattle.share.specs.Steps.{above_before}
use Rattle.share.proofs.Division.count_above.Given as goal

abbrev pub invariant-loop-demand : goal.invariant-loop-demand
invariant-loop-demand l = l.count ≡ above_before l.self.demands.now l.self.size l.bound l.demand-index
