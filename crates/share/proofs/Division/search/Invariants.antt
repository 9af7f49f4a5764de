-- `share::Division::search` meets its contract: no fewer remainders than units are above `low`, and no more above `high`, which move together.
use Prim.Native.Nat.{◌-◌, ◌≤◌}
use Rattle.share.specs.Steps.{Between}
use Rattle.share.proofs.Division.search.Given as goal

abbrev pub invariant-loop-spare : goal.invariant-loop-spare
invariant-loop-spare l = record {
  within : l.high ≤ l.to;
  between : Between l.self.demands.now l.self.size l.units l.low l.high l.spare;
}

abbrev pub decreases-loop-spare : goal.decreases-loop-spare
decreases-loop-spare l = l.high - l.low
