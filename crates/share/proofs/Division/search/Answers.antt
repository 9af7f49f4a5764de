-- `share::Division::search` meets its contract: no fewer remainders than units are above `low`, and no more above `high`, which move together.
use native.Mathlib.Omega.{arith}
use lib.ListN.{length}
use Rattle.share.specs.Steps.{rest_of}
use Rattle.share.proofs.Above.{from_exact, from_low}
use Rattle.share.proofs.Division.search.Goals as goal

-- too many are above the middle
pub loop-spare-preserved-then-units-above : goal.loop-spare-preserved-then-units-above
loop-spare-preserved-then-units-above c =
    let a = c.loop-spare in
    record {
      within = a.invariant.within;
      between = record {
        ordered = omega arith;
        above_low = omega (arith, c.count_above-above.ensures);
        above_high = a.invariant.between.above_high;
      };
    }

-- they are not
pub loop-spare-preserved : goal.loop-spare-preserved
loop-spare-preserved c =
    let a = c.loop-spare in
    record {
      within = omega arith;
      between = record {
        ordered = omega arith;
        above_low = a.invariant.between.above_low;
        above_high = omega (arith, c.count_above-above.ensures);
      };
    }

-- nothing is left between `low` and `high`
pub returns-else-high-low-gt1 : goal.returns-else-high-low-gt1
returns-else-high-low-gt1 c =
    let a = c.loop-spare in
    let division = c.args.self.now in
    record {
      with_spare = a.invariant.between.above_high;
      enough = from_low (rest_of division.demands.now division.size) (length division.demands.now) c.args.units a.low a.high (omega arith)
          a.invariant.between.above_low;
    }

-- just as many remainders as units are above `high`
pub returns-after-loop-spare : goal.returns-after-loop-spare
returns-after-loop-spare c =
    let a = c.loop-spare in
    let division = c.args.self.now in
    record {
      with_spare = a.invariant.between.above_high;
      enough = from_exact (rest_of division.demands.now division.size) (length division.demands.now) c.args.units a.high
          (omega (arith, a.invariant.between.above_high));
    }
