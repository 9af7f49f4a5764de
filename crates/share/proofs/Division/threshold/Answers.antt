-- `share::Division::threshold` meets its contract: half of t is one end of what is to be searched.
use native.Mathlib.Omega.{arith}
use lib.ListN.{length}
use Rattle.share.specs.Steps.{rest_of}
use Rattle.share.proofs.Parts.{rest_below}
use Rattle.share.proofs.Above.{none_above}
use Rattle.share.proofs.Division.threshold.Goals as goal

-- the bound is above half of t: nothing is above t
pub search-requires : goal.search-requires
search-requires c =
    let division = c.args.self.now in
    let demands = division.demands.now in
    record {
      ordered = omega arith;
      above_low = omega (arith, c.requires.counted);
      above_high = omega (arith, none_above (rest_of demands division.size) (length demands) division.t (rest_below division.divides));
    }
