-- `share::put_sizes` meets its contract: so far the sizes are put down, the demands past them are as they were, and the remainders equal
-- to the bound are counted.
use mathlib.Core.Path.{◌≡◌}
use lib.ListN.{length}
use Rattle.whole.proofs.Filling.{Filled}
use Rattle.share.specs.Steps.{equal_before, size_of}
use Rattle.share.proofs.put_sizes.Given as goal

abbrev pub invariant-loop-place : goal.invariant-loop-place
invariant-loop-place l = record {
  equal_is : l.equal ≡ equal_before l.fn.places l.size l.cut.bound l.place-index;
  filled : Filled (size_of l.fn.places l.size l.cut.bound l.cut.spare) (length l.fn.places) l.place-index l.fn.places l.places;
}
