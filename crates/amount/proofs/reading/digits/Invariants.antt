-- The digits taken so far, one a round, and the number that they make.
use Rattle.amount.proofs.Left.{SoFar}
use Rattle.amount.proofs.reading.digits.Given as goal

abbrev pub invariant-loop-count : goal.invariant-loop-count
invariant-loop-count l = SoFar l.field l.value l.count
