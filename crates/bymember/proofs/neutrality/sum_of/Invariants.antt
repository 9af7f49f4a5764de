-- `bymember::neutrality::sum_of` meets its contract. The loop's invariant: the sum is that of the charges passed.
use mathlib.Core.Path.{◌≡◌}
use lib.IntN.{pos}
use lib.ListN.{get_or}
use Rattle.whole.specs.Below.{total_below}
use Rattle.bymember.proofs.neutrality.sum_of.Given as goal

abbrev pub invariant-loop-own : goal.invariant-loop-own
invariant-loop-own l = l.sum ≡ total_below (λ k. get_or l.charges k (pos 0)) l.own-index
