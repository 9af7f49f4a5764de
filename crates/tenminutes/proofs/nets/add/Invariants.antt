-- `tenminutes::nets::add` meets its contract. The loop's invariant: to the nets of the intervals passed their deviations are added.
use lib.IntN.{pos, ◌+ℤ◌}
use lib.ListN.{get_or}
use Rattle.whole.proofs.Filling.{Filled}
use Rattle.rules.specs.Charge.{entering}
use Rattle.rules.specs.HourFile.{word}
use Rattle.rules.specs.TenMinutes.{interval_entry}
use Rattle.tenminutes.proofs.nets.add.Given as goal

abbrev pub invariant-loop-k : goal.invariant-loop-k
invariant-loop-k l =
    Filled (λ k. get_or l.fn.nets k (pos 0) +ℤ entering (interval_entry (word l.part.words.now) k)) 6 l.k l.fn.nets l.nets
