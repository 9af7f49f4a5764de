-- `bymember::neutrality::round` meets its contract. The loop's invariant: the amounts passed are rounded, and the others are as they were.
use mathlib.Core.Path.{◌≡◌}
use mathlib.Core.List.{map, ◌++◌}
use lib.ListN.{take, drop}
use Rattle.rules.specs.Charge.{cents}
use Rattle.bymember.proofs.neutrality.round.Given as goal

abbrev pub invariant-loop-own : goal.invariant-loop-own
invariant-loop-own l = l.amounts ≡ map cents (take l.own-index l.initial.amounts) ++ drop l.own-index l.initial.amounts
