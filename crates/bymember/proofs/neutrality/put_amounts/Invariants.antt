-- `bymember::neutrality::put_amounts` meets its contract. The loop's invariant: each member's place holds the grains of its records passed.
use Rattle.whole.proofs.Adding.{Added, totals_by}
use Rattle.rules.specs.Record.{members, member_of}
use Rattle.rules.specs.Charge.{grains}
use Rattle.hour.specs.Held.{held}
use Rattle.bymember.proofs.neutrality.put_amounts.Given as goal

abbrev pub invariant-loop-i : goal.invariant-loop-i
invariant-loop-i l =
    let h = held l.hour in
    Added (totals_by (member_of h) (grains h)) (members h) h.count l.i l.initial.amounts l.amounts
