-- `bymember::neutrality::put_demands` meets its contract. The loop's invariant: each member's place holds what its records passed demand.
use Rattle.whole.proofs.Adding.{Added, sums_by}
use Rattle.rules.specs.Record.{members, member_of}
use Rattle.rules.specs.Inner.Posting.{demand_of}
use Rattle.hour.specs.Held.{held}
use Rattle.bymember.proofs.neutrality.put_demands.Given as goal

abbrev pub invariant-loop-i : goal.invariant-loop-i
invariant-loop-i l =
    let h = held l.hour in
    Added (sums_by (member_of h) (demand_of h)) (members h) h.count l.i l.initial.demands l.demands
