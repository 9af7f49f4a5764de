-- `tenminutes::charges::put_charges` meets its contract. The loop's invariant: the members passed have their charges.
use Rattle.whole.proofs.Filling.{Filled}
use Rattle.rules.specs.TenMinutes.{ten_minutes_in, ten_minutes_charge}
use Rattle.tenminutes.specs.Chain.{Chained}
use Rattle.tenminutes.proofs.charges.put_charges.Given as goal

abbrev pub invariant-loop-member : goal.invariant-loop-member
invariant-loop-member l =
    Filled (ten_minutes_charge (ten_minutes_in l.fn.hour.file.now)) l.fn.hour.members l.member l.initial.charge-items l.charge-items

abbrev pub invariant-loop-i : goal.invariant-loop-i
invariant-loop-i l = Chained (ten_minutes_in l.hour.file.now) l.i l.firsts l.nexts
