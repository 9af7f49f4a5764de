-- `tenminutes::chain::Chain::put_nets` meets its contract. The loop's invariant: the member's records before the one reached are added up.
use Rattle.rules.specs.TenMinutes.{ten_minutes_in}
use Rattle.tenminutes.proofs.Chaining.{Reached, left_from}
use Rattle.tenminutes.proofs.chain.Chain.put_nets.Given as goal

abbrev pub invariant-loop-next : goal.invariant-loop-next
invariant-loop-next l = Reached (ten_minutes_in l.self.hour.file.now) l.member l.next l.nets

abbrev pub decreases-loop-next : goal.decreases-loop-next
decreases-loop-next l = left_from l.next
