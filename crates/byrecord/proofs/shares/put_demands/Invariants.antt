-- `byrecord::shares::put_demands` meets its contract. The loop's invariant: the loads passed are counted, and their demands put.
use Rattle.hour.specs.Held.{held}
use Rattle.byrecord.proofs.Loads.{DemandsPut}
use Rattle.byrecord.proofs.shares.put_demands.Given as goal

abbrev pub invariant-loop-i : goal.invariant-loop-i
invariant-loop-i l = DemandsPut (held l.hour) l.a l.i l.loads l.initial.demands l.demands
