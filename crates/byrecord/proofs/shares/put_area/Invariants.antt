-- `byrecord::shares::put_area` meets its contract. The loop's invariant: the loads passed are counted, and have their shares.
use Rattle.hour.specs.Held.{held}
use Rattle.byrecord.proofs.Loads.{SharesPut}
use Rattle.byrecord.proofs.shares.put_area.Given as goal

abbrev pub invariant-loop-i : goal.invariant-loop-i
invariant-loop-i l = SharesPut (held l.hour) l.a l.figure l.sizes l.i l.loads l.initial.out l.out
