-- `byrecord::deviations::put_deviations` meets its contract. The loop's invariant: the places passed hold the deviations.
use Rattle.whole.proofs.Filling.{Filled}
use Rattle.rules.specs.Record.{entry_of}
use Rattle.rules.specs.Deviation.{deviation}
use Rattle.hour.specs.Held.{held}
use Rattle.byrecord.proofs.deviations.put_deviations.Given as goal

abbrev pub invariant-loop-i : goal.invariant-loop-i
invariant-loop-i l = Filled (λ k. deviation (entry_of (held l.hour) k)) (held l.hour).count l.i l.initial.out l.out
