-- `byarea::ufe_figures` meets its contract. The loop's invariant: of eight zeros the places passed are replaced by their area's UFE.
use lib.IntN.{pos}
use lib.ListN.{replicate}
use Rattle.whole.proofs.Filling.{Filled}
use Rattle.rules.specs.Record as Record
use Rattle.rules.specs.Ufe as Ufe
use Rattle.hour.specs.Held.{held}
use Rattle.byarea.proofs.ufe_figures.Given as goal

abbrev pub invariant-loop-a : goal.invariant-loop-a
invariant-loop-a l = Filled (Ufe.ufe (held l.hour)) (Record.areas (held l.hour)) l.a (replicate 8 (pos 0)) l.ufe
