-- `hour::prices` meets its contract. The loop's invariant: of eight zeros the places passed are replaced by their area's price.
use lib.IntN.{pos}
use lib.ListN.{replicate}
use Rattle.whole.proofs.Filling.{Filled}
use Rattle.rules.specs.Record as Record
use Rattle.rules.specs.HourFile.{hour_in}
use Rattle.hour.proofs.prices.Given as goal

abbrev pub invariant-loop-a : goal.invariant-loop-a
invariant-loop-a l =
    Filled (Record.price (hour_in l.file)) (Record.areas (hour_in l.file)) l.a (replicate 8 (pos 0)) l.prices
