-- `byarea::nobody_demands` meets its contract. The loop's invariant: no area passed demands anything.
use mathlib.Core.Path.{◌≡◌}
use Rattle.byarea.specs.Posted.{demand_in}
use Rattle.byarea.proofs.nobody_demands.Given as goal

abbrev pub invariant-loop-own : goal.invariant-loop-own
invariant-loop-own l = demand_in l.fn.t l.own-index ≡ 0
