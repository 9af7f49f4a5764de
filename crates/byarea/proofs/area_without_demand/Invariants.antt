-- `byarea::area_without_demand` meets its contract. The loop's invariant: no area passed breaks refusal 6.
use mathlib.Core.Path.{◌≡◌}
use Rattle.std.specs.Prelude.{None}
use Rattle.whole.specs.Below.{first_below}
use Rattle.byarea.specs.Posted.{unshared}
use Rattle.byarea.proofs.area_without_demand.Given as goal

abbrev pub invariant-loop-a : goal.invariant-loop-a
invariant-loop-a l = first_below (unshared l.t l.ufe) l.a ≡ None
