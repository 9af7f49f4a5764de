-- `tenminutes::charges::zone_cost` meets its contract. The loop's invariant: the sum is that of the intervals passed.
use mathlib.Core.Path.{◌≡◌}
use Rattle.whole.specs.Below.{total_below}
use Rattle.rules.specs.TenMinutes.{ten_minutes_in}
use Rattle.tenminutes.specs.Room.{cost_in}
use Rattle.tenminutes.proofs.charges.zone_cost.Given as goal

abbrev pub invariant-loop-k : goal.invariant-loop-k
invariant-loop-k l = l.sum ≡ total_below (cost_in (ten_minutes_in l.hour.file.now) l.z l.nets) l.k
