-- `tenminutes::charges::amount` meets its contract. The loop's invariant: the sum is that of the zones passed.
use mathlib.Core.Path.{◌≡◌}
use Rattle.whole.specs.Below.{total_below}
use Rattle.rules.specs.TenMinutes.{ten_minutes_in}
use Rattle.tenminutes.specs.Room.{cost_in, zone_in}
use Rattle.tenminutes.proofs.charges.amount.Given as goal

abbrev pub invariant-loop-z : goal.invariant-loop-z
invariant-loop-z l =
    l.sum ≡ total_below (λ z. total_below (cost_in (ten_minutes_in l.hour.file.now) z (zone_in l.nets z)) 6) l.z
