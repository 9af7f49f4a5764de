-- `tenminutes::charges::amount` meets its contract. The loop's invariant: the sum is that of the zones passed.
use mathlib.Core.Path.{◌≡◌, sym, ◌∙◌, ap}
use mathlib.Core.List.{List, []}
use Prim.Native.Nat.{ℕ, ◌<◌}
use native.Mathlib.Omega.{arith}
use lib.IntN.{ℤ}
use lib.ListN.{length, take}
use Rattle.std.proofs.lemmas.List.{get_or-take, length-take-le}
use Rattle.whole.specs.Below.{total_below}
use Rattle.whole.specs.Signed.{Under}
use Rattle.whole.proofs.Totals.{total_none, total_add_one}
use Rattle.whole.proofs.Machine.{Num, local, result, ◌:+◌, fits, stored}
use Rattle.rules.specs.Record.{Hour, zones}
use Rattle.rules.specs.TenMinutes.{ten_minutes_in}
use Rattle.rules.specs.Inner.Kept.{TenMinutesKept}
use Rattle.rules.proofs.IntervalBounds.{zone_running, amount_running}
use Rattle.tenminutes.specs.Room.{zone_in, NetsOfOne, cost_in}
use Rattle.tenminutes.proofs.Adding.{in_zone, zone_cost_is, amount_is}
use Rattle.tenminutes.proofs.charges.amount.Goals as goal

-- what a zone costs
abbrev by_zone : Hour → List (List ℤ) → ℕ → ℤ
by_zone h nets z = total_below (cost_in h z (zone_in nets z)) 6

-- the sum so far and the next zone's cost
module _ {h : Hour} {nets : List (List ℤ)} {z : ℕ} (kept : TenMinutesKept h) (own : NetsOfOne h nets) (there : z < zones h) where
  so_far : Under (total_below (by_zone h nets) z) 3686400000000000000
  so_far = rw (amount_is own z (omega (arith, there, kept.zones_most))) (amount_running kept own.member z (omega (arith, there)))

  next : Under (by_zone h nets z) 3686400000000000000
  next =
      rw (zone_cost_is (in_zone own z (omega (arith, there, kept.zones_most))) 6 (omega arith))
      (zone_running kept own.member z 6 there (omega arith))

  abbrev more : {sum cost : ℤ} → sum ≡ total_below (by_zone h nets) z → cost ≡ by_zone h nets z → Num
  more e f = local e so_far :+ result f next

pub loop-z-init : goal.loop-z-init
loop-z-init c = sym (total_none _)

-- the next zone's nets, of all of them
taken : {n z : ℕ} (h : Hour) (nets : List (List ℤ)) {cost : ℤ} → z < n → cost ≡ total_below (cost_in h z (zone_in (take n nets) z)) 6 →
    cost ≡ by_zone h nets z
taken {n} {z} h nets l e = e ∙ ap (λ (zone : List ℤ). total_below (cost_in h z zone) 6) (get_or-take n nets z [] l)

-- there are no more zones than places
module _ {h : Hour} {n : ℕ} {nets : List (List ℤ)} (kept : TenMinutesKept h) (own : NetsOfOne h nets) (zones_are : n ≡ zones h) where
  all_taken : length (take n nets) ≡ n
  all_taken = length-take-le n nets (omega (arith, zones_are, kept.zones_most, own.nets.zones))

  one_of : {z : ℕ} → z < length (take n nets) → z < n
  one_of l = omega (arith, all_taken)

pub overflow_add-sum : goal.overflow_add-sum
overflow_add-sum c =
    let hour = c.args.hour.now in
    let h = ten_minutes_in hour.file.now in
    let nets = c.args.nets.now in
    let there = one_of hour.kept.hour_kept c.requires hour.zones_are c.loop-z-test.true in
    fits (more hour.kept.hour_kept c.requires (omega (arith, hour.zones_are, there)) c.loop-z.invariant (taken h nets there c.zone_cost-sum.ensures)) tt

pub loop-z-preserved : goal.loop-z-preserved
loop-z-preserved c =
    let hour = c.args.hour.now in
    let h = ten_minutes_in hour.file.now in
    let nets = c.args.nets.now in
    let there = one_of hour.kept.hour_kept c.requires hour.zones_are c.loop-z-test.true in
    stored (more hour.kept.hour_kept c.requires (omega (arith, hour.zones_are, there)) c.loop-z.invariant (taken h nets there c.zone_cost-sum.ensures)) tt
    ∙ sym (total_add_one (by_zone h nets) c.loop-z.z)
