-- `tenminutes::charges::zone_cost` meets its contract. The loop's invariant: the sum is that of the intervals passed.
use mathlib.Core.Path.{◌≡◌, sym, ◌∙◌, ap}
use Prim.Native.Nat.{ℕ, ◌≤◌, ◌<◌}
use mathlib.Core.List.{List}
use lib.IntN.{ℤ, pos, ◌*ℤ◌}
use lib.ListN.{get_or}
use native.Mathlib.Omega.{arith}
use Rattle.whole.specs.Below.{total_below}
use Rattle.whole.specs.Signed.{Under}
use Rattle.whole.proofs.Totals.{total_none, total_add_one}
use Rattle.whole.proofs.Machine.{Num, at, local, result, ◌:+◌, gives, fits, stored}
use Rattle.rules.specs.Record.{Hour, zones}
use Rattle.rules.specs.TenMinutes.{ten_minutes_in, net_deviation, interval_price}
use Rattle.rules.specs.Inner.Kept.{TenMinutesKept}
use Rattle.rules.proofs.IntervalBounds.{zone_running, cost_under, net_under}
use Rattle.tenminutes.specs.Room.{NetsInZone, cost_in}
use Rattle.tenminutes.proofs.Adding.{cost_is, zone_cost_is}
use Rattle.tenminutes.proofs.charges.zone_cost.Goals as goal

-- the sum so far and the next interval's cost
module _ {h : Hour} {zone : List ℤ} {z : ℕ} (kept : TenMinutesKept h) (own : NetsInZone h z zone) (there : z < zones h) where
  own_net : {a b : ℤ} → a ≡ b → Under b 6144000000000 → Under a 6144000000000
  own_net e u = rw e u

  small : (k : ℕ) → k < 6 → Under (get_or zone k (pos 0)) 6144000000000
  unfolding net_deviation
  small k l = own_net (own.net_is k l) (net_under kept own.member z k l)

  so_far : (k : ℕ) → k ≤ 6 → Under (total_below (cost_in h z zone) k) 3686400000000000000
  so_far k l = rw (zone_cost_is own k l) (zone_running kept own.member z k there l)

  next : (k : ℕ) → k < 6 → Under (cost_in h z zone k) 614400000000000000
  next k l = rw (cost_is own k l) (cost_under kept own.member z k there l)

  abbrev more : (k : ℕ) → k < 6 → k ≤ 6 → {sum cost : ℤ} → sum ≡ total_below (cost_in h z zone) k → cost ≡ cost_in h z zone k → Num
  more k l m e f = local e (so_far k m) :+ result f (next k l)

pub loop-k-init : goal.loop-k-init
loop-k-init c = sym (total_none _)

pub interval_cost-sum-requires : goal.interval_cost-sum-requires
interval_cost-sum-requires c =
    let few : c.loop-k.k < 6 = omega arith in
    (c.requires.0, few, gives 6144000000000 (at (small c.args.hour.now.kept.hour_kept c.requires.1 c.requires.0 _ few)) tt tt)

-- sum += interval_cost(..)
pub overflow_add-sum : goal.overflow_add-sum
overflow_add-sum c =
    let h = ten_minutes_in c.args.hour.now.file.now in
    let kept = c.args.hour.now.kept.hour_kept in
    let few : c.loop-k.k < 6 = omega arith in
    fits (more kept c.requires.1 c.requires.0 _ few (omega arith) c.loop-k.invariant
    (c.interval_cost-sum.ensures ∙ ap (λ (n : ℤ). n *ℤ interval_price h c.args.z c.loop-k.k n) (stored (at (small kept c.requires.1 c.requires.0 _ few)) tt)))
    tt

pub loop-k-preserved : goal.loop-k-preserved
loop-k-preserved c =
    let h = ten_minutes_in c.args.hour.now.file.now in
    let kept = c.args.hour.now.kept.hour_kept in
    let few : c.loop-k.k < 6 = omega arith in
    stored (more kept c.requires.1 c.requires.0 _ few (omega arith) c.loop-k.invariant
    (c.interval_cost-sum.ensures ∙ ap (λ (n : ℤ). n *ℤ interval_price h c.args.z c.loop-k.k n) (stored (at (small kept c.requires.1 c.requires.0 _ few)) tt)))
    tt
    ∙ sym (total_add_one (cost_in h c.args.z c.args.nets.now) c.loop-k.k)
