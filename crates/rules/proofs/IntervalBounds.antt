-- How large the numbers of a ten-minute hour that keeps its ranges can be: an interval's deviation, nets, what they cost, amounts and
-- charges, and every sum on the way to them. All fit 64 bits. Document 02, A7.
use mathlib.Core.Path.{◌≡◌}
use mathlib.Core.Bool.{Bool, true, false, cond, ◌&&◌}
use Prim.Native.Nat.{ℕ, ◌*◌, ◌≤◌, ◌<◌}
use native.Mathlib.Nat.{le_refl, le_trans}
use native.Mathlib.Omega.{arith}
use lib.IntN.{ℤ, pos, ◌+ℤ◌, ◌-ℤ◌, ◌*ℤ◌}
use lib.Signed.{lt_z}
use lib.Dec.{eqb}
use Rattle.whole.specs.Below.{sum_below, total_below}
use Rattle.whole.specs.Signed.{Under, Upto, min_ℤ, max_ℤ}
use Rattle.whole.proofs.Tests.{cond_ind}
use Rattle.whole.proofs.Linear.{zr, all2, all3, all4, all5, all6}
use Rattle.whole.proofs.Ranges.{◌u+◌, ◌u*◌, u_neg, u_more, u_le, u_upto, u_apart, upto_mul, u_zero, u_cond, u_picked}
use Rattle.whole.proofs.Sums.{sum_prefix, sum_mul, sum_const, sum_by}
use Rattle.whole.proofs.Totals.{total_under, total_within}
use Rattle.rules.specs.declared.Kind.{Kind}
use Rattle.rules.specs.declared.Kind.TheVariants.{Generator, RealTimeLoad, ProfileLoad, Import, Export, Unknown}
use Rattle.rules.specs.Record.{Hour, Entry, zones, zone_of, member_of, area_of}
use Rattle.rules.specs.Deviation.{units_per_kwh, generator_unavailable, generator_deviation, load_unavailable, load_deviation}
use Rattle.rules.specs.Deviation.{import_deviation, export_deviation, deviation_as, deviation}
use Rattle.rules.specs.Charge.{entering_as, entering}
use Rattle.rules.specs.TenMinutes.{interval_of, interval_price, net_deviation, interval_cost}
use Rattle.rules.specs.TenMinutes.{ten_minutes_amount, ten_minutes_charge}
use Rattle.rules.specs.Inner.Kept.{IntervalKept, TenMinutesKept}
use Rattle.rules.proofs.Rounding.{cents_under}
use Rattle.rules.proofs.Bounds.{units_under}

-- ---- an interval of a record

-- S×F and what N adds are taken from A×H, and J×H stands apart; nothing is unavailable
spread_generator : (x A J H N u : ℤ) → u ≡ pos 0 →
    x -ℤ ((A -ℤ J) *ℤ H -ℤ units_per_kwh *ℤ N) -ℤ units_per_kwh *ℤ u ≡ (x +ℤ units_per_kwh *ℤ N) -ℤ A *ℤ H +ℤ J *ℤ H
spread_generator = all6 _ (λ x A J H N u. simp zr (omega arith))

spread_import : (x A J H N : ℤ) → x -ℤ (A -ℤ J) *ℤ H +ℤ units_per_kwh *ℤ N ≡ (x +ℤ units_per_kwh *ℤ N) -ℤ A *ℤ H +ℤ J *ℤ H
spread_import = all5 _ (λ x A J H N. simp zr (omega arith))

nothing_unavailable : (M A O N : ℤ) → M ≡ A → O ≡ pos 0 → Upto N 2400000 → min_ℤ (pos 0) (M -ℤ A -ℤ (O -ℤ N)) ≡ pos 0
nothing_unavailable = all4 _ (λ M A O N. simp zr (omega arith))

load_energy_under : (S A J N O : ℤ) → Upto S 400000 → Upto A 2400000 → Under J 2400000 → Upto N 2400000 → O ≡ pos 0 →
    Under (S -ℤ ((A -ℤ J) +ℤ N) -ℤ max_ℤ (pos 0) ((O -ℤ N) -ℤ A)) 7200000
load_energy_under = all5 _ (λ S A J N O. simp zr (omega arith))

export_energy_under : (S A J : ℤ) → Upto S 400000 → Upto A 2400000 → Under J 2400000 → Under (S -ℤ A -ℤ J) 4800000
export_energy_under = all3 _ (λ S A J. simp zr (omega arith))

added_in : (x N : ℤ) → Upto x 8000000000 → Upto N 2400000 → Upto (x +ℤ units_per_kwh *ℤ N) 48000000000
added_in = all2 _ (λ x N. simp zr (omega arith))

module _ {r : Entry} (kept : IntervalKept r) where
  open kept use {S_in, A_in, J_in, N_in, none_owed, maximum_is, F_in, H_in}

  supplied_under : Under ((r.S *ℤ r.F +ℤ units_per_kwh *ℤ r.N) -ℤ r.A *ℤ r.H +ℤ r.J *ℤ r.H) 96000000000
  supplied_under = u_apart (added_in (r.S *ℤ r.F) r.N (upto_mul S_in F_in) N_in) (upto_mul A_in H_in) u+ J_in u* u_upto H_in

  generator_under : Under (generator_deviation r) 96000000000
  unfolding generator_unavailable generator_deviation
  generator_under = rw (spread_generator (r.S *ℤ r.F) r.A r.J r.H r.N _
      (nothing_unavailable r.M r.A r.O r.N maximum_is none_owed N_in)) supplied_under

  load_under : Under (load_deviation r) 72000000000
  unfolding load_unavailable load_deviation
  load_under = units_under (load_energy_under r.S r.A r.J r.N r.O S_in A_in J_in N_in none_owed)

  import_under : Under (import_deviation r) 96000000000
  unfolding import_deviation
  import_under = rw (spread_import (r.S *ℤ r.F) r.A r.J r.H r.N) supplied_under

  export_under : Under (export_deviation r) 48000000000
  unfolding export_deviation
  export_under = units_under (export_energy_under r.S r.A r.J S_in A_in J_in)

  entering_as_under : (k : Kind) → Under (entering_as k (deviation_as r k)) 96000000000
  entering_as_under Generator = generator_under
  entering_as_under RealTimeLoad = u_more 96000000000 (u_neg load_under) tt
  entering_as_under ProfileLoad = u_more 96000000000 (u_neg load_under) tt
  entering_as_under Import = import_under
  entering_as_under Export = u_more 96000000000 (u_neg export_under) tt
  entering_as_under Unknown = u_zero

  -- No interval's deviation, as it enters a net, is over 9.6×10^10 in size.
  pub interval_under : Under (entering r) 96000000000
  unfolding entering deviation
  interval_under = entering_as_under r.kind

-- ---- sums over the records, zones and intervals

module _ {h : Hour} (kept : TenMinutesKept h) where
  entering_at : (i k : ℕ) → i < h.count → k < 6 → Under (entering (interval_of h i k)) 96000000000
  entering_at i k l m = interval_under ((kept.record_kept i l).interval_kept k m)

  abbrev zone_at : ℕ → ℕ
  zone_at i = zone_of h (area_of h i)

  zone_there : (i : ℕ) → i < h.count → zone_at i < zones h
  zone_there i l = kept.zone_there (area_of h i) (kept.record_kept i l).area_there

  -- A running sum of a net is at most 6.2×10^12 in size.
  pub net_running : (m z k n : ℕ) → k < 6 → n ≤ h.count →
      Under (total_below (λ i. cond (eqb (member_of h i) m && eqb (zone_at i) z) (entering (interval_of h i k)) (pos 0)) n) 6144000000000
  net_running m z k n l few = u_le (total_under _ 96000000000 n each) (omega (arith, kept.count_most))
    where
      each : (i : ℕ) → i < n → Under (cond (eqb (member_of h i) m && eqb (zone_at i) z) (entering (interval_of h i k)) (pos 0)) 96000000000
      each i j = u_cond (eqb (member_of h i) m && eqb (zone_at i) z) (entering_at i k (omega arith) l)

  pub net_under : (m z k : ℕ) → k < 6 → Under (net_deviation h m z k) 6144000000000
  unfolding net_deviation
  net_under m z k l = net_running m z k h.count l (le_refl h.count)

  -- 9.6×10^10 for each record of the zone: each is of one zone, so that the zones together stay below four times the above
  abbrev zone_most : ℕ → ℕ
  zone_most z = sum_below (λ i. cond (eqb (zone_at i) z) 96000000000 0) h.count

  either_picked : (a b : Bool) {x : ℤ} {n : ℕ} → Under x n → Under (cond (a && b) x (pos 0)) (cond b n 0)
  either_picked true b u = u_picked b u
  either_picked false b u = u_zero

  net_within : (m z k : ℕ) → k < 6 → Under (net_deviation h m z k) (zone_most z)
  unfolding net_deviation
  net_within m z k l = total_within _ _ h.count (λ i j. either_picked (eqb (member_of h i) m) (eqb (zone_at i) z) (entering_at i k j l))

  all_zones_lem : sum_below zone_most (zones h) ≤ 6144000000000
  all_zones_lem = omega (
    arith,
    sum_by (λ i. 96000000000) zone_at (zones h) h.count zone_there,
    sum_const 96000000000 h.count,
    kept.count_most,
  )

  pub price_under : (z k : ℕ) (net : ℤ) → z < zones h → k < 6 → Under (interval_price h z k net) 100000
  unfolding interval_price
  price_under z k net l m = cond_ind (lt_z net (pos 0)) _ _ (λ p. Under p 100000) (λ t. kept.decremental_in z k l m)
      (λ t. u_cond (lt_z (pos 0) net) (kept.incremental_in z k l m))

  pub cost_under : (m z k : ℕ) → z < zones h → k < 6 → Under (interval_cost h m z k) 614400000000000000
  unfolding interval_cost
  cost_under m z k l j = net_under m z k j u* price_under z k (net_deviation h m z k) l j

  -- A running sum over a zone's intervals, and one over the zones, is at most 3.7×10^18 in size, and so is a member's amount.
  pub zone_running : (m z n : ℕ) → z < zones h → n ≤ 6 → Under (total_below (interval_cost h m z) n) 3686400000000000000
  zone_running m z n l few = u_le (total_under _ 614400000000000000 n (λ k j. cost_under m z k l (omega arith))) (omega arith)

  zone_within : (m z : ℕ) → z < zones h → Under (total_below (interval_cost h m z) 6) (zone_most z * 600000)
  unfolding interval_cost
  zone_within m z l = u_le
      (total_under _ (zone_most z * 100000) 6 (λ k j. net_within m z k j u* price_under z k (net_deviation h m z k) l j))
      (omega arith)

  pub amount_running : (m n : ℕ) → n ≤ zones h → Under (total_below (λ z. total_below (interval_cost h m z) 6) n) 3686400000000000000
  amount_running m n few = u_le
      (total_within _ (λ z. zone_most z * 600000) n (λ z l. zone_within m z (omega arith)))
      (le_trans (sum_prefix (λ z. zone_most z * 600000) n (zones h) few) (omega (arith, sum_mul zone_most 600000 (zones h), all_zones_lem)))

  pub amount_under : (m : ℕ) → Under (ten_minutes_amount h m) 3686400000000000000
  unfolding ten_minutes_amount
  amount_under m = amount_running m (zones h) (le_refl (zones h))

  -- No charge is over 15,360,000,000 cents in size.
  pub charge_under : (m : ℕ) → Under (ten_minutes_charge h m) 15360000000
  unfolding ten_minutes_charge
  charge_under m = cents_under 240000000 15360000000 (omega arith) (ten_minutes_amount h m) (amount_under m)
