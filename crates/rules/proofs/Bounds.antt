-- How large the numbers of an hour that keeps its ranges can be: deviations, UFE, shares, grains, amounts and charges, and every sum
-- on the way to them. All fit 64 bits, and row 7 is never broken. Document 01, "Units and ranges", "The sums".
use mathlib.Core.Path.{◌≡◌, refl}
use mathlib.Core.Bool.{Bool, cond, ◌&&◌}
use Rattle.std.specs.Prelude.{None}
use Prim.Native.Nat.{ℕ, ◌+◌, ◌*◌, ◌≤◌, ◌<◌, zero-le}
use native.Mathlib.Nat.{le_refl, le_trans}
use native.Mathlib.Omega.{arith}
use lib.IntN.{ℤ, pos, nat_abs, ◌+ℤ◌, ◌-ℤ◌, ◌*ℤ◌}
use lib.Dec.{eqb}
use borrow.Author.Tests.{le-ltb, eq-eqb}
use Rattle.whole.specs.Below.{sum_below, total_below}
use Rattle.whole.specs.Signed.{Under, Upto, min_ℤ, max_ℤ}
use Rattle.whole.proofs.Tests.{cond_ind}
use Rattle.whole.proofs.Linear.{zr, all1, all2, all4, all5, all6}
use Rattle.whole.proofs.Ranges.{◌u+◌, ◌u-◌, ◌u*◌, u_neg, u_lit, u_more, u_le, u_upto, u_apart, upto_pos, upto_mul, u_zero, u_cond, u_picked}
use Rattle.whole.proofs.Sums.{sum_mono, sum_prefix, sum_at, sum_add, sum_mul, sum_const, sum_by}
use Rattle.whole.proofs.Totals.{total_under, total_within}
use Rattle.whole.proofs.Search.{none_below}
use Rattle.rules.specs.declared.Kind.{Kind}
use Rattle.rules.specs.declared.Kind.TheVariants.{Generator, RealTimeLoad, ProfileLoad, Import, Export, Unknown}
use Rattle.rules.specs.Record.{Hour, Entry, members, areas, price, zone_of, tie_in, tie_out, member_of, area_of, entry_of, is_load}
use Rattle.rules.specs.Deviation.{units_per_kwh, generator_unavailable, generator_deviation, load_unavailable, load_deviation}
use Rattle.rules.specs.Deviation.{import_deviation, export_deviation, deviation_as, deviation}
use Rattle.rules.specs.Ufe.{in_area, ufe, demand}
use Rattle.rules.specs.Charge.{entering_as, entering, share_of, grains, amount, cents, charge}
use Rattle.rules.specs.Inner.Posting.{accounted_as, accounted}
use Rattle.rules.specs.Refusals.{most_grains, bad_amount}
use Rattle.rules.specs.Inner.Kept.{EntryKept, EntryRoom, IntervalKept, HourKept}
use Rattle.rules.proofs.Tariff.{ufe_by_record}
use Rattle.rules.proofs.Rounding.{cents_under}
use Rattle.rules.proofs.Fair.{share_sizes_at_most}

-- ---- a record

-- what N adds, the unavailable energy doesn't add again
ancillary_under : (M A O N : ℤ) → Upto M 100000 → Upto A 100000 → Upto O 100000 → Upto N 100000 →
    Under (N -ℤ min_ℤ (pos 0) (M -ℤ A -ℤ (O -ℤ N))) 200000
ancillary_under = all4 _ (λ M A O N. simp zr (omega arith))

load_energy_under : (S A J N O : ℤ) → Upto S 100000 → Upto A 100000 → Under J 100000 → Upto N 100000 → Upto O 100000 →
    Under (S -ℤ ((A -ℤ J) +ℤ N) -ℤ max_ℤ (pos 0) ((O -ℤ N) -ℤ A)) 400000
load_energy_under = all5 _ (λ S A J N O. simp zr (omega arith))

-- S×F and A×H are taken from each other; J×H and the ancillary energy stand apart
spread_generator : (x A J H n u : ℤ) → x -ℤ ((A -ℤ J) *ℤ H -ℤ n) -ℤ u ≡ x -ℤ A *ℤ H +ℤ J *ℤ H +ℤ (n -ℤ u)
spread_generator = all6 _ (λ x A J H n u. simp zr (omega arith))

spread_import : (x A J H n : ℤ) → x -ℤ (A -ℤ J) *ℤ H +ℤ n ≡ x -ℤ A *ℤ H +ℤ J *ℤ H +ℤ n
spread_import = all5 _ (λ x A J H n. simp zr (omega arith))

units_apart : (n u : ℤ) → units_per_kwh *ℤ n -ℤ units_per_kwh *ℤ u ≡ units_per_kwh *ℤ (n -ℤ u)
units_apart = all2 _ (λ n u. simp zr (omega arith))

-- the bound is reached at both ends of H
loss_rate_under : (H : ℤ) → Upto H 20000 → Under (units_per_kwh -ℤ H) 10000
loss_rate_under = all1 _ (λ H. simp zr (omega arith))

pub units_under : {z : ℤ} {k : ℕ} → Under z k → Under (units_per_kwh *ℤ z) (10000 * k)
units_under h = u_lit units_per_kwh u* h

more : (k : ℕ) (z : ℤ) → k ≤ 2400000 → Upto z k → Upto z 2400000
more k = all1 _ (λ z. simp zr (omega arith))

pub entry_room : {r : Entry} → EntryKept r → EntryRoom r
entry_room kept = record {
  S_in = more 100000 _ (omega arith) kept.S_in;
  A_in = more 100000 _ (omega arith) kept.A_in;
  J_in = u_more 2400000 kept.J_in tt;
  N_in = more 100000 _ (omega arith) kept.N_in;
  O_in = more 100000 _ (omega arith) kept.O_in;
  M_in = more 100000 _ (omega arith) kept.M_in;
  F_in = kept.F_in;
  H_in = kept.H_in;
}

pub interval_room : {r : Entry} → IntervalKept r → EntryRoom r
interval_room kept = record {
  S_in = more 400000 _ (omega arith) kept.S_in;
  A_in = kept.A_in;
  J_in = kept.J_in;
  N_in = kept.N_in;
  O_in = rw kept.none_owed (upto_pos 0 2400000 (omega arith));
  M_in = rw kept.maximum_is kept.A_in;
  F_in = kept.F_in;
  H_in = kept.H_in;
}

module _ {r : Entry} (kept : EntryKept r) where
  open kept use {S_in, A_in, J_in, N_in, O_in, M_in, F_in, H_in}

  scheduled_less_metered : Under (r.S *ℤ r.F -ℤ r.A *ℤ r.H +ℤ r.J *ℤ r.H) 4000000000
  scheduled_less_metered = u_apart (upto_mul S_in F_in) (upto_mul A_in H_in) u+ J_in u* u_upto H_in

  pub generator_under : Under (generator_deviation r) 6000000000
  unfolding generator_unavailable generator_deviation
  generator_under = let unavailable = min_ℤ (pos 0) (r.M -ℤ r.A -ℤ (r.O -ℤ r.N)) in rw (
    spread_generator (r.S *ℤ r.F) r.A r.J r.H (units_per_kwh *ℤ r.N) (units_per_kwh *ℤ unavailable),
    units_apart r.N unavailable,
  ) (scheduled_less_metered u+ units_under (ancillary_under r.M r.A r.O r.N M_in A_in O_in N_in))

  pub load_under : Under (load_deviation r) 4000000000
  unfolding load_unavailable load_deviation
  load_under = units_under (load_energy_under r.S r.A r.J r.N r.O S_in A_in J_in N_in O_in)

  pub import_under : Under (import_deviation r) 5000000000
  unfolding import_deviation
  import_under = rw (spread_import (r.S *ℤ r.F) r.A r.J r.H (units_per_kwh *ℤ r.N))
      (scheduled_less_metered u+ units_under (u_upto N_in))

  pub export_under : Under (export_deviation r) 3000000000
  unfolding export_deviation
  export_under = units_under (u_upto S_in u- u_upto A_in u- J_in)

  deviation_as_under : (k : Kind) → Under (deviation_as r k) 6000000000
  deviation_as_under Generator = generator_under
  deviation_as_under RealTimeLoad = u_more 6000000000 load_under tt
  deviation_as_under ProfileLoad = u_more 6000000000 load_under tt
  deviation_as_under Import = u_more 6000000000 import_under tt
  deviation_as_under Export = u_more 6000000000 export_under tt
  deviation_as_under Unknown = u_zero

  -- No deviation is over 6×10^9 units in size, and none as it enters an amount.
  pub deviation_under : Under (deviation r) 6000000000
  unfolding deviation
  deviation_under = deviation_as_under r.kind

  entering_as_under : (k : Kind) → Under (entering_as k (deviation r)) 6000000000
  entering_as_under Generator = deviation_under
  entering_as_under RealTimeLoad = u_neg deviation_under
  entering_as_under ProfileLoad = u_neg deviation_under
  entering_as_under Import = deviation_under
  entering_as_under Export = u_neg deviation_under
  entering_as_under Unknown = u_zero

  pub entering_under : Under (entering r) 6000000000
  unfolding entering
  entering_under = entering_as_under r.kind

  metered_under : Under (units_per_kwh *ℤ r.A) 1000000000
  metered_under = units_under (u_upto A_in)

  lost_under : Under (r.A *ℤ (units_per_kwh -ℤ r.H)) 1000000000
  lost_under = u_upto A_in u* loss_rate_under r.H H_in

  accounted_as_under : (k : Kind) → Under (accounted_as k r.A r.H) 2000000000
  unfolding accounted_as
  accounted_as_under Generator = metered_under u- lost_under
  accounted_as_under RealTimeLoad = u_more 2000000000 (u_neg metered_under) tt
  accounted_as_under ProfileLoad = u_more 2000000000 (u_neg metered_under) tt
  accounted_as_under Import = u_more 2000000000 (u_neg lost_under) tt
  accounted_as_under Export = u_zero
  accounted_as_under Unknown = u_zero

  -- No record adds more than 2×10^9 units to its area's energy.
  pub accounted_under : Under (accounted r) 2000000000
  unfolding accounted
  accounted_under = accounted_as_under r.kind

-- ---- sums over the records

module _ {h : Hour} (kept : HourKept h) where
  -- A running sum of an area's demands is at most 25,000,000 kWh.
  pub demand_running : (a n : ℕ) → n ≤ h.count → sum_below (λ i. cond (in_area h a is_load i) (demand h i) 0) n ≤ 25000000
  demand_running a n l = omega (arith, sum_mono _ (λ i. 100000) n each, sum_const 100000 n, kept.count_most)
    where
      each : (i : ℕ) → i < n → cond (in_area h a is_load i) (demand h i) 0 ≤ 100000
      each i m = cond_ind (in_area h a is_load i) (demand h i) 0 (λ d. d ≤ 100000) (λ t. (kept.record_kept i (omega arith)).demand_most)
          (λ t. zero-le)

  energy_at : (i : ℕ) → i < h.count → Under (accounted (entry_of h i)) 2000000000
  energy_at i l = accounted_under (kept.record_kept i l).entry_kept

  -- A running sum of an area's energy is at most 5×10^11 units in size.
  pub energy_running : (a n : ℕ) → n ≤ h.count →
      Under (total_below (λ i. cond (eqb (area_of h i) a) (accounted (entry_of h i)) (pos 0)) n) 500000000000
  energy_running a n l = u_le (total_under _ 2000000000 n each) (omega (arith, kept.count_most))
    where
      each : (i : ℕ) → i < n → Under (cond (eqb (area_of h i) a) (accounted (entry_of h i)) (pos 0)) 2000000000
      each i m = u_cond (eqb (area_of h i) a) (energy_at i (omega arith))

  -- each record is of one area
  by_area : (f : ℕ → ℕ) → sum_below (λ a. sum_below (λ i. cond (eqb (area_of h i) a) (f i) 0) h.count) (areas h) ≡ sum_below f h.count
  by_area f = sum_by f (area_of h) (areas h) h.count (λ i l. (kept.record_kept i l).area_there)

  -- ---- UFE

  ties_under : (a : ℕ) → a < areas h → Under (units_per_kwh *ℤ (tie_in h a -ℤ tie_out h a)) 100000000000
  ties_under a l = let k = kept.area_kept a l in units_under (u_apart k.tie_in_lem k.tie_out_lem)

  -- An area's UFE is at most 10^12 units in size.
  pub ufe_under : (a : ℕ) → a < areas h → Under (ufe h a) 1000000000000
  ufe_under a l = rw (ufe_by_record h a) (u_more 1000000000000 (ties_under a l u+ energy_running a h.count (le_refl h.count)) tt)

  -- its ties, and 2×10^9 for each of its records: each record counts in one area, so that the areas together stay below eight times the
  -- above
  ufe_within : (a : ℕ) → a < areas h → Under (ufe h a) (100000000000 + sum_below (λ i. cond (eqb (area_of h i) a) 2000000000 0) h.count)
  ufe_within a l =
      rw (ufe_by_record h a) (ties_under a l u+ total_within _ _ h.count (λ i m. u_picked (eqb (area_of h i) a) (energy_at i m)))

  -- The UFE of all areas together is at most 1.3×10^12 units in size.
  pub all_ufe_most : sum_below (λ a. nat_abs (ufe h a)) (areas h) ≤ 1300000000000
  all_ufe_most = omega (
    arith,
    sum_mono _ _ (areas h) (λ a l. (ufe_within a l).under),
    sum_add (λ a. 100000000000) (λ a. sum_below (λ i. cond (eqb (area_of h i) a) 2000000000 0) h.count) (areas h),
    sum_const 100000000000 (areas h),
    by_area (λ i. 2000000000),
    sum_const 2000000000 h.count,
    kept.areas_most,
    kept.count_most,
  )

  -- ---- shares

  -- All shares together are at most 1.3×10^12 units in size.
  pub all_shares_most : sum_below (λ i. nat_abs (share_of h i)) h.count ≤ 1300000000000
  all_shares_most = omega (
    arith,
    by_area (λ i. nat_abs (share_of h i)),
    sum_mono _ (λ a. nat_abs (ufe h a)) (areas h) (λ a l. share_sizes_at_most h a),
    all_ufe_most,
  )

  pub share_under : (i : ℕ) → i < h.count → Under (share_of h i) 1000000000000
  share_under i l =
      let a : ℕ = area_of h i in
      let own = sum_at (λ j. cond (eqb (area_of h j) a) (nat_abs (share_of h j)) 0) h.count i l in
      let u = ufe_under a (kept.record_kept i l).area_there in
      record { under = le_trans (rw (eq-eqb a a refl) at own) (le_trans (share_sizes_at_most h a) u.under) }

  -- ---- grains and amounts

  pub price_under : (a : ℕ) → a < areas h → Under (price h a) 1000000
  unfolding price
  price_under a l = kept.price_in (zone_of h a) (kept.area_kept a l).zone_there

  grains_within : (i s : ℕ) → i < h.count → Under (share_of h i) s → Under (grains h i) (1000000 * (6000000000 + s))
  unfolding grains
  grains_within i s l u =
      let k = kept.record_kept i l in
      price_under (area_of h i) k.area_there u* (entering_under k.entry_kept u+ u)

  pub grains_under : (i : ℕ) → i < h.count → Under (grains h i) 1006000000000000000
  grains_under i l = grains_within i 1000000000000 l (share_under i l)

  -- for each record 6×10^9 units and its share, at the largest price
  allowed_most : sum_below (λ i. (6000000000 + nat_abs (share_of h i)) * 1000000) h.count ≤ 2800000000000000000
  allowed_most = omega (
    arith,
    sum_mul (λ i. 6000000000 + nat_abs (share_of h i)) 1000000 h.count,
    sum_add (λ i. 6000000000) (λ i. nat_abs (share_of h i)) h.count,
    sum_const 6000000000 h.count,
    all_shares_most,
    kept.count_most,
  )

  grains_own : (i : ℕ) → i < h.count → nat_abs (grains h i) ≤ (6000000000 + nat_abs (share_of h i)) * 1000000
  grains_own i l = le_trans (grains_within i (nat_abs (share_of h i)) l (u_lit (share_of h i))).under (omega arith)

  -- The grains of all records together are at most 2.8×10^18 in size.
  pub all_grains_most : sum_below (λ i. nat_abs (grains h i)) h.count ≤ 2800000000000000000
  all_grains_most = le_trans (sum_mono _ _ h.count grains_own) allowed_most

  -- A running sum of a member's grains is at most 2.8×10^18 in size, and so is its exact amount.
  pub amount_running : (m n : ℕ) → n ≤ h.count →
      Under (total_below (λ i. cond (eqb (member_of h i) m) (grains h i) (pos 0)) n) 2800000000000000000
  amount_running m n l = u_le
      (total_within _ (λ i. nat_abs (grains h i)) n (λ i j. u_cond (eqb (member_of h i) m) (u_lit (grains h i))))
      (le_trans (sum_prefix (λ i. nat_abs (grains h i)) n h.count l) all_grains_most)

  pub amount_under : (m : ℕ) → Under (amount h m) 2800000000000000000
  unfolding amount
  amount_under m = amount_running m h.count (le_refl h.count)

  -- A running sum over a member's records of some kinds, the price times a figure that is no larger than what it and the share may be.
  pub priced_running : (m n : ℕ) (kinds : Kind → Bool) (figure : ℕ → ℤ) → n ≤ h.count →
      ((i : ℕ) → i < h.count → Under (figure i) (6000000000 + nat_abs (share_of h i))) →
      Under (total_below (λ i. cond (eqb (member_of h i) m && kinds (entry_of h i).kind) (price h (area_of h i) *ℤ figure i) (pos 0)) n)
      2800000000000000000
  priced_running m n kinds figure l each = u_le
      (total_within _ (λ i. (6000000000 + nat_abs (share_of h i)) * 1000000) n (λ i j.
      let there : i < h.count = omega arith in
      u_cond (eqb (member_of h i) m && kinds (entry_of h i).kind)
      (u_le (price_under (area_of h i) (kept.record_kept i there).area_there u* each i there) (omega arith))))
      (le_trans (sum_prefix (λ i. (6000000000 + nat_abs (share_of h i)) * 1000000) n h.count l) allowed_most)

  -- Row 7 is never broken.
  pub row_7_never : bad_amount h ≡ None
  unfolding bad_amount
  row_7_never = none_below _ (members h) (λ m l. le-ltb most_grains (nat_abs (amount h m)) (let u = amount_under m in omega arith))

  -- No charge is over 280,000,000,000 cents in size.
  pub charge_under : (m : ℕ) → Under (charge h m) 280000000000
  unfolding charge cents
  charge_under m = cents_under 10000000 280000000000 (omega arith) (amount h m) (amount_under m)
