-- An interval of a record by document 01's formulas and the second reading of 000, D 2.1.1, give the same deviations, nets and amounts.
-- Document 02, A7.
use mathlib.Core.Path.{◌≡◌, refl, sym, ◌∙◌, ap}
use mathlib.Core.Bool.{Bool, true, false, cond, ◌&&◌, and-false}
use Prim.Native.Nat.{ℕ, zero, suc, ◌+◌, ◌*◌, zero-le}
use native.Mathlib.Omega.{arith}
use lib.Dec.{eqb}
use lib.IntN.{ℤ, pos, negsuc, neg_ℤ, +ℤ_idl, +ℤ_idr, ◌+ℤ◌, ◌-ℤ◌, ◌*ℤ◌}
use lib.Signed.{lt_z}
use borrow.Author.Tests.{eqb-true, eqb-false, eq-eqb, ne_eqb, lt-ltb, le-ltb}
use Rattle.whole.specs.Signed.{min_ℤ, max_ℤ}
use Rattle.whole.proofs.Tests.{split}
use Rattle.whole.proofs.Linear.{zr, all1, all3}
use Rattle.whole.proofs.Totals.{total_ext, total_add, total_neg}
use Rattle.rules.specs.declared.Kind.{Kind}
use Rattle.rules.specs.declared.Kind.TheVariants.{Generator, RealTimeLoad, ProfileLoad, Import, Export, Unknown}
use Rattle.rules.specs.Record.{Hour, zones, zone_of, member_of, area_of, signed, is_generator, is_load, is_import, is_export}
use Rattle.rules.specs.Deviation.{units_per_kwh, generator_unavailable, generator_deviation, load_unavailable, load_deviation}
use Rattle.rules.specs.Deviation.{import_deviation, export_deviation, deviation_as, deviation}
use Rattle.rules.specs.Charge.{entering_as, entering}
use Rattle.rules.specs.TenMinutes.{a_sixth, in_full, is_ramped, kind_in, this_hour, hour_before, next_hour, ramp_part, scheduled_in, actual_in}
use Rattle.rules.specs.TenMinutes.{interval_entry, interval_of, incremental, decremental, interval_price, net_deviation, interval_cost}
use Rattle.rules.specs.TenMinutes.{ten_minutes_amount}
use Rattle.rules.specs.Promised.Intervals.{beep_schedule, beep_gen_dev, beep_load_dev, beep_profile_dev, beep_imp_dev}
use Rattle.rules.proofs.Tariff.{export_units}
use Rattle.rules.specs.Promised.Intervals.{beep_exp_dev, beep_dev_as, beep_sum, NetDev, BIP, DevC, all_dev_C}

-- ---- what an interval has of each number

-- b counts from 1, and k from 0
next_is : (k n : ℕ) → eqb (suc k) (suc n) ≡ eqb k n
next_is k n = split (eqb k n)
    (λ e. eq-eqb (suc k) (suc n) (ap suc (eqb-true k n e)) ∙ sym e)
    (λ e. ne_eqb (suc k) (suc n) (λ t. eqb-false k n e (omega arith)) ∙ sym e)

-- a sixth, with what the ramp adds to it
ramped_sixth : (first last : Bool) (s p x : ℤ) →
    a_sixth s +ℤ cond first (neg_ℤ (s -ℤ p)) (cond last (x -ℤ s) (pos 0))
    ≡ cond first (a_sixth s -ℤ (s -ℤ p)) (cond last (a_sixth s +ℤ (x -ℤ s)) (a_sixth s))
ramped_sixth true last s p x = refl
ramped_sixth false true s p x = refl
ramped_sixth false false s p x = +ℤ_idr (a_sixth s)

-- nothing is owed, so nothing is unavailable
engine_free : (A : ℤ) (n : ℕ) → min_ℤ (pos 0) (A -ℤ A -ℤ (pos 0 -ℤ in_full (pos n))) ≡ pos 0
engine_free = all1 _ (λ A n. simp zr (omega arith))

load_free : (a n : ℕ) → max_ℤ (pos 0) ((pos 0 -ℤ in_full (pos n)) -ℤ pos a) ≡ pos 0
load_free a n = simp zr (omega arith)

load_units : (s a n : ℤ) → units_per_kwh *ℤ (s -ℤ (a +ℤ n) -ℤ pos 0) ≡ units_per_kwh *ℤ s -ℤ (units_per_kwh *ℤ a +ℤ units_per_kwh *ℤ n)
load_units = all3 _ (λ s a n. simp zr (omega arith))

-- ---- deviations

module _ (w : ℕ → ℕ) (k : ℕ) where
  ramped_schedule : is_ramped (kind_in w) ≡ true → scheduled_in w k ≡ beep_schedule (this_hour w) (hour_before w) (next_hour w) (suc k)
  unfolding scheduled_in ramp_part beep_schedule
  ramped_schedule e =
      rw (e, next_is k 0, next_is k 5) (ramped_sixth (eqb k 0) (eqb k 5) (this_hour w) (hour_before w) (next_hour w))

  plain_schedule : is_ramped (kind_in w) ≡ false → scheduled_in w k ≡ a_sixth (this_hour w)
  unfolding scheduled_in ramp_part
  plain_schedule e = rw e (+ℤ_idr (a_sixth (this_hour w)))

  -- the words of an interval's figures
  at_8 : 7 + suc k ≡ 8 + k
  at_8 = omega arith

  at_14 : 13 + suc k ≡ 14 + k
  at_14 = omega arith

  at_20 : 19 + suc k ≡ 20 + k
  at_20 = omega arith

  renders_as : (K : Kind) → kind_in w ≡ K → deviation_as (interval_entry w k) K ≡ beep_dev_as w (suc k) K
  unfolding interval_entry actual_in generator_unavailable generator_deviation load_unavailable load_deviation import_deviation export_deviation
      beep_gen_dev beep_load_dev beep_profile_dev beep_imp_dev beep_exp_dev
  renders_as Generator e = rw (
    ramped_schedule (ap is_ramped e),
    e,
    at_8,
    at_14,
    at_20,
    engine_free (in_full (pos (w (8 + k)))) (w (20 + k)),
  ) (+ℤ_idr _)
  renders_as RealTimeLoad e = rw (ramped_schedule (ap is_ramped e), e, at_8, at_14, at_20, load_free (24 * w (8 + k)) (w (20 + k)))
      (load_units (beep_schedule (this_hour w) (hour_before w) (next_hour w) (suc k)) (in_full (pos (w (8 + k))) -ℤ in_full (signed (w (14 + k))))
      (in_full (pos (w (20 + k)))))
  renders_as ProfileLoad e = rw (plain_schedule (ap is_ramped e), e, at_14, at_20, load_free (4 * w 8) (w (20 + k)))
      (load_units (a_sixth (this_hour w)) (a_sixth (pos (w 8)) -ℤ in_full (signed (w (14 + k)))) (in_full (pos (w (20 + k)))))
  renders_as Import e = rw (plain_schedule (ap is_ramped e), e, at_14, at_20) refl
  renders_as Export e = rw (plain_schedule (ap is_ramped e), e, at_8, at_14)
      (export_units (a_sixth (this_hour w)) (in_full (pos (w (8 + k)))) (in_full (signed (w (14 + k)))))
  renders_as Unknown e = refl

  -- One fact for all six intervals: a record's deviation is the one of 000 for its kind.
  pub interval_renders : deviation (interval_entry w k) ≡ beep_dev_as w (suc k) (kind_in w)
  unfolding deviation interval_entry
  interval_renders = renders_as (kind_in w) refl

-- ---- nets and amounts

-- a record's part of the four sums of NetDev: it is in that of its own kind alone
entering_parts : (w : ℕ → ℕ) (b : ℕ) (K : Kind) (d : ℤ) (member zone : Bool) → kind_in w ≡ K → d ≡ beep_dev_as w b K →
    cond (is_generator K && member && zone) (beep_gen_dev w b) (pos 0) -ℤ cond (is_load K && member && zone) (beep_dev_as w b K) (pos 0)
    +ℤ cond (is_import K && member && zone) (beep_imp_dev w b) (pos 0) -ℤ cond (is_export K && member && zone) (beep_exp_dev w b) (pos 0)
    ≡ cond (member && zone) (entering_as K d) (pos 0)
entering_parts w b K d member false k e = simp and-false
entering_parts w b K d false true k e = simp and-false
entering_parts w b Generator d true true k e = rw e (simp +ℤ_idr)
entering_parts w b RealTimeLoad d true true k e = rw e (simp (+ℤ_idl, +ℤ_idr))
entering_parts w b ProfileLoad d true true k e = rw e (simp (+ℤ_idl, +ℤ_idr))
entering_parts w b Import d true true k e = rw e (simp (+ℤ_idl, +ℤ_idr))
entering_parts w b Export d true true k e = rw e (simp +ℤ_idl)
entering_parts w b Unknown d true true k e = refl

-- below zero, above it, and zero
price_renders : (inc dec net : ℤ) → cond (lt_z net (pos 0)) dec (cond (lt_z (pos 0) net) inc (pos 0)) ≡ BIP inc dec net
price_renders inc dec (pos zero) = refl
price_renders inc dec (pos (suc n)) = rw (le-ltb (suc n) 0 zero-le, lt-ltb 0 (suc n) (omega arith)) refl
price_renders inc dec (negsuc n) = refl

module _ (h : Hour) (m : ℕ) where
  net_renders : (z k : ℕ) → NetDev h m z (suc k) ≡ net_deviation h m z k
  unfolding NetDev beep_sum net_deviation entering interval_of interval_entry
  net_renders z k = simp (← total_add, ← total_neg)
      (total_ext _ _ h.count (λ i l. entering_parts (h.rec i) (suc k) (kind_in (h.rec i)) (deviation (interval_entry (h.rec i) k))
      (eqb (member_of h i) m) (eqb (zone_of h (area_of h i)) z) refl (interval_renders (h.rec i) k)))

  cost_renders : (z k : ℕ) → interval_cost h m z k ≡ DevC h m z (suc k)
  unfolding interval_cost interval_price incremental decremental DevC
  cost_renders z k = rw (net_renders z k, at_price 47 z k, at_price 53 z k)
      (ap (λ (p : ℤ). net_deviation h m z k *ℤ p) (price_renders _ _ (net_deviation h m z k)))
    where
      at_price : (n z k : ℕ) → n + 12 * z + suc k ≡ suc n + 12 * z + k
      at_price n z k = omega arith

  -- A member's unrounded sum is its charges by 000, DevC, over all zones and intervals.
  pub amount_renders : ten_minutes_amount h m ≡ all_dev_C h m
  unfolding ten_minutes_amount all_dev_C
  amount_renders = total_ext _ _ (zones h) (λ z l. total_ext _ _ 6 (λ k l. cost_renders z k))
