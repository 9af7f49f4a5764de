-- The formulas of 000, D 2.1.1, read a second time: in its own letters, with its BEEP Intervals b from 1 to 6 and its own sums by Scheduling
-- Coordinator j and Zone x. Ten-minute charges are said to be these, so that a slip in one reading breaks a proof.
-- What document 02, A7, leaves out is left out here: unavailable energy, supplemental energy, UFE. Where 000 and 003 write an import
-- otherwise, 003 decides (document 01, "What the first release covers").
-- All energies are in 24ths; a GMM is given in ten-thousandths, so that an energy times a GMM, and any other energy times 10,000, are units.
use Rattle.std.specs.Prelude.{ℕ, zero, suc, ◌+◌, ◌*◌, Bool, cond, ◌&&◌, ℤ, pos, negsuc, ◌+ℤ◌, ◌-ℤ◌, ◌*ℤ◌, eqb}
use Rattle.whole.specs.Below.{total_below}
use Rattle.rules.specs.declared.Kind.{Kind}
use Rattle.rules.specs.declared.Kind.TheVariants.{Generator, RealTimeLoad, ProfileLoad, Import, Export, Unknown}
use Rattle.rules.specs.Record.{Hour, zones, zone_of, member_of, area_of, signed, kind_of, is_generator, is_load, is_import, is_export}
use Rattle.rules.specs.Promised.Tariff.{in_units}

-- an energy, its sixth and its 24th
abbrev pub whole : ℤ → ℤ
whole energy = pos 24 *ℤ energy

abbrev pub sixth : ℤ → ℤ
sixth energy = pos 4 *ℤ energy

abbrev pub twenty_fourth : ℤ → ℤ
twenty_fourth energy = energy

-- Gs,b and Ls,b: of the schedules of this hour, the one before and the next
unfoldable pub beep_schedule : (s s-1 s+1 : ℤ) (b : ℕ) → ℤ
beep_schedule s s-1 s+1 b =
    cond (eqb b 1) (sixth s -ℤ twenty_fourth (s -ℤ s-1))
    (cond (eqb b 6) (sixth s +ℤ twenty_fourth (s+1 -ℤ s)) (sixth s))

-- ---- deviations of a record with these words in BEEP Interval b

module _ (w : ℕ → ℕ) (b : ℕ) where
  -- the words of an interval's figures, six each from 8, 14 and 20
  abbrev pub metered : ℤ
  metered = whole (pos (w (7 + b)))

  abbrev pub adj : ℤ
  adj = whole (signed (w (13 + b)))

  abbrev pub ancillary : ℤ
  ancillary = whole (pos (w (19 + b)))

  unfoldable pub beep_gen_dev : ℤ
  beep_gen_dev = let Gsb = beep_schedule (pos (w 3)) (pos (w 4)) (pos (w 5)) b in let GMMf = pos (w 6) in let GMMa = pos (w 7) in
      Gsb *ℤ GMMf -ℤ ((metered -ℤ adj) *ℤ GMMa -ℤ in_units ancillary)

  -- of a Participating Load, metered in the interval
  unfoldable pub beep_load_dev : ℤ
  beep_load_dev = let Lsb = beep_schedule (pos (w 3)) (pos (w 4)) (pos (w 5)) b in
      in_units Lsb -ℤ (in_units (metered -ℤ adj) +ℤ in_units ancillary)

  -- of another, with Lat its hourly metered quantity
  unfoldable pub beep_profile_dev : ℤ
  beep_profile_dev = let Lsb = sixth (pos (w 3)) in let Lat = pos (w 8) in let La = sixth Lat in
      in_units Lsb -ℤ (in_units (La -ℤ adj) +ℤ in_units ancillary)

  -- the actual import is deemed to be the scheduled
  unfoldable pub beep_imp_dev : ℤ
  beep_imp_dev = let Isb = sixth (pos (w 3)) in let GMMf = pos (w 6) in let Ia = Isb in let GMMah = pos (w 7) in
      Isb *ℤ GMMf -ℤ (Ia -ℤ adj) *ℤ GMMah +ℤ in_units ancillary

  unfoldable pub beep_exp_dev : ℤ
  beep_exp_dev = let Esb = sixth (pos (w 3)) in let Ea = metered in
      in_units Esb -ℤ in_units Ea -ℤ in_units adj

  abbrev pub beep_dev_as : Kind → ℤ
  beep_dev_as Generator = beep_gen_dev
  beep_dev_as RealTimeLoad = beep_load_dev
  beep_dev_as ProfileLoad = beep_profile_dev
  beep_dev_as Import = beep_imp_dev
  beep_dev_as Export = beep_exp_dev
  beep_dev_as Unknown = pos 0

  -- LoadDev of either kind of Load
  abbrev pub beep_any_load_dev : ℤ
  beep_any_load_dev = beep_dev_as (kind_of (w 0))

-- ---- the charge on Scheduling Coordinator j for Zone x in BEEP Interval b

module _ (h : Hour) (j x b : ℕ) where
  -- the sum of a figure over the coordinator's records of some kinds in the zone
  unfoldable pub beep_sum : (Kind → Bool) → ((w : ℕ → ℕ) (b : ℕ) → ℤ) → ℤ
  beep_sum kinds figure = total_below (λ i.
      cond (kinds (kind_of (h.rec i 0)) && eqb (member_of h i) j && eqb (zone_of h (area_of h i)) x) (figure (h.rec i) b) (pos 0)) h.count

  unfoldable pub NetDev : ℤ
  NetDev = beep_sum is_generator beep_gen_dev -ℤ beep_sum is_load beep_any_load_dev +ℤ beep_sum is_import beep_imp_dev -ℤ beep_sum is_export beep_exp_dev

-- the price: for decremental Energy if NetDev < 0, for incremental Energy if NetDev > 0
abbrev pub BIP : (inc dec net : ℤ) → ℤ
BIP inc dec (pos zero) = pos 0
BIP inc dec (pos (suc n)) = inc
BIP inc dec (negsuc n) = dec

module _ (h : Hour) (j : ℕ) where
  -- a zone has twelve words from 48 on: incremental prices of BEEP Intervals 1 to 6, then decremental
  unfoldable pub DevC : (x b : ℕ) → ℤ
  DevC x b = let inc = signed (h.head (47 + 12 * x + b)) in let dec = signed (h.head (53 + 12 * x + b)) in
      NetDev h j x b *ℤ BIP inc dec (NetDev h j x b)

  -- over all zones and intervals
  unfoldable pub all_dev_C : ℤ
  all_dev_C = total_below (λ x. total_below (λ k. DevC x (suc k)) 6) (zones h)
