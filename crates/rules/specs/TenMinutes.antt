-- Ten-minute settlement: each interval of a record as an entry of document 01, a member's net deviation in a zone and interval, its price,
-- and the charge. Document 02, A7, which takes the intervals from 000, D 2.1.1.
-- Units are a 24th of document 01's, intervals count from 0, and an hour's six are 0 to 5.
use Rattle.std.specs.Prelude.{ℕ, ◌+◌, ◌*◌, Bool, cond, ◌&&◌, ◌||◌, List, [], ◌∷◌, ◌++◌, ℤ, pos, neg_ℤ, ◌+ℤ◌, ◌-ℤ◌, ◌*ℤ◌, length, ltb, eqb}
use Rattle.std.specs.Int.Signed.{lt_z}
use Rattle.whole.specs.Below.{total_below, replacing_first}
use Rattle.rules.specs.declared.Kind.{Kind}
use Rattle.rules.specs.Record.{Hour, Entry, members, zones, zone_of, member_of, area_of, signed, kind_of, is_generator, is_real_time}
use Rattle.rules.specs.Record.{is_profile, is_import}
use Rattle.rules.specs.Charge.{entering, grains_per_cent, cents_of}
use Rattle.rules.specs.HourFile.{ten_minutes, hour_of}
use Rattle.rules.specs.Ranges.{ten_minutes_form}
use Rattle.rules.specs.Refusals.{Row, row, Verdict, verdict, place_zero_if, form_rows}
use Rattle.rules.specs.Settling.{is_accepted}

-- ---- an interval of a record

-- the hour's energy divided by six, and an interval's own energy, both in 24ths
abbrev pub a_sixth : ℤ → ℤ
a_sixth z = pos 4 *ℤ z

abbrev pub in_full : ℤ → ℤ
in_full z = pos 24 *ℤ z

-- "generators and real-time loads"
abbrev pub is_ramped : Kind → Bool
is_ramped kind = is_generator kind || is_real_time kind

module _ (w : ℕ → ℕ) where
  abbrev pub kind_in : Kind
  kind_in = kind_of (w 0)

  -- words 3 to 5: the schedules of this hour, the one before and the next
  abbrev pub this_hour : ℤ
  this_hour = pos (w 3)

  abbrev pub hour_before : ℤ
  hour_before = pos (w 4)

  abbrev pub next_hour : ℤ
  next_hour = pos (w 5)

  -- what an interval has beside its sixth: the first "minus (this hour minus the one before)/24", the last "plus (the next minus this)/24"
  unfoldable pub ramp_part : (k : ℕ) → ℤ
  ramp_part k = cond (is_ramped kind_in)
      (cond (eqb k 0) (neg_ℤ (this_hour -ℤ hour_before)) (cond (eqb k 5) (next_hour -ℤ this_hour) (pos 0)))
      (pos 0)

  unfoldable pub scheduled_in : (k : ℕ) → ℤ
  scheduled_in k = a_sixth this_hour +ℤ ramp_part k

  -- "Profile loads divide the hourly reading in word 8 by six"; "an import's actual is a sixth of its schedule"
  unfoldable pub actual_in : (k : ℕ) → ℤ
  actual_in k = cond (is_import kind_in) (a_sixth this_hour) (cond (is_profile kind_in) (a_sixth (pos (w 8))) (in_full (pos (w (8 + k)))))

  -- thirty words as the entry of interval k. "Unavailable energy left out": nothing is owed, and the maximum is what was metered
  unfoldable pub interval_entry : (k : ℕ) → Entry
  interval_entry k = record {
    kind = kind_in;
    S = scheduled_in k;
    A = actual_in k;
    J = in_full (signed (w (14 + k)));
    N = in_full (pos (w (20 + k)));
    O = pos 0;
    M = actual_in k;
    F = pos (w 6);
    H = pos (w 7);
  }

module _ (h : Hour) where
  unfoldable pub interval_of : (i k : ℕ) → Entry
  interval_of i k = interval_entry (h.rec i) k

  -- ---- prices: words 48 to 95, twelve a zone

  unfoldable pub incremental : (z k : ℕ) → ℤ
  incremental z k = signed (h.head (48 + 12 * z + k))

  unfoldable pub decremental : (z k : ℕ) → ℤ
  decremental z k = signed (h.head (54 + 12 * z + k))

  -- "the decremental price if below zero, the incremental if above; zero costs nothing"
  unfoldable pub interval_price : (z k : ℕ) (net : ℤ) → ℤ
  interval_price z k net = cond (lt_z net (pos 0)) (decremental z k) (cond (lt_z (pos 0) net) (incremental z k) (pos 0))

  -- ---- a member's charge

  -- "A member's net deviation in a zone and interval": generators minus loads plus imports minus exports, over the zone's areas
  unfoldable pub net_deviation : (m z k : ℕ) → ℤ
  net_deviation m z k =
      total_below (λ i. cond (eqb (member_of h i) m && eqb (zone_of h (area_of h i)) z) (entering (interval_of i k)) (pos 0)) h.count

  -- what it costs, in 24ths of a grain
  unfoldable pub interval_cost : (m z k : ℕ) → ℤ
  interval_cost m z k = net_deviation m z k *ℤ interval_price z k (net_deviation m z k)

  -- a member's unrounded sum, "over all zones and intervals"
  unfoldable pub ten_minutes_amount : (m : ℕ) → ℤ
  ten_minutes_amount m = total_below (λ z. total_below (interval_cost m z) 6) (zones h)

  -- "rounded once"
  unfoldable pub ten_minutes_charge : (m : ℕ) → ℤ
  ten_minutes_charge m = cents_of (24 * grains_per_cent) (ten_minutes_amount m)

-- ---- settling

-- the hour that a ten-minute file holds
abbrev pub ten_minutes_in : List ℕ → Hour
ten_minutes_in s = hour_of ten_minutes s

-- "1 to 5 with this layout and these ranges, then 11 for the charges"
unfoldable pub ten_minutes_rows : (file : List ℕ) (charges : List ℤ) → List Row
ten_minutes_rows s charges = form_rows ten_minutes_form s ++ row 11 (place_zero_if (ltb (length charges) (members (ten_minutes_in s)))) ∷ []

pub record TenMinutesSettlement : Type 0 where
  pub verdict : Verdict
  pub charges : List ℤ

-- one charge a member, and the places past those unchanged; a refusal changes none
unfoldable pub settle_ten_minutes : (file : List ℕ) (charges : List ℤ) → TenMinutesSettlement
settle_ten_minutes s charges = let v = verdict (ten_minutes_rows s charges) in let h = ten_minutes_in s in
    record { verdict = v; charges = cond (is_accepted v) (replacing_first (ten_minutes_charge h) (members h) charges) charges }
