-- What a file that passes rows 1 to 5 keeps, as the bounds that the sums need. Document 01, "Units and ranges".
use Rattle.std.specs.Prelude.{ℕ, ◌+◌, ◌≤◌, ◌<◌, ◌≡◌, true, false, ◌||◌, List, pos}
use Rattle.whole.specs.Signed.{Under, Upto}
use Rattle.rules.specs.Record.{Hour, Entry, members, zones, areas, zone_price, zone_of, tie_in, tie_out, member_of, area_of, entry_of, signed}
use Rattle.rules.specs.Record.{is_generator, is_import}
use Rattle.rules.specs.Ufe.{demand}
use Rattle.rules.specs.HourFile.{hourly, ten_minutes, length_bad, hour_in}
use Rattle.rules.specs.TenMinutes.{interval_of, incremental, decremental, ten_minutes_in}

-- whatever the kind, no number is above the most that any kind allows
pub record EntryKept (r : Entry) : Type 0 where
  pub S_in : Upto r.S 100000
  pub A_in : Upto r.A 100000
  pub J_in : Under r.J 100000
  pub N_in : Upto r.N 100000
  pub O_in : Upto r.O 100000
  pub M_in : Upto r.M 100000
  pub F_in : Upto r.F 20000
  pub H_in : Upto r.H 20000

pub record RecordKept (h : Hour) (i : ℕ) : Type 0 where
  pub kind_least : 1 ≤ h.rec i 0
  pub kind_most : h.rec i 0 ≤ 5
  pub member_there : member_of h i < members h
  pub area_there : area_of h i < areas h
  pub demand_most : demand h i ≤ 100000
  pub entry_kept : EntryKept (entry_of h i)
  -- a multiplier in use is never zero
  pub multipliers_least : (is_generator (entry_of h i).kind || is_import (entry_of h i).kind) ≡ true → (1 ≤ h.rec i 9) × (1 ≤ h.rec i 10)

pub record AreaKept (h : Hour) (a : ℕ) : Type 0 where
  pub zone_there : zone_of h a < zones h
  pub tie_in_lem : Upto (tie_in h a) 10000000
  pub tie_out_lem : Upto (tie_out h a) 10000000

pub record HourKept (h : Hour) : Type 0 where
  pub members_least : 1 ≤ members h
  pub members_most : members h ≤ 32
  pub zones_least : 1 ≤ zones h
  pub zones_most : zones h ≤ 4
  pub areas_least : 1 ≤ areas h
  pub areas_most : areas h ≤ 8
  pub count_most : h.count ≤ 250
  pub price_in : (z : ℕ) → z < zones h → Under (zone_price h z) 1000000
  pub area_kept : (a : ℕ) → a < areas h → AreaKept h a
  pub record_kept : (i : ℕ) → i < h.count → RecordKept h i

pub record FileKept (s : List ℕ) : Type 0 where
  pub length_good : length_bad hourly s ≡ false
  pub hour_kept : HourKept (hour_in s)

-- an entry in whose numbers every step of the formulas fits: an hour's entries are such, and those of an interval, which are 24 times as
-- large
pub record EntryRoom (r : Entry) : Type 0 where
  pub S_in : Upto r.S 2400000
  pub A_in : Upto r.A 2400000
  pub J_in : Under r.J 2400000
  pub N_in : Upto r.N 2400000
  pub O_in : Upto r.O 2400000
  pub M_in : Upto r.M 2400000
  pub F_in : Upto r.F 20000
  pub H_in : Upto r.H 20000

-- ---- a ten-minute file: document 02, A7. Its entries are in 24ths

-- a record's words: whatever the kind, no number is above the most that any kind allows
pub record IntervalWords (v : ℕ → ℕ) : Type 0 where
  pub this_most : v 3 ≤ 100000
  pub before_most : v 4 ≤ 100000
  pub next_most : v 5 ≤ 100000
  pub F_most : v 6 ≤ 20000
  pub H_most : v 7 ≤ 20000
  pub actuals_most : (k : ℕ) → k < 6 → v (8 + k) ≤ 100000
  pub adjustments_in : (k : ℕ) → k < 6 → Under (signed (v (14 + k))) 100000
  pub ancillary_most : (k : ℕ) → k < 6 → v (20 + k) ≤ 100000

pub record IntervalKept (r : Entry) : Type 0 where
  pub S_in : Upto r.S 400000
  pub A_in : Upto r.A 2400000
  pub J_in : Under r.J 2400000
  pub N_in : Upto r.N 2400000
  pub none_owed : r.O ≡ pos 0
  pub maximum_is : r.M ≡ r.A
  pub F_in : Upto r.F 20000
  pub H_in : Upto r.H 20000

pub record TenMinutesRecordKept (h : Hour) (i : ℕ) : Type 0 where
  pub kind_least : 1 ≤ h.rec i 0
  pub kind_most : h.rec i 0 ≤ 5
  pub member_there : member_of h i < members h
  pub area_there : area_of h i < areas h
  pub words_kept : IntervalWords (h.rec i)
  pub interval_kept : (k : ℕ) → k < 6 → IntervalKept (interval_of h i k)

pub record TenMinutesKept (h : Hour) : Type 0 where
  pub members_least : 1 ≤ members h
  pub members_most : members h ≤ 32
  pub zones_least : 1 ≤ zones h
  pub zones_most : zones h ≤ 4
  pub areas_least : 1 ≤ areas h
  pub areas_most : areas h ≤ 8
  pub count_most : h.count ≤ 64
  pub incremental_in : (z k : ℕ) → z < zones h → k < 6 → Under (incremental h z k) 100000
  pub decremental_in : (z k : ℕ) → z < zones h → k < 6 → Under (decremental h z k) 100000
  pub zone_there : (a : ℕ) → a < areas h → zone_of h a < zones h
  pub record_kept : (i : ℕ) → i < h.count → TenMinutesRecordKept h i

pub record TenMinutesFileKept (s : List ℕ) : Type 0 where
  pub length_good : length_bad ten_minutes s ≡ false
  pub hour_kept : TenMinutesKept (ten_minutes_in s)
