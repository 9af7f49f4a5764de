-- A member's nets as they are added up: four zones of six intervals.
use Rattle.std.specs.Prelude.{ℕ, ◌<◌, ◌≡◌, cond, ◌&&◌, List, [], ℤ, pos, ◌*ℤ◌, eqb, length, slice_index_or}
use Rattle.whole.specs.Below.{total_below}
use Rattle.whole.specs.Signed.{Under}
use Rattle.rules.specs.Record.{Hour, member_of, area_of, zone_of}
use Rattle.rules.specs.Charge.{entering}
use Rattle.rules.specs.TenMinutes.{interval_of, interval_price}

-- what record i adds to member m's net in a zone and interval
abbrev pub adds : (h : Hour) (m z k i : ℕ) → ℤ
adds h m z k i = cond (eqb (member_of h i) m && eqb (zone_of h (area_of h i)) z) (entering (interval_of h i k)) (pos 0)

-- a zone's nets, and one of them
abbrev pub zone_in : (nets : List (List ℤ)) (z : ℕ) → List ℤ
zone_in nets z = slice_index_or nets z []

abbrev pub net_in : (nets : List (List ℤ)) (z k : ℕ) → ℤ
net_in nets z k = slice_index_or (zone_in nets z) k (pos 0)

-- the first n records are added up
pub record NetsAfter (h : Hour) (m n : ℕ) (nets : List (List ℤ)) : Type 0 where
  pub zones : length nets ≡ 4
  pub intervals : (z : ℕ) → z < 4 → length (zone_in nets z) ≡ 6
  pub net_is : (z k : ℕ) → z < 4 → k < 6 → net_in nets z k ≡ total_below (adds h m z k) n

-- all records of one member are added up
pub record NetsOfOne (h : Hour) (room : List (List ℤ)) : Type 0 where
  pub member : ℕ
  pub nets : NetsAfter h member h.count room

-- the same of one zone
pub record NetsInZone (h : Hour) (z : ℕ) (zone : List ℤ) : Type 0 where
  pub member : ℕ
  pub net_is : (k : ℕ) → k < 6 → slice_index_or zone k (pos 0) ≡ total_below (adds h member z k) h.count

-- what a zone's net in an interval costs
abbrev pub cost_in : (h : Hour) (z : ℕ) (zone : List ℤ) (k : ℕ) → ℤ
cost_in h z zone k = slice_index_or zone k (pos 0) *ℤ interval_price h z k (slice_index_or zone k (pos 0))

-- a record more can be added to each of a zone's nets
pub record Spare (zone : List ℤ) : Type 0 where
  pub intervals : length zone ≡ 6
  pub small : (k : ℕ) → k < 6 → Under (slice_index_or zone k (pos 0)) 6144000000000
