-- An hour as its file says it, and a record's numbers under document 01's letters.
-- Document 01: "The hour file" (the tables of words), "The sums" (the letters); document 02, A3 (an import's A).
use Rattle.std.specs.Prelude.{ℕ, ◌+◌, ◌*◌, Bool, cond, ◌||◌, [], ◌∷◌, ℤ, pos, ◌-ℤ◌, get_or, ltb, eqb}
use Rattle.rules.specs.declared.Kind.{Kind}
use Rattle.rules.specs.declared.Kind.TheVariants.{Generator, RealTimeLoad, ProfileLoad, Import, Export, Unknown}

-- word w of the head, the number of records, word w of record i; places as in the tables of "The hour file"
pub record Hour : Type 0 where
  pub head : ℕ → ℕ
  pub count : ℕ
  pub rec : ℕ → ℕ → ℕ

-- "in two's complement": a word of 32 bits as a signed number
unfoldable pub signed : ℕ → ℤ
signed w = cond (ltb w 0x8000_0000) (pos w) (pos w -ℤ pos 0x1_0000_0000)

-- ---- the first body: "First body" of "The hour file"

module _ (h : Hour) where
  abbrev pub hour_number : ℕ
  hour_number = h.head 8

  abbrev pub members : ℕ
  members = h.head 9

  abbrev pub zones : ℕ
  zones = h.head 10

  abbrev pub areas : ℕ
  areas = h.head 11

  -- words 12 to 15, in cents per MWh ("Units and ranges")
  unfoldable pub zone_price : ℕ → ℤ
  zone_price z = signed (h.head (12 + z))

  -- words 16 to 47, four an area: zone, tie in, tie out, zero
  unfoldable pub zone_of : ℕ → ℕ
  zone_of a = h.head (16 + 4 * a)

  unfoldable pub tie_in : ℕ → ℤ
  tie_in a = pos (h.head (17 + 4 * a))

  unfoldable pub tie_out : ℕ → ℤ
  tie_out a = pos (h.head (18 + 4 * a))

  -- the zone price of an area
  unfoldable pub price : ℕ → ℤ
  price a = zone_price (zone_of a)

-- ---- records: "Record words" and "Kinds" of "The hour file"

-- word 0: the five kinds, by their numbers
abbrev pub kind_number : Kind → ℕ
kind_number Generator = 1
kind_number RealTimeLoad = 2
kind_number ProfileLoad = 3
kind_number Import = 4
kind_number Export = 5
kind_number Unknown = 0

unfoldable pub kind_of : ℕ → Kind
kind_of k = get_or (Unknown ∷ Generator ∷ RealTimeLoad ∷ ProfileLoad ∷ Import ∷ Export ∷ []) k Unknown

abbrev pub is_generator : Kind → Bool
is_generator k = eqb (kind_number k) 1

-- metered in real time
abbrev pub is_real_time : Kind → Bool
is_real_time k = eqb (kind_number k) 2

abbrev pub is_profile : Kind → Bool
is_profile k = eqb (kind_number k) 3

abbrev pub is_import : Kind → Bool
is_import k = eqb (kind_number k) 4

abbrev pub is_export : Kind → Bool
is_export k = eqb (kind_number k) 5

-- both kinds of load
abbrev pub is_load : Kind → Bool
is_load k = is_real_time k || is_profile k

-- "The sums": S scheduled, A actual, J adjustment, N ancillary, O obligation, M maximum, F and H the scheduled and the hour-ahead
-- multiplier
pub record Entry : Type 0 where
  pub kind : Kind
  pub S : ℤ
  pub A : ℤ
  pub J : ℤ
  pub N : ℤ
  pub O : ℤ
  pub M : ℤ
  pub F : ℤ
  pub H : ℤ

-- A: what was metered; document 02, A3: an import's is S, to which 000, D 3.19, deems it equal
unfoldable pub actual : Kind → (scheduled metered : ℕ) → ℕ
actual kind scheduled metered = cond (is_import kind) scheduled metered

-- twelve words as an entry: words 3 to 10 under their letters
unfoldable pub entry : (ℕ → ℕ) → Entry
entry w = record {
  kind = kind_of (w 0);
  S = pos (w 3);
  A = pos (actual (kind_of (w 0)) (w 3) (w 4));
  J = signed (w 5);
  N = pos (w 6);
  O = pos (w 7);
  M = pos (w 8);
  F = pos (w 9);
  H = pos (w 10);
}

module _ (h : Hour) (i : ℕ) where
  unfoldable pub member_of : ℕ
  member_of = h.rec i 1

  unfoldable pub area_of : ℕ
  area_of = h.rec i 2

  unfoldable pub entry_of : Entry
  entry_of = entry (h.rec i)
