-- What is asked of ten-minute settlement, as statements about the definitions: refusals, charges by 000, D 2.1.1, half a cent, one fact for
-- all six intervals, ramp parts that cancel, and a sheet that tells the charges. Document 02, A7.
use Rattle.std.specs.Prelude.{ℕ, suc, ◌+◌, ◌≤◌, ◌<◌, ◌≡◌, true, List, [], ℤ, pos, nat_abs, ◌+ℤ◌, ◌-ℤ◌, ◌*ℤ◌, length, take, drop, get_or, Some}
use Rattle.whole.specs.Below.{total_below}
use Rattle.rules.specs.Record.{Hour, hour_number, members}
use Rattle.rules.specs.Deviation.{deviation}
use Rattle.rules.specs.Charge.{records_of}
use Rattle.rules.specs.Ranges.{ten_minutes_form}
use Rattle.rules.specs.Refusals.{accepted, verdict, form_rows}
use Rattle.rules.specs.TenMinutes.{is_ramped, kind_in, this_hour, hour_before, next_hour, in_full, ramp_part, scheduled_in, interval_entry}
use Rattle.rules.specs.Settling.{read}
use Rattle.rules.specs.TenMinutes.{ten_minutes_amount, ten_minutes_charge, ten_minutes_in, ten_minutes_rows, settle_ten_minutes}
use Rattle.rules.specs.Statement.{ten_minutes_statement}
use Rattle.rules.specs.Promised.Intervals.{beep_dev_as, all_dev_C}
use Rattle.rules.specs.Promised.Rounding.{Nearest}
use Rattle.rules.specs.Promised.Lines.{lines_of, line_at, natural_in, SaysRefused}
use Rattle.rules.specs.Promised.Demands.{ByTheTable}
use Rattle.rules.specs.Promised.Finals.{member_line_at, charge_column, SaysCounts, AreBytes}

abbrev pub AcceptsTenMinutes : List ℕ → List ℤ → Type 0
AcceptsTenMinutes s charges = (settle_ten_minutes s charges).verdict ≡ accepted

-- what an accepted settling of this hour leaves in the buffer, place by place
pub record ChargedByInterval (h : Hour) (before after : List ℤ) : Type 0 where
  -- the nearest cent to the sum of 000, rounded once: 240,000,000 of these parts are a cent; `Rounding` says that no other charge is
  pub charge_is : (m : ℕ) → m < members h → Nearest 240000000 (all_dev_C h m) (get_or after m (pos 0))
  -- so at most half a cent from the member's unrounded sum
  pub half_cent : (m : ℕ) → m < members h → nat_abs (get_or after m (pos 0) *ℤ pos 240000000 -ℤ all_dev_C h m) ≤ 120000000
  -- a member without records pays nothing
  pub no_records : (m : ℕ) → m < members h → records_of h m ≡ 0 → get_or after m (pos 0) ≡ pos 0
  pub past_charges : drop (members h) after ≡ drop (members h) before
  pub same_length : length after ≡ length before

-- ---- ramp parts: a record's words in consecutive hours, whatever files and places they stand in; `words t` are those of hour t

module _ (words : ℕ → ℕ → ℕ) where
  -- hours 0 to n, whose neighbouring schedules agree
  pub record Consecutive (n : ℕ) : Type 0 where
    pub ramped : (t : ℕ) → t ≤ n → is_ramped (kind_in (words t)) ≡ true
    pub next_agrees : (t : ℕ) → t < n → next_hour (words t) ≡ this_hour (words (suc t))
    pub before_agrees : (t : ℕ) → t < n → hour_before (words (suc t)) ≡ this_hour (words t)

  -- a figure of an interval, added up over all intervals of so many hours
  unfoldable pub over_all : ((w : ℕ → ℕ) (k : ℕ) → ℤ) → (hours : ℕ) → ℤ
  over_all figure hours = total_below (λ t. total_below (figure (words t)) 6) hours

  -- the two ends: what the next schedule of the last hour has more than its own, less what the first hour's own has more than the one before
  unfoldable pub two_ends : (n : ℕ) → ℤ
  two_ends n = (next_hour (words n) -ℤ this_hour (words n)) -ℤ (this_hour (words 0) -ℤ hour_before (words 0))

pub record TenMinutes : Type 0 where
  -- refused exactly when the table says, and nothing changed
  pub by_the_table : (s : List ℕ) (c : List ℤ) → ByTheTable (ten_minutes_rows s c) (settle_ten_minutes s c).verdict
  pub changes_nothing : (s : List ℕ) (c : List ℤ) → (AcceptsTenMinutes s c → ⊥) → (settle_ten_minutes s c).charges ≡ c
  pub settled : (s : List ℕ) (c : List ℤ) → AcceptsTenMinutes s c → ChargedByInterval (ten_minutes_in s) c (settle_ten_minutes s c).charges
  -- an unrounded sum fits 64 bits, of every file that passes rows 1 to 5
  pub amounts_fit : (s : List ℕ) → verdict (form_rows ten_minutes_form s) ≡ accepted → (m : ℕ) →
      nat_abs (ten_minutes_amount (ten_minutes_in s) m) ≤ 3686400000000000000
  -- one fact for all six intervals: a record's deviation by document 01 is that of 000 for its kind
  pub every_interval_lem : (w : ℕ → ℕ) (k : ℕ) → deviation (interval_entry w k) ≡ beep_dev_as w (suc k) (kind_in w)
  -- the ramp parts cancel except at the two ends, so that all intervals together have what the hours were scheduled for, and the ends
  pub ramps_cancel : (words : ℕ → ℕ → ℕ) (n : ℕ) → Consecutive words n → over_all words ramp_part (suc n) ≡ two_ends words n
  pub nothing_lost : (words : ℕ → ℕ → ℕ) (n : ℕ) → Consecutive words n →
      over_all words scheduled_in (suc n) ≡ in_full (total_below (λ t. this_hour (words t)) (suc n)) +ℤ two_ends words n

-- ---- the sheet tells the charges

-- a sheet that shows these charges: read, the column of each member's line gives them
pub record ShowsCharges (h : Hour) (chargeAt : ℕ → ℤ) (sheet : List ℕ) : Type 0 where
  -- line 1 and a line a member, each with its line feed, and nothing after the last
  pub line_count : length (lines_of sheet) ≡ members h + 2
  pub nothing_else : line_at sheet (suc (members h)) ≡ []
  -- two digits, a blank, 14 columns
  pub in_columns : (m : ℕ) → m < members h → let line = member_line_at m sheet in (length line ≡ 17) × (get_or line 2 0 ≡ 32)
  pub member_shown : (m : ℕ) → m < members h → natural_in (take 2 (member_line_at m sheet)) ≡ Some m
  pub charge_shown : (m : ℕ) → m < members h → read (charge_column m sheet) ≡ record { verdict = accepted; amount = chargeAt m }

pub record TenMinutesSheet : Type 0 where
  -- line 1 says the hour and its counts, or the refusal stands alone
  pub counts_read : (s : List ℕ) → AreBytes s → verdict (form_rows ten_minutes_form s) ≡ accepted → let h = ten_minutes_in s in
      SaysCounts (line_at (ten_minutes_statement s) 0) (hour_number h) (members h) h.count
  pub refused_read : (s : List ℕ) → AreBytes s → (verdict (form_rows ten_minutes_form s) ≡ accepted → ⊥) →
      SaysRefused (ten_minutes_statement s) (verdict (form_rows ten_minutes_form s))
  -- read, each column gives the member's charge
  pub read_back : (s : List ℕ) → verdict (form_rows ten_minutes_form s) ≡ accepted → let h = ten_minutes_in s in
      ShowsCharges h (ten_minutes_charge h) (ten_minutes_statement s)
  -- it is what settling writes, into any buffer in which it accepts the hour
  pub as_settled : (s : List ℕ) (c : List ℤ) → AcceptsTenMinutes s c →
      ShowsCharges (ten_minutes_in s) (λ m. get_or (settle_ten_minutes s c).charges m (pos 0)) (ten_minutes_statement s)
