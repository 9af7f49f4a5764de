-- What printing the statement of a ten-minute file answers and leaves in the caller's slice, and what its steps ask.
use Rattle.std.specs.Prelude.{ℕ, ◌≤◌, ◌<◌, ◌≡◌, List, ℤ, pos, length, get_or}
use Rattle.rules.specs.Record.{members}
use Rattle.rules.specs.TenMinutes.{ten_minutes_in, ten_minutes_charge}
use Rattle.rules.specs.Statement.{member_lines, charge_line, ten_minutes_statement}
use Rattle.rules.specs.Inner.Kept.{TenMinutesFileKept}
use Rattle.printing.specs.Shown.{Shown, shown}

-- the statement of any byte string as a ten-minute file, in a slice with room for the longest
abbrev pub ten_minutes_stated : (s out : List ℕ) → Shown
ten_minutes_stated s out = shown 614 (ten_minutes_statement s) out

-- a line for each of the first members, with these charges
abbrev pub charge_lines_of : (charges : List ℤ) → ℕ → List ℕ
charge_lines_of charges = member_lines (λ m. charge_line m (get_or charges m (pos 0)))

-- the file keeps its ranges, and its charges stand in the first places
pub record ChargesPrintable (s : List ℕ) (charges : List ℤ) : Type 0 where
  pub kept : TenMinutesFileKept s
  pub room : members (ten_minutes_in s) ≤ length charges
  pub charges_are : (m : ℕ) → m < members (ten_minutes_in s) → get_or charges m (pos 0) ≡ ten_minutes_charge (ten_minutes_in s) m
