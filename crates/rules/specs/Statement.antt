-- The printed statement, byte for byte, of the bytes on standard input. Document 01, "The printed statement";
-- the second column: document 02, A1; of a ten-minute file: A7.
use Rattle.std.specs.Prelude.{ℕ, zero, suc, ◌/◌, ◌%◌, cond, List, [], ◌∷◌, ◌++◌, ℤ, replicate}
use Rattle.rules.specs.Record.{Hour, hour_number, members}
use Rattle.rules.specs.Charge.{charge}
use Rattle.rules.specs.Neutrality.{final}
use Rattle.rules.specs.Text.{bytes, digit_byte, decimal}
use Rattle.rules.specs.HourFile.{hour_in}
use Rattle.rules.specs.Refusals.{Verdict, verdict, form_rows, hour_rows}
use Rattle.rules.specs.Ranges.{ten_minutes_form}
use Rattle.rules.specs.Settling.{is_accepted, write}
use Rattle.rules.specs.TenMinutes.{ten_minutes_in, ten_minutes_charge}

-- line 1: hour, its number, members, their count, records, their count
unfoldable pub first_line : (hour memberCount record_count : ℕ) → List ℕ
first_line hour memberCount record_count =
    bytes "hour " ++ decimal hour ++ bytes " members " ++ decimal memberCount ++ bytes " records " ++ decimal record_count ++ bytes "\n"

-- an amount in 14 columns
unfoldable pub column : ℤ → List ℕ
column cents = (write (replicate 14 32) cents).field

-- a member's number in two digits, a blank, the charge in 14 columns, a blank, the final amount in 14 columns
unfoldable pub member_line : (member : ℕ) (charge final : ℤ) → List ℕ
member_line m charge final =
    digit_byte (m / 10) ∷ digit_byte (m % 10) ∷ bytes " " ++ column charge ++ bytes " " ++ column final ++ bytes "\n"

-- a line a member in order: those of the first members
unfoldable pub member_lines : (line : ℕ → List ℕ) → ℕ → List ℕ
member_lines line zero = []
member_lines line (suc m) = member_lines line m ++ line m

-- of an hour that is accepted: line 1, then a line a member
unfoldable pub sheet_of : Hour → (line : ℕ → List ℕ) → List ℕ
sheet_of h line = first_line (hour_number h) (members h) h.count ++ member_lines line (members h)

abbrev pub accepted_lines : Hour → List ℕ
accepted_lines h = sheet_of h (λ m. member_line m (charge h m) (final h m))

-- a refusal prints only this: refused, number, at, place
unfoldable pub refused_line : Verdict → List ℕ
refused_line v = bytes "refused " ++ decimal v.number ++ bytes " at " ++ decimal v.place ++ bytes "\n"

unfoldable pub statement : List ℕ → List ℕ
statement s = let v = verdict (hour_rows s) in cond (is_accepted v) (accepted_lines (hour_in s)) (refused_line v)

-- ---- of a ten-minute file: the same with the charge alone, since it has no finals

unfoldable pub charge_line : (member : ℕ) (charge : ℤ) → List ℕ
charge_line m charge = digit_byte (m / 10) ∷ digit_byte (m % 10) ∷ bytes " " ++ column charge ++ bytes "\n"

abbrev pub charged_lines : Hour → List ℕ
charged_lines h = sheet_of h (λ m. charge_line m (ten_minutes_charge h m))

-- rows 1 to 5: the program has no buffer of a caller
unfoldable pub ten_minutes_statement : List ℕ → List ℕ
ten_minutes_statement s = let v = verdict (form_rows ten_minutes_form s) in cond (is_accepted v) (charged_lines (ten_minutes_in s)) (refused_line v)
