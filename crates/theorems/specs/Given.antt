-- What the contracts of the amount writer and reader, of the block reader and of the examiner give: by what was handed in, what was
-- answered and what was left in a buffer.
use Rattle.std.specs.Prelude.{◌≡◌, List, ℕ, ℤ, length, take, drop, Result, Ok}
use Rattle.rules.specs.declared.Refusal.{Refusal}
use Rattle.rules.specs.HourFile.{hourly, body}
use Rattle.rules.specs.Settling.{write, read}
use Rattle.rules.specs.Inner.Kept.{FileKept}

-- ---- amounts as text

-- a field into which an amount was written, handed to the reader: it is accepted, as that amount
abbrev pub IsReadAs : (amount : ℤ) (written field : List ℕ) → Result ℤ Refusal → Type 0
IsReadAs amount written field reading = field ≡ written → reading ≡ Ok amount

-- an amount that was read from a field, handed to the writer with a field of the same width: it is accepted, and the same bytes
abbrev pub IsWrittenAs : (amount : ℤ) (bytes : List ℕ) (handed : ℤ) (lent : List ℕ) → Result (Unit {0}) Refusal → (after : List ℕ) → Type 0
IsWrittenAs amount bytes handed lent answer after =
    handed ≡ amount → length lent ≡ length bytes → (answer ≡ Ok tt) × (after ≡ bytes)

-- for C: the answer as its number and place
abbrev pub IsWritten : (field : List ℕ) (amount : ℤ) (number place : ℕ) (after : List ℕ) → Type 0
IsWritten field amount number place after = record { verdict = record { number = number; place = place }; field = after } ≡ write field amount

abbrev pub IsRead : (field : List ℕ) (number place : ℕ) (amount : ℤ) → Type 0
IsRead field number place amount = record { verdict = record { number = number; place = place }; amount = amount } ≡ read field

-- ---- the file

-- for C: the bytes at the place that is handed out are the body
abbrev pub IsBody : (file : List ℕ) (position start size : ℕ) → Type 0
IsBody file position start size = take size (drop start file) ≡ body hourly file position

-- every number of an accepted file is within its bounds
abbrev pub IsKept : (file : List ℕ) → Result (Unit {0}) Refusal → Type 0
IsKept file answer = answer ≡ Ok tt → FileKept file
