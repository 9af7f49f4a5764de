-- What the contracts of what programs print give, by what was handed in, the slice lent, the count answered and the slice afterwards: the bytes
-- put are the text, and what is read from them.
use Rattle.std.specs.Prelude.{◌≡◌, ◌↔◌, List, ℕ, ◌≤◌, ◌<◌, ℤ, pos, length, take, get_or, Option}
use Rattle.rules.specs.Record.{hour_number, members}
use Rattle.rules.specs.Charge.{charge}
use Rattle.rules.specs.Neutrality.{final}
use Rattle.rules.specs.HourFile.{hour_in}
use Rattle.rules.specs.Ranges.{ten_minutes_form}
use Rattle.rules.specs.Refusals.{Verdict, accepted, verdict, form_rows, hour_rows, Buffers}
use Rattle.rules.specs.TenMinutes.{ten_minutes_in, ten_minutes_charge}
use Rattle.rules.specs.Explanation.{Explanation, member_asked, hour_asked}
use Rattle.rules.specs.Promised.Lines.{line_at, SaysRefused}
use Rattle.rules.specs.Promised.Finals.{AreBytes, SameSheet, SaysCounts, Shows, ShowsOutcome}
use Rattle.rules.specs.Promised.TenMinutes.{ShowsCharges}
use Rattle.rules.specs.Promised.SixLines.{SaysHeads, answer_to}
use Rattle.theorems.specs.Demanded.{ExplainsOutcome}

-- ---- any of them

-- with room for the longest, the bytes put are this text, all of it and nothing else
abbrev pub IsPut : (most : ℕ) (text lent : List ℕ) (count : ℕ) (after : List ℕ) → Type 0
IsPut most text lent count after = most ≤ length lent → take count after ≡ text

-- a program that reads so many bytes at most prints what its whole input asks for
abbrev pub IsPutOfCut : (read most : ℕ) (text_of : List ℕ → List ℕ) (input handed lent : List ℕ) (count : ℕ) (after : List ℕ) → Type 0
IsPutOfCut read most text_of input handed lent count after = handed ≡ take read input → IsPut most (text_of input) lent count after

-- a refusal that was put, read, gives its number and place, and nothing else stands there
abbrev pub SaysRefusal : (most : ℕ) (input : List ℕ) → Verdict → (lent : List ℕ) (count : ℕ) (after : List ℕ) → Type 0
SaysRefusal most input v lent count after = most ≤ length lent → AreBytes input → (v ≡ accepted → ⊥) → SaysRefused (take count after) v

-- ---- the statement

-- of an accepted hour the statement that was put, read, gives each charge and each final (A1)
abbrev pub IsReadBack : (file lent : List ℕ) (count : ℕ) (after : List ℕ) → Type 0
IsReadBack file lent count after = 1095 ≤ length lent → verdict (hour_rows file) ≡ accepted →
    let h = hour_in file in Shows h (charge h) (final h) (take count after)

-- and its line 1 the hour number and the counts
abbrev pub CountsAreRead : (file lent : List ℕ) (count : ℕ) (after : List ℕ) → Type 0
CountsAreRead file lent count after = 1095 ≤ length lent → AreBytes file → verdict (hour_rows file) ≡ accepted →
    let h = hour_in file in SaysCounts (line_at (take count after) 0) (hour_number h) (members h) h.count

-- two statements that are the same say the same of both files (A1)
abbrev pub Tells : (file sheet other otherSheet : List ℕ) → Type 0
Tells file sheet other otherSheet = AreBytes file → AreBytes other → sheet ≡ otherSheet → SameSheet file other

-- settled into buffers that hold this afterwards, then printed from the same file: the columns, read, give what settling wrote (A1)
abbrev pub ShowsSettled : (file : List ℕ) (after : Buffers) (handed lent sheet : List ℕ) → Type 0
ShowsSettled file after handed lent sheet = handed ≡ file → 1095 ≤ length lent → ShowsOutcome (hour_in file) after sheet

-- ---- the statement of a ten-minute file

-- of an accepted file the statement that was put, read, gives each charge (A7)
abbrev pub ChargesAreReadBack : (file lent : List ℕ) (count : ℕ) (after : List ℕ) → Type 0
ChargesAreReadBack file lent count after = 614 ≤ length lent → verdict (form_rows ten_minutes_form file) ≡ accepted →
    let h = ten_minutes_in file in ShowsCharges h (ten_minutes_charge h) (take count after)

-- and its line 1 the hour number and the counts
abbrev pub TenMinutesCountsAreRead : (file lent : List ℕ) (count : ℕ) (after : List ℕ) → Type 0
TenMinutesCountsAreRead file lent count after = 614 ≤ length lent → AreBytes file → verdict (form_rows ten_minutes_form file) ≡ accepted →
    let h = ten_minutes_in file in SaysCounts (line_at (take count after) 0) (hour_number h) (members h) h.count

-- settled into charges that hold this afterwards, then printed from the same file: the columns, read, give what settling wrote (A7)
abbrev pub ShowsSettledCharges : (file : List ℕ) (charges : List ℤ) (handed lent sheet : List ℕ) → Type 0
ShowsSettledCharges file charges handed lent sheet = handed ≡ file → 614 ≤ length lent →
    ShowsCharges (ten_minutes_in file) (λ m. get_or charges m (pos 0)) sheet

-- ---- the explanation

-- of an explanation that was put: read, it says exactly what is answered to the input (A5)
abbrev pub SaysAnswer : (input lent : List ℕ) (count : ℕ) (after : List ℕ) → Type 0
SaysAnswer input lent count after = 165 ≤ length lent → (heads : List ℤ) (decided : Option ℕ) →
    SaysHeads (take count after) heads decided ↔ (answer_to input ≡ record { verdict = accepted; heads = heads; decided = decided })

-- two explanations that are the same answer the same to both inputs (A5)
abbrev pub TellsAnswer : (input text other otherText : List ℕ) → Type 0
TellsAnswer input text other otherText = AreBytes input → AreBytes other → text ≡ otherText → answer_to input ≡ answer_to other

-- settled into buffers that hold this afterwards, then printed from an input that asks for this file: what is read from the text adds up to the
-- line of the member asked for, and decided on its charge (A5)
abbrev pub SaysOutcome : (file : List ℕ) (after : Buffers) (input lent text : List ℕ) → Type 0
SaysOutcome file after input lent text = 4 ≤ length input → hour_asked input ≡ file → 165 ≤ length lent →
    let h = hour_in file in member_asked input < members h →
    (heads : List ℤ) (decided : Option ℕ) → SaysHeads text heads decided → ExplainsOutcome h after (member_asked input) heads decided

-- explained, then printed from an input that asks for this file and member: the text says these heads and the head that decided (A5)
abbrev pub SaysExplained : (file : List ℕ) (member : ℕ) → Explanation → (input lent text : List ℕ) → Type 0
SaysExplained file member e input lent text = 4 ≤ length input → hour_asked input ≡ file → member_asked input ≡ member → 165 ≤ length lent →
    e.verdict ≡ accepted → SaysHeads text e.heads e.decided
