-- The table of refusals: what breaks each row and at which place, and the rows in their order.
-- Document 01, "Refusal numbers and their order"; row 12 is document 02, A1, the rows of the writer are A2, row 13 is A5, row 14 is A6.
use Rattle.std.specs.Prelude.{ℕ, ◌/◌, ◌%◌, Bool, true, false, not, cond, ◌&&◌, ◌||◌, List, [], ◌∷◌, ◌++◌, ℤ, nat_abs, length, ltb, leb, eqb, Option, None, Some, Result, Ok, Err}
use Rattle.rules.specs.Text.{bind}
use Rattle.whole.specs.Below.{first_below}
use Rattle.rules.specs.declared.Line.{Line}
use Rattle.rules.specs.declared.Refusal.{Refusal}
use Rattle.rules.specs.declared.Refusal.TheVariants.{BadLength, BadSum, BadBlock, BadHead, BadRecord, BadArea, BadAmount}
use Rattle.rules.specs.declared.Refusal.TheVariants.{OutOfRange, TooNarrow, NotAnAmount, TooShort, NoDemand, NoMember, AboveMaximum}
use Rattle.rules.specs.Record.{Hour, members, zones, areas, kind_of, is_generator}
use Rattle.rules.specs.Ufe.{ufe, area_demand}
use Rattle.rules.specs.Charge.{amount}
use Rattle.rules.specs.Neutrality.{neutrality, hour_demand}
use Rattle.rules.specs.Text.{amount_text, amount_in}
use Rattle.rules.specs.declared.Layout.{Layout}
use Rattle.rules.specs.HourFile.{hourly, length_bad, blocks, block_word, block_sum, hour_of, hour_in}
use Rattle.rules.specs.HourWords.{hour_from, file_length}
use Rattle.rules.specs.Ranges.{first_broken, block_rule, Form, hourly_form}

-- ---- number and place

pub record Verdict : Type 0 where
  pub number : ℕ
  pub place : ℕ

-- an accepted call has number 0 and place 0
abbrev pub accepted : Verdict
accepted = record { number = 0; place = 0 }

abbrev pub refused_at : ℕ → ℕ → Verdict
refused_at n p = record { number = n; place = p }

-- the document's number and place of each refusal
abbrev pub refusal_verdict : Refusal → Verdict
refusal_verdict BadLength = refused_at 1 0
refusal_verdict (BadSum b) = refused_at 2 b
refusal_verdict (BadBlock b) = refused_at 3 b
refusal_verdict (BadHead w) = refused_at 4 w
refusal_verdict (BadRecord i) = refused_at 5 i
refusal_verdict (BadArea a) = refused_at 6 a
refusal_verdict (BadAmount m) = refused_at 7 m
refusal_verdict OutOfRange = refused_at 8 0
refusal_verdict TooNarrow = refused_at 9 0
refusal_verdict NotAnAmount = refused_at 10 0
refusal_verdict TooShort = refused_at 11 0
refusal_verdict NoDemand = refused_at 12 0
refusal_verdict NoMember = refused_at 13 0
refusal_verdict (AboveMaximum i) = refused_at 14 i

-- of what an entry point answers, whatever it answers when it accepts
abbrev pub verdict_of : {T : Type 0} → Result T Refusal → Verdict
verdict_of (Ok value) = accepted
verdict_of (Err refusal) = refusal_verdict refusal

abbrev pub number_of : {T : Type 0} → Result T Refusal → ℕ
number_of r = (verdict_of r).number

abbrev pub place_of : {T : Type 0} → Result T Refusal → ℕ
place_of r = (verdict_of r).place

-- ---- a row: its number, and the place at which it is broken, if it is

pub data Row : Type 0 where
  row : ℕ → Option ℕ → Row

-- the first broken row answers
unfoldable pub verdict : List Row → Verdict
verdict [] = accepted
verdict (row number (Some place) ∷ rows) = refused_at number place
verdict (row number None ∷ rows) = verdict rows

-- place 0, for a row that has no other
abbrev pub place_zero_if : Bool → Option ℕ
place_zero_if b = cond b (Some 0) None

abbrev pub nothing_read : Option ℤ → Option ℕ
nothing_read None = Some 0
nothing_read (Some z) = None

abbrev pub is_broken : Option ℕ → Bool
is_broken None = false
is_broken (Some w) = true

-- ---- the caller's five buffers, which row 11 measures

pub record Buffers : Type 0 where
  pub charges : List ℤ
  pub finals : List ℤ
  pub shares : List ℤ
  pub deviations : List ℤ
  pub lines : List Line

-- ---- what breaks each row

-- 1: length 0, not a multiple of 512, or over the most blocks
unfoldable pub bad_length : Layout → List ℕ → Option ℕ
bad_length l s = place_zero_if (length_bad l s)

-- 2: a block's sum isn't zero; the first such block
unfoldable pub bad_sum : List ℕ → Option ℕ
bad_sum s = first_below (λ b. not (eqb (block_sum s b) 0)) (blocks s)

-- 3: words 0 to 6 of a block, or the zeros past its records, break the layout; the first such block
unfoldable pub bad_block : Layout → List ℕ → Option ℕ
bad_block l s = first_below (λ b. is_broken (first_broken (block_rule l (blocks s) (block_word s b 2) b) (block_word s b) 128)) (blocks s)

module _ (f : Form) (h : Hour) where
  -- 4: the first body breaks layout or range; the first such word
  unfoldable pub bad_head : Option ℕ
  bad_head = first_broken (f.head_rule (zones h) (areas h)) h.head 128

  -- the first word of a record that breaks kind, number, range or zero
  unfoldable pub bad_word : ℕ → Option ℕ
  bad_word i = first_broken (f.record_rule (members h) (areas h) (h.rec i 0)) (h.rec i) f.layout.words

  -- 5: the first record that has one
  unfoldable pub bad_record : Option ℕ
  bad_record = first_below (λ i. is_broken (bad_word i)) h.count

  -- where the search stops: in the first such record, at the first such word
  unfoldable pub first_fault : Option (ℕ × ℕ)
  first_fault = bind bad_record (λ i. bind (bad_word i) (λ w. Some (i, w)))

-- of one record by its words 0, 3 and 8: a generator's scheduled energy is above its maximum; equal is allowed
unfoldable pub scheduled_above : (kind scheduled maximum : ℕ) → Bool
scheduled_above kind scheduled maximum = is_generator (kind_of kind) && ltb maximum scheduled

abbrev pub most_grains : ℕ
most_grains = 4000000000000000000

module _ (h : Hour) where
  abbrev pub over_scheduled : ℕ → Bool
  over_scheduled i = scheduled_above (h.rec i 0) (h.rec i 3) (h.rec i 8)

  -- 14: the first record that is a generator, scheduled above its maximum
  unfoldable pub above_maximum : Option ℕ
  above_maximum = first_below over_scheduled h.count

  -- 6: T is 0 and U isn't; the first such area
  unfoldable pub bad_area : Option ℕ
  bad_area = first_below (λ a. eqb (area_demand h a) 0 && not (eqb (nat_abs (ufe h a)) 0)) (areas h)

  -- 7: a member's exact amount is over 4×10^18 grains in size; the first such member
  unfoldable pub bad_amount : Option ℕ
  bad_amount = first_below (λ m. ltb most_grains (nat_abs (amount h m))) (members h)

  -- 12: no demand in the hour and N isn't zero
  unfoldable pub no_demand : Option ℕ
  no_demand = place_zero_if (eqb (hour_demand h) 0 && not (eqb (nat_abs (neutrality h)) 0))

  -- 13: the member's number isn't below the member count
  unfoldable pub no_member : (member : ℕ) → Option ℕ
  no_member m = place_zero_if (leb (members h) m)

  -- 11: charges, finals or lines shorter than the members, or shares or deviations shorter than the records
  unfoldable pub too_short : Buffers → Option ℕ
  too_short b = place_zero_if (
      ltb (length b.charges) (members h) || ltb (length b.finals) (members h) || ltb (length b.lines) (members h)
      || ltb (length b.shares) h.count || ltb (length b.deviations) h.count)

  -- 11, of the writer: the buffer is shorter than the file to be
  unfoldable pub no_room : (room : ℕ) → Option ℕ
  no_room room = place_zero_if (ltb room (file_length hourly h))

-- 1, of the writer: a head of another length, a list that isn't whole records, or over 250 records
unfoldable pub bad_lists : (head records : List ℕ) → Option ℕ
bad_lists head records = place_zero_if (
    not (eqb (length head) 120) || not (eqb (length records % hourly.words) 0) || ltb 250 (length records / hourly.words))

-- 8: amount to write out of range
unfoldable pub out_of_range : ℤ → Option ℕ
out_of_range z = place_zero_if (ltb 999999999999 (nat_abs z))

-- 9: field shorter than the text
unfoldable pub too_narrow : ℕ → ℤ → Option ℕ
too_narrow width z = place_zero_if (ltb width (length (amount_text z)))

-- 10: not an amount text, so that nothing was read
unfoldable pub not_an_amount : List ℕ → Option ℕ
not_an_amount field = nothing_read (amount_in field)

-- ---- THE TABLE: its rows in the order in which they are checked, each with its own test, in groups

-- 1 to 3: the blocks of a file
unfoldable pub block_rows : Layout → List ℕ → List Row
block_rows l s =
    row 1 (bad_length l s)
    ∷ row 2 (bad_sum s)
    ∷ row 3 (bad_block l s)
    ∷ []

-- 4 and 5: the words of an hour, each by its own rule
unfoldable pub word_rows : Form → Hour → List Row
word_rows f h =
    row 4 (bad_head f h)
    ∷ row 5 (bad_record f h)
    ∷ []

-- 14: its records beyond the rules of their words; this group and the next are hourly settlement's
unfoldable pub comparison_rows : Hour → List Row
comparison_rows h =
    row 14 (above_maximum h)
    ∷ []

-- 6, 7 and 12: its sums
unfoldable pub sum_rows : Hour → List Row
sum_rows h =
    row 6 (bad_area h)
    ∷ row 7 (bad_amount h)
    ∷ row 12 (no_demand h)
    ∷ []

-- ---- which of them each call checks

-- 1 to 5: layout and ranges of any kind of file
unfoldable pub form_rows : Form → List ℕ → List Row
form_rows f s = block_rows f.layout s ++ word_rows f (hour_of f.layout s)

-- then 14: what an hourly file by itself can break
unfoldable pub file_rows : List ℕ → List Row
file_rows s = form_rows hourly_form s ++ comparison_rows (hour_in s)

-- then 6, 7 and 12: the statement checks these, over the whole file each
unfoldable pub hour_rows : List ℕ → List Row
hour_rows s = file_rows s ++ sum_rows (hour_in s)

-- settling checks 11 last, by the lengths of the caller's buffers
unfoldable pub settle_rows : List ℕ → Buffers → List Row
settle_rows s b = hour_rows s ++ row 11 (too_short (hour_in s) b) ∷ []

-- an explanation has no buffers of a caller, and 13 last
unfoldable pub explain_rows : List ℕ → (member : ℕ) → List Row
explain_rows s m = hour_rows s ++ row 13 (no_member (hour_in s) m) ∷ []

-- the writer of hour files checks 1, of its lists, then 4 and 5 as the reader
unfoldable pub list_form_rows : (head records : List ℕ) → List Row
list_form_rows head records = row 1 (bad_lists head records) ∷ word_rows hourly_form (hour_from hourly head records)

-- then 14 as the reader: the program that writes has no buffer of a caller
unfoldable pub list_rows : (head records : List ℕ) → List Row
list_rows head records = list_form_rows head records ++ comparison_rows (hour_from hourly head records)

-- and 11 last, by the length of the buffer
unfoldable pub write_hour_rows : (head records : List ℕ) (room : ℕ) → List Row
write_hour_rows head records room = list_rows head records ++ row 11 (no_room (hour_from hourly head records) room) ∷ []

-- writing an amount checks 8, then 9
unfoldable pub write_amount_rows : ℕ → ℤ → List Row
write_amount_rows width z =
    row 8 (out_of_range z)
    ∷ row 9 (too_narrow width z)
    ∷ []

-- reading checks 10
unfoldable pub read_amount_rows : List ℕ → List Row
read_amount_rows field = row 10 (not_an_amount field) ∷ []
