-- What the contracts of settling, writing, explaining and ten-minute settling give: the customer's demands, stated of what was handed in, what was answered and
-- what was left in the buffers.
use Rattle.std.specs.Prelude.{◌≡◌, ◌↔◌, List, ◌++◌, ℕ, ◌≤◌, ◌<◌, ℤ, pos, length, drop, get_or, Option, None}
use Rattle.rules.specs.declared.Line.{Line}
use Rattle.rules.specs.Record.{Hour, members}
use Rattle.rules.specs.HourFile.{hourly, hour_in}
use Rattle.rules.specs.HourWords.{hour_from, head_words, record_words}
use Rattle.rules.specs.Refusals.{Verdict, accepted, refused_at, verdict, Buffers, bad_lists}
use Rattle.rules.specs.Refusals.{block_rows, form_rows, file_rows, hour_rows, settle_rows, explain_rows, list_form_rows, write_hour_rows}
use Rattle.rules.specs.Settling.{settle, no_figures, empty_line, HourWritten}
use Rattle.rules.specs.Explanation.{Explanation, no_heads}
use Rattle.rules.specs.TenMinutes.{TenMinutesSettlement, ten_minutes_in, ten_minutes_rows}
use Rattle.rules.specs.Promised.Demands.{Accepts, ByFormula, FairOutcome}
use Rattle.rules.specs.Promised.Finals.{NeutralOutcome, HeldToDemand, AreBytes}
use Rattle.rules.specs.Promised.Writing.{length_for, file_in}
use Rattle.rules.specs.Promised.Imports.{FirstMetered}
use Rattle.rules.specs.Promised.Engines.{HeldToMaximum}
use Rattle.rules.specs.Promised.Deciding.{Explains}
use Rattle.rules.specs.Promised.TenMinutes.{ChargedByInterval}
use Rattle.rules.specs.Ranges.{hourly_form}

-- the three demands of a settling and what document 02 asks of its finals (A1), of imports (A3) and of schedules (A6), by its file, its
-- buffers before, the verdict told, the UFE figures answered and its buffers afterwards
pub record KeepsDemands (file : List ℕ) (before : Buffers) (told : Verdict) (ufes : List ℤ) (after : Buffers) : Type 0 where
  -- 1: the first broken row of the table answers, and a refusal changes nothing
  pub by_the_table : told ≡ verdict (settle_rows file before)
  pub unchanged : (told ≡ accepted → ⊥) → (after ≡ before) × (ufes ≡ no_figures)
  -- 2 and 3
  pub by_formula : told ≡ accepted → ByFormula (hour_in file) before ufes after
  pub fair : told ≡ accepted → FairOutcome (hour_in file) ufes after
  -- A1
  pub neutral : told ≡ accepted → NeutralOutcome (hour_in file) before after
  -- 12 exactly where nobody demands anything and the charges don't add up to 0
  pub held_to_demand : HeldToDemand file told
  -- A3: an import that says what was metered, where no row before 5 and no record before it is broken
  pub metered_import : (i : ℕ) → verdict (block_rows hourly file) ≡ accepted → FirstMetered (hour_in file) i → told ≡ refused_at 5 i
  -- A6: 14 exactly where rows 1 to 5 are passed and a generator is scheduled above its maximum, at the first; accepted, none is
  pub held_to_maximum : HeldToMaximum (form_rows hourly_form file) (hour_in file) told

-- of a settling that makes its lines itself: with those that it made
abbrev pub KeepsDemandsUnlined : (file : List ℕ) (before : Buffers) → Verdict → (ufes : List ℤ) (with_lines : List Line → Buffers) → Type 0
KeepsDemandsUnlined file before told ufes with_lines = (lines : List Line) × KeepsDemands file before told ufes (with_lines lines)

-- what document 02 asks of the writer (A2), of imports (A3) and of schedules (A6), by its head, records and buffer before, and by what was
-- answered and left
pub record KeepsWriting (head records before : List ℕ) (w : HourWritten) : Type 0 where
  -- the first broken row of the table answers, and a refusal changes nothing
  pub by_the_table : w.verdict ≡ verdict (write_hour_rows head records (length before))
  pub unchanged : (w.verdict ≡ accepted → ⊥) → (w.length ≡ 0) × (w.file ≡ before)
  -- what was written passes rows 1 to 5 and 14 and is read back as the same hour
  pub read_back : w.verdict ≡ accepted →
      (verdict (file_rows (file_in w)) ≡ accepted) × (hour_in (file_in w) ≡ hour_from hourly head records)
  -- the length told is as long as the records ask for, and that of what was written
  pub length_told : w.verdict ≡ accepted → (w.length ≡ length_for records) × (length (file_in w) ≡ w.length)
  pub past_file : w.verdict ≡ accepted → (drop w.length w.file ≡ drop w.length before) × (length w.file ≡ length before)
  -- the head and records of a file that passes rows 1 to 5 and 14 give its bytes again, whatever the buffer held
  pub same_bytes : (s : List ℕ) → AreBytes s → verdict (file_rows s) ≡ accepted → head ≡ head_words s → records ≡ record_words hourly s →
      length s ≤ length before → w ≡ record { verdict = accepted; length = length s; file = s ++ drop (length s) before }
  -- A3, as of a settling
  pub metered_import : (i : ℕ) → bad_lists head records ≡ None →
      FirstMetered (hour_from hourly head records) i → w.verdict ≡ refused_at 5 i
  -- A6, as of a settling, behind rows 1, 4 and 5
  pub held_to_maximum : HeldToMaximum (list_form_rows head records) (hour_from hourly head records) w.verdict

-- settled into buffers that hold this afterwards, then explained to a member of the hour (A5): the heads add up to the member's line, and the
-- head named decided on its charge
abbrev pub ExplainsOutcome : Hour → (after : Buffers) (member : ℕ) (heads : List ℤ) (decided : Option ℕ) → Type 0
ExplainsOutcome h after m heads decided =
    Explains h m (get_or after.lines m empty_line).amount (get_or after.charges m (pos 0)) heads decided

-- what document 02 asks of an explanation (A5) and of schedules (A6), by its file and member number, and by what was answered
pub record KeepsExplaining (file : List ℕ) (member : ℕ) (e : Explanation) : Type 0 where
  -- the first broken row of the table answers, and a refusal says nothing
  pub by_the_table : e.verdict ≡ verdict (explain_rows file member)
  pub nothing_said : (e.verdict ≡ accepted → ⊥) → (e.heads ≡ no_heads) × (e.decided ≡ None)
  -- to each member of an hour that settling accepts, by the line and the charge that settling writes
  pub explained : (b : Buffers) → Accepts file b → member < members (hour_in file) → (e.verdict ≡ accepted)
      × ExplainsOutcome (hour_in file) (settle file b).buffers member e.heads e.decided
  -- and to nobody else: 13 exactly where every row of the hour is passed and the member's number isn't below the member count
  pub no_member : (e.verdict ≡ refused_at 13 0) ↔ ((verdict (hour_rows file) ≡ accepted) × (members (hour_in file) ≤ member))
  pub refused_alike : (verdict (hour_rows file) ≡ accepted → ⊥) → e.verdict ≡ verdict (hour_rows file)
  -- A1 and A6, as of a settling
  pub held_to_demand : HeldToDemand file e.verdict
  pub held_to_maximum : HeldToMaximum (form_rows hourly_form file) (hour_in file) e.verdict

-- settled into buffers that hold this afterwards, then explained from the same file
abbrev pub ExplainsSettled : (file : List ℕ) (after : Buffers) (handed : List ℕ) (member : ℕ) (heads : List ℤ) (decided : Option ℕ) → Type 0
ExplainsSettled file after handed member heads decided =
    handed ≡ file → let h = hour_in file in member < members h → ExplainsOutcome h after member heads decided

-- what document 02 asks of ten-minute settlement (A7), by its file and its charges before, and by what was answered and left
pub record KeepsTenMinutes (file : List ℕ) (before : List ℤ) (r : TenMinutesSettlement) : Type 0 where
  -- the first broken row of the table answers, and a refusal changes nothing
  pub by_the_table : r.verdict ≡ verdict (ten_minutes_rows file before)
  pub unchanged : (r.verdict ≡ accepted → ⊥) → r.charges ≡ before
  -- each member's charge is that of 000, D 2.1.1, rounded once, and nothing is written past the members
  pub charged : r.verdict ≡ accepted → ChargedByInterval (ten_minutes_in file) before r.charges
