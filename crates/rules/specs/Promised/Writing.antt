-- What is asked of the writer of hour files, as statements about the definitions: what it writes is read back as the same hour, and an
-- accepted file's own head and records give its bytes again. Document 02, A2.
use Rattle.std.specs.Prelude.{ℕ, ◌+◌, ◌*◌, ◌/◌, ◌<◌, ◌≤◌, ◌≡◌, List, ◌++◌, length, take, drop, get_or}
use Rattle.rules.specs.HourFile.{hourly, hour_in}
use Rattle.rules.specs.HourWords.{hour_from, head_words, record_words}
use Rattle.rules.specs.Refusals.{accepted, verdict, file_rows, write_hour_rows}
use Rattle.rules.specs.Settling.{HourWritten, write_hour}
use Rattle.rules.specs.RawHour.{raw_rows, raw_written}
use Rattle.rules.specs.Promised.Lines.{SaysRefused}
use Rattle.rules.specs.Promised.Demands.{ByTheTable}
use Rattle.rules.specs.Promised.Finals.{AreBytes}

-- words of 32 bits
abbrev pub AreWords : List ℕ → Type 0
AreWords l = (i : ℕ) → get_or l i 0 < 0x1_0000_0000

-- in bytes: the first block, and one for every ten records of twelve words and for those left over
abbrev pub length_for : (records : List ℕ) → ℕ
length_for records = 512 * (1 + (length records / 12 + 9) / 10)

-- what was written: the buffer's first bytes
abbrev pub file_in : HourWritten → List ℕ
file_in w = take w.length w.file

pub record Writing : Type 0 where
  -- refused exactly when the writer's rows say, with their number and place
  pub by_the_table : (head records file : List ℕ) →
      ByTheTable (write_hour_rows head records (length file)) (write_hour head records file).verdict
  -- and then nothing is written
  pub changes_nothing : (head records file : List ℕ) → ((write_hour head records file).verdict ≡ accepted → ⊥) →
      ((write_hour head records file).length ≡ 0) × ((write_hour head records file).file ≡ file)
  -- what is written passes rows 1 to 5 and 14 and is read back as the same hour
  pub read_back : (head records file : List ℕ) → AreWords head → AreWords records → let w = write_hour head records file in
      w.verdict ≡ accepted → (verdict (file_rows (file_in w)) ≡ accepted) × (hour_in (file_in w) ≡ hour_from hourly head records)
  -- the length told is as long as the records ask for, and that of what was written
  pub length_told : (head records file : List ℕ) → let w = write_hour head records file in
      w.verdict ≡ accepted → (w.length ≡ length_for records) × (length (file_in w) ≡ w.length)
  -- what stands past it is as it was, and so is the buffer's length
  pub past_file : (head records file : List ℕ) → let w = write_hour head records file in
      w.verdict ≡ accepted → (drop w.length w.file ≡ drop w.length file) × (length w.file ≡ length file)
  -- the head and records of a file that passes rows 1 to 5 and 14, written into a buffer of any content, give the same bytes
  pub same_bytes : (s file : List ℕ) → AreBytes s → verdict (file_rows s) ≡ accepted → length s ≤ length file →
      write_hour (head_words s) (record_words hourly s) file
      ≡ record { verdict = accepted; length = length s; file = s ++ drop (length s) file }

-- of the program that writes: what it prints of a refused input says the number and the place
abbrev pub RefusalPrinted : Type 0
RefusalPrinted = (s : List ℕ) → (verdict (raw_rows s) ≡ accepted → ⊥) → SaysRefused (raw_written s) (verdict (raw_rows s))
