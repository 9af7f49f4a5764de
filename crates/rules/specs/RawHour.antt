-- What the program write_hour prints, byte for byte, of the bytes on standard input: a head and records as words. Document 02, A2.
use Rattle.std.specs.Prelude.{ℕ, ◌/◌, ◌%◌, not, cond, List, ◌∷◌, length, take, drop, eqb}
use Rattle.whole.specs.Below.{values_below}
use Rattle.rules.specs.HourFile.{hourly, word}
use Rattle.rules.specs.HourWords.{hour_from, file_of}
use Rattle.rules.specs.Refusals.{Row, row, verdict, place_zero_if, list_rows}
use Rattle.rules.specs.Settling.{is_accepted}
use Rattle.rules.specs.Statement.{refused_line}

module _ (s : List ℕ) where
  unfoldable pub raw_words : List ℕ
  raw_words = values_below (word s) (length s / 4)

  -- the first 120 words are the head, the others the records
  abbrev pub raw_head : List ℕ
  raw_head = take 120 raw_words

  abbrev pub raw_records : List ℕ
  raw_records = drop 120 raw_words

  -- 1 also where the bytes aren't whole words
  unfoldable pub raw_rows : List Row
  raw_rows = row 1 (place_zero_if (not (eqb (length s % 4) 0))) ∷ list_rows raw_head raw_records

  -- the file, or the refusal's line
  unfoldable pub raw_written : List ℕ
  raw_written = let v = verdict raw_rows in cond (is_accepted v) (file_of hourly (hour_from hourly raw_head raw_records)) (refused_line v)
