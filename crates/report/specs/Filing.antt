-- What the program write_hour prints of any bytes, in a slice with room for the longest; and of whole words alone.
use Rattle.std.specs.Prelude.{ℕ, ◌%◌, Bool, not, cond, ◌||◌, List, take, drop, ltb, eqb}
use Rattle.rules.specs.HourFile.{hourly}
use Rattle.rules.specs.HourWords.{hour_from, file_of}
use Rattle.rules.specs.Refusals.{verdict, list_rows}
use Rattle.rules.specs.Settling.{is_accepted}
use Rattle.rules.specs.Statement.{refused_line}
use Rattle.rules.specs.RawHour.{raw_written}
use Rattle.printing.specs.Shown.{Shown, shown}

abbrev pub filing : (s out : List ℕ) → Shown
filing s out = shown 13312 (raw_written s) out

-- no whole words, fewer than a head's 120, or more than a head's and 250 records'
unfoldable pub input_bad : ℕ → Bool
input_bad bytes = not (eqb (bytes % 4) 0) || ltb bytes 480 || ltb 12480 bytes

-- a list of words: the file of its head and records, or the line of the first of the writer's rows that they break
unfoldable pub words_written : List ℕ → List ℕ
words_written words = let v = verdict (list_rows (take 120 words) (drop 120 words)) in
    cond (is_accepted v) (file_of hourly (hour_from hourly (take 120 words) (drop 120 words))) (refused_line v)
