-- The hour that a head and records say, and what row 1 leaves of them.
use Rattle.std.specs.Prelude.{◌≡◌, ℕ, ◌*◌, ◌≤◌, List, ◌++◌, length}
use Rattle.rules.specs.Record.{Hour}
use Rattle.rules.specs.HourFile.{hourly}
use Rattle.rules.specs.HourWords.{hour_from}
use Rattle.rules.specs.Ranges.{hourly_form}
use Rattle.rules.specs.Refusals.{Row, word_rows, comparison_rows}

-- the hour that the lists say
abbrev pub hour_of_lists : (head records : List ℕ) → Hour
hour_of_lists head records = hour_from hourly head records

-- what the reader searches of it: rows 4, 5 and 14
abbrev pub search_rows : (head records : List ℕ) → List Row
search_rows head records = let h = hour_of_lists head records in word_rows hourly_form h ++ comparison_rows h

-- so many words to a head, and at most 250 whole records
pub record ListsWhole (head records : List ℕ) : Type 0 where
  pub head_whole : length head ≡ 120
  pub records_whole : length records ≡ 12 * (hour_of_lists head records).count
  pub few_records : (hour_of_lists head records).count ≤ 250
