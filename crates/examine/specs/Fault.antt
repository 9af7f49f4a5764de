-- The rows of a kind of file that doesn't go by sums: those of form, and behind them row 14, which is the hour file's.
use Rattle.std.specs.Prelude.{ℕ, Bool, true, false, ◌&&◌, List, [], ◌++◌, Option}
use Rattle.whole.specs.Below.{first_below}
use Rattle.rules.specs.Record.{Hour}
use Rattle.rules.specs.HourFile.{hour_of}
use Rattle.rules.specs.Ranges.{Form}
use Rattle.rules.specs.Refusals.{Row, scheduled_above, form_rows, comparison_rows}

-- the rows behind row 5
abbrev pub comparison_by : Bool → Hour → List Row
comparison_by true h = comparison_rows h
comparison_by false h = []

-- the record that row 14 names: of a file without that row none
abbrev pub above_by : Bool → (kind scheduled maximum : ℕ) → Bool
above_by compares kind scheduled maximum = compares && scheduled_above kind scheduled maximum

abbrev pub above_in : Bool → Hour → Option ℕ
above_in compares h = first_below (λ i. above_by compares (h.rec i 0) (h.rec i 3) (h.rec i 8)) h.count

-- rows 1 to 5, and those behind them
unfoldable pub examine_rows : Form → Bool → List ℕ → List Row
examine_rows form compares s = form_rows form s ++ comparison_by compares (hour_of form.layout s)
