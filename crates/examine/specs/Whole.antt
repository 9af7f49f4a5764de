-- What rows 1 and 3 leave of a file: a length that is good, and no more records than its blocks can hold.
use Rattle.std.specs.Prelude.{◌≡◌, false, List, ℕ, ◌-◌, ◌*◌, ◌≤◌}
use Rattle.rules.specs.declared.Layout.{Layout}
use Rattle.rules.specs.HourFile.{length_bad, blocks, record_count}

pub record BlocksWhole (l : Layout) (s : List ℕ) : Type 0 where
  pub length_good : length_bad l s ≡ false
  pub few_records : record_count l s ≤ l.records * (blocks s - 1)
