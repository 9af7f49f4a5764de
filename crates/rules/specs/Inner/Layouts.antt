-- What the block code asks of a layout, so that it serves every kind of file.
use Rattle.std.specs.Prelude.{◌*◌, ◌≤◌}
use Rattle.rules.specs.declared.Layout.{Layout}

-- the records that a block may hold fit into its body of 120 words
pub record FitsBody (l : Layout) : Type 0 where
  pub some_records : 1 ≤ l.records
  pub some_words : 1 ≤ l.words
  pub no_longer : l.words * l.records ≤ 120
