-- A record's part of a file: so many words of its block's body, behind the first block. Document 01, "The hour file".
use Rattle.std.specs.Prelude.{◌≡◌, ℕ, ◌+◌, ◌*◌, ◌/◌, ◌%◌, ◌<◌, false, List, take, drop}
use Rattle.rules.specs.declared.Layout.{Layout}
use Rattle.rules.specs.HourFile.{length_bad, blocks, body}

module _ (l : Layout) (s : List ℕ) (i : ℕ) where
  abbrev pub record_part : List ℕ
  record_part =
      take (4 * l.words)
      (drop (4 * l.words * (i % l.records)) (body l s (1 + i / l.records)))

  -- the file has a block for the record
  pub record RecordThere : Type 0 where
    pub length_good : length_bad l s ≡ false
    pub block_there : 1 + i / l.records < blocks s
