-- How long a record's part of a file is.
use Rattle.std.proofs.Common.{◌≡◌, ℕ, ◌+◌, ◌*◌, ◌/◌, ◌%◌, List, length, drop, arith, length-drop, length-take-le}
use Rattle.rules.specs.declared.Layout.{Layout}
use Rattle.rules.specs.HourFile.{body}
use Rattle.rules.specs.Inner.Layouts.{FitsBody}
use Rattle.rules.proofs.Layouts.{ends_inside}
use Rattle.rules.proofs.Words.{body_length}
use Rattle.blocks.specs.Part.{record_part, RecordThere}

module _ {l : Layout} {s : List ℕ} {i : ℕ} (fit : FitsBody l) (there : RecordThere l s i) where
  abbrev own : List ℕ
  own = body l s (1 + i / l.records)

  abbrev from : ℕ
  from = 4 * l.words * (i % l.records)

  pub record_part_length : length (record_part l s i) ≡ 4 * l.words
  record_part_length =
      let whole = body_length l s (1 + i / l.records) there.length_good there.block_there in
      length-take-le (4 * l.words) (drop from own) (omega (arith, whole, length-drop from own, ends_inside fit i))
