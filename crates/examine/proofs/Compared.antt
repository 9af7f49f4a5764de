-- Rows 4 and 5 passed, what comes behind them: of an hourly file row 14, of a ten-minute file nothing.
use Rattle.std.proofs.Common.{◌≡◌, ℕ, Bool, true, false, ◌++◌, refl, None, Some}
use Rattle.whole.proofs.Search.{none_below}
use Rattle.rules.specs.Record.{Hour}
use Rattle.rules.specs.Ranges.{Form}
use Rattle.rules.specs.Refusals.{accepted, refused_at, verdict, bad_head, bad_record, word_rows, above_maximum, comparison_rows}
use Rattle.examine.specs.Fault.{above_in, comparison_by}

module _ (form : Form) (h : Hour) (head : bad_head form h ≡ None) (records : bad_record form h ≡ None) where
  pub above_told : (compares : Bool) (i : ℕ) → Some i ≡ above_in compares h → refused_at 14 i ≡ verdict (word_rows form h ++ comparison_by compares h)
  unfolding verdict word_rows above_maximum comparison_rows
  above_told true i above = rw (head, records, ← above)
  above_told false i above = let none = none_below (λ k. false) h.count (λ k l. refl) in absurd (cc (above, none))

  pub nothing_told : (compares : Bool) → None ≡ above_in compares h → accepted ≡ verdict (word_rows form h ++ comparison_by compares h)
  unfolding verdict word_rows above_maximum comparison_rows
  nothing_told true above = rw (head, records, ← above)
  nothing_told false above = rw (head, records)
