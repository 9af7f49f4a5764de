-- `Hour::entry_of` meets its contract: the record's part has the record's numbers.
use mathlib.Core.Path.{◌∙◌}
use Rattle.hour.proofs.Rows.{part_entry}
use Rattle.hour.proofs.examined.Hour.entry_of.Goals as goal

pub returns : goal.returns
returns c = c.entry.ensures ∙ part_entry (record { kept = c.args.self.now.kept; there = c.requires; part = c.record.ensures })
