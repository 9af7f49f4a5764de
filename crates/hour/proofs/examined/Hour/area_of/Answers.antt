-- `Hour::area_of` meets its contract: the record's part has the record's numbers.
use mathlib.Core.Path.{◌∙◌}
use Rattle.hour.proofs.Rows.{part_area}
use Rattle.hour.proofs.examined.Hour.area_of.Goals as goal

pub returns : goal.returns
returns c = c.area.ensures ∙ part_area (record { kept = c.args.self.now.kept; there = c.requires; part = c.record.ensures })
