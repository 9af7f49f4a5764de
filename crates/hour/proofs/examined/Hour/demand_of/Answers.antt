-- `Hour::demand_of` meets its contract: the record's part has the record's numbers.
use mathlib.Core.Path.{◌∙◌}
use Rattle.hour.proofs.Rows.{part_demand}
use Rattle.hour.proofs.examined.Hour.demand_of.Goals as goal

pub returns : goal.returns
returns c = c.demand.ensures ∙ part_demand (record { kept = c.args.self.now.kept; there = c.requires; part = c.record.ensures })
