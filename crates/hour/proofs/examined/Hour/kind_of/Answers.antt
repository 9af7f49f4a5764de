-- `Hour::kind_of` meets its contract: the record's part has the record's numbers.
use mathlib.Core.Path.{◌∙◌}
use Rattle.hour.proofs.Rows.{part_kind}
use Rattle.hour.proofs.examined.Hour.kind_of.Goals as goal

pub returns : goal.returns
returns c = c.kind.ensures ∙ part_kind (record { kept = c.args.self.now.kept; there = c.requires; part = c.record.ensures })
