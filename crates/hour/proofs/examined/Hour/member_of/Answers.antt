-- `Hour::member_of` meets its contract: the record's part has the record's numbers.
use mathlib.Core.Path.{◌∙◌}
use Rattle.hour.proofs.Rows.{part_member}
use Rattle.hour.proofs.examined.Hour.member_of.Goals as goal

pub returns : goal.returns
returns c = c.member.ensures ∙ part_member (record { kept = c.args.self.now.kept; there = c.requires; part = c.record.ensures })
