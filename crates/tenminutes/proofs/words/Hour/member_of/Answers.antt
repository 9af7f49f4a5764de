-- `tenminutes::words::Hour::member_of` meets its contract: word 1 of the record's part.
use mathlib.Core.Path.{◌∙◌}
use native.Mathlib.Omega.{arith}
use Rattle.tenminutes.proofs.Inside.{part_length, part_member}
use Rattle.tenminutes.proofs.words.Hour.member_of.Goals as goal

pub whole_word-requires : goal.whole_word-requires
whole_word-requires c = omega (arith, part_length c.args.self.now.kept c.requires c.record.ensures)

pub returns : goal.returns
returns c = c.whole_word.ensures ∙ part_member c.args.self.now.kept c.requires c.record.ensures
