-- `blocks::whole_word` meets its contract: four bytes that are there, the lowest first.
use Rattle.std.proofs.Common.{◌∙◌, arith}
use Rattle.rules.specs.HourFile.{word}
use Rattle.blocks.proofs.whole_word.Goals as goal

pub returns : goal.returns
unfolding word
returns c = c.from_le_bytes.ensures ∙ omega arith
