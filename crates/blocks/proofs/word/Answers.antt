-- `blocks::word` meets its contract: a word past the end is 0.
use Rattle.std.proofs.Common.{arith}
use Rattle.rules.proofs.PartWords.{word_past}
use Rattle.blocks.proofs.word.Goals as goal

pub returns-else-k-whole-2 : goal.returns-else-k-whole-2
returns-else-k-whole-2 c = grind (arith, word_past)
