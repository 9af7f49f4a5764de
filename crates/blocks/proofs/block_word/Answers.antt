-- `blocks::block_word` meets its contract: past the last block, or past the file's own length, a word is 0.
use Rattle.std.proofs.Common.{arith}
use Rattle.std.proofs.lemmas.Bool.Decides.{nat_tests}
use Rattle.rules.specs.HourFile.{blocks, block_word}
use Rattle.rules.proofs.PartWords.{word_past}
use Rattle.blocks.proofs.block_word.Goals as goal

pub returns-then-count-b : goal.returns-then-count-b
unfolding blocks block_word
returns-then-count-b c = grind (arith, nat_tests, word_past)

pub overflow_mul-b : goal.overflow_mul-b
unfolding blocks
overflow_mul-b c = grind (arith, nat_tests)

pub overflow_add-b : goal.overflow_add-b
unfolding blocks
overflow_add-b c = grind (arith, nat_tests)

pub returns : goal.returns
unfolding block_word
returns c = grind arith
