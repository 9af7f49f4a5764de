-- `blocks::head_word` meets its contract: words 8 to 127 of the first block, and 0 elsewhere.
use Rattle.std.proofs.Common.{arith}
use Rattle.std.proofs.lemmas.Bool.Decides.{nat_tests}
use Rattle.rules.specs.HourFile.{hour_of}
use Rattle.blocks.proofs.head_word.Goals as goal

pub returns-then-contains : goal.returns-then-contains
unfolding hour_of
returns-then-contains c = λ l. grind (arith, nat_tests)

pub returns-else-contains : goal.returns-else-contains
unfolding hour_of
returns-else-contains c = λ l. grind (arith, nat_tests)
