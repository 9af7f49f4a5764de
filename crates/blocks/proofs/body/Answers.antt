-- `blocks::body` meets its contract: each part by the tests that led to it.
use Rattle.std.proofs.Common.{arith}
use Rattle.std.proofs.lemmas.Bool.Decides.{nat_tests}
use Rattle.rules.specs.HourFile.{blocks, body}
use Rattle.blocks.proofs.body.Goals as goal

pub returns-then-length_bad : goal.returns-then-length_bad
unfolding body
returns-then-length_bad c = grind (arith, nat_tests)

pub whole_body-requires : goal.whole_body-requires
unfolding blocks
whole_body-requires c = grind (arith, nat_tests)

pub returns : goal.returns
unfolding body
returns c = grind (arith, nat_tests)
