-- `blocks::signed` meets its contract: the cast to a signed word reads it in two's complement.
use Rattle.std.proofs.Common.{arith}
use Rattle.std.proofs.lemmas.Int.{ints}
use Rattle.rules.specs.Record.{signed}
use Rattle.blocks.proofs.signed.Goals as goal

pub returns : goal.returns
unfolding signed
returns c = grind (arith, ints)
