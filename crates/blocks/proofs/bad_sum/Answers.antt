-- `blocks::bad_sum` meets its contract: the closure says of each block whether its sum is bad.
use Rattle.std.proofs.Common.{ℕ, Bool, not, eqb, List, rules}
use borrow.Author.Tests.{tests}
use Rattle.std.proofs.lemmas.Iterator.{serves_from_Range}
use Rattle.whole.proofs.Chains.{find_first}
use Rattle.rules.specs.HourFile.{blocks, block_sum}
use Rattle.rules.specs.Refusals.{bad_sum}
use Rattle.blocks.proofs.bad_sum.Goals as goal

abbrev bad : List ℕ → ℕ → Bool
bad s b = not (eqb (block_sum s b) 0)

pub find-requires-clause-callable : goal.find-requires-clause-callable
unfolding blocks
find-requires-clause-callable c = serves_from_Range (λ x q k. search (rules, tests)) (λ x low high. search rules)

pub returns : goal.returns
unfolding bad_sum
returns c =
    find_first (bad c.args.file.now) (blocks c.args.file.now) _ _ _ _ (cc) c.find.ensures.ran (λ x b q k. (search rules, search (rules, tests)))
