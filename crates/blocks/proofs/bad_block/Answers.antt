-- `blocks::bad_block` meets its contract: the closure says of each block whether it breaks the layout.
use Rattle.std.proofs.Common.{ℕ, Bool, List, rules}
use borrow.Author.Tests.{tests}
use Rattle.std.proofs.lemmas.Iterator.{serves_from_Range}
use Rattle.whole.proofs.Chains.{find_first}
use Rattle.rules.specs.declared.Layout.{Layout}
use Rattle.rules.specs.HourFile.{blocks, block_word}
use Rattle.rules.specs.Ranges.{block_rule, first_broken}
use Rattle.rules.specs.Refusals.{is_broken, bad_block}
use Rattle.rules.proofs.Faults.{block_part_broken}
use Rattle.blocks.proofs.bad_block.Goals as goal

abbrev bad : (layout : Layout) (s : List ℕ) (b : ℕ) → Bool
bad layout s b = is_broken (first_broken (block_rule layout (blocks s) (block_word s b 2) b) (block_word s b) 128)

pub find-requires-clause-callable : goal.find-requires-clause-callable
unfolding blocks
find-requires-clause-callable c = serves_from_Range (λ x q k. search (rules, tests)) (λ x low high. search rules)

pub returns : goal.returns
unfolding bad_block
returns c =
    find_first (bad c.args.layout c.args.file.now) (blocks c.args.file.now) _ _ _ _ (cc) c.find.ensures.ran
    (λ x b q k. (search rules, cc (block_part_broken c.args.layout c.args.file.now c.count-n.result x)))
