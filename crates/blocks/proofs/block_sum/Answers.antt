-- `blocks::block_sum` meets its contract: the fold adds word after word, modulo 2^32.
use Rattle.std.proofs.Common.{◌%◌, refl, ◌∙◌, ap, rules, List, ℕ}
use Rattle.whole.specs.Below.{sum_below}
use Rattle.whole.proofs.Chains.{fold_sum_below}
use Rattle.rules.specs.HourFile.{word}
use Rattle.rules.proofs.PartWords.{block_part_sum}
use Rattle.blocks.proofs.block_sum.Goals as goal

pub returns : goal.returns
returns c =
    fold_sum_below 0x1_0000_0000 (word c.block-words.result.now) 128 _ _ _ refl c.fold.ensures.ran (λ a x b q k. (search rules, search rules))
    ∙ ap (λ (block : List ℕ). sum_below (word block) 128 % 0x1_0000_0000) c.block-words.ensures
    ∙ block_part_sum _ _
