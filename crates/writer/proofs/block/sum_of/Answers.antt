-- `writer::block::sum_of` meets its contract: the fold adds word after word, modulo 2^32.
use Rattle.std.proofs.Common.{rules}
use Rattle.std.proofs.lemmas.Iterator.{YieldsList-from_slice}
use Rattle.whole.proofs.Chains.{fold_sum}
use Rattle.writer.proofs.block.sum_of.Goals as goal

pub returns : goal.returns
returns c =
    fold_sum 0x1_0000_0000 (λ y. y.now) (λ x. x) _ _ _ _ (YieldsList-from_slice c.args.words.now cc) c.fold.ensures.ran
    (λ a x b q k. (search rules, search rules))
