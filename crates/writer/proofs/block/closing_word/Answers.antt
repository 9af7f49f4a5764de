-- `writer::block::closing_word` meets its contract: the words of the front and of the body add up to the block's sum.
use Rattle.std.proofs.Common.{ℕ, ◌%◌, refl, sym, ap, ◌∙◌, arith}
use Rattle.writer.proofs.Sums.{open_sum, closes, kept_on}
use Rattle.writer.proofs.block.closing_word.Goals as goal

pub returns : goal.returns
returns c =
    let sum = open_sum _ _ _ c.args.body.now c.requires in
    let with-mark = kept_on _ _ _ c.args.mark _ c.sum_of.ensures refl in
    let with-position = kept_on _ _ _ c.args.position _ with-mark refl in
    let kept = kept_on _ _ _ c.args.count _ with-position refl in
    closes _ _ _ (omega (arith, c.wrapping_neg.type_inv)) c.wrapping_neg.ensures (kept ∙ ap (λ (n : ℕ). n % 0x1_0000_0000) (sym sum))
