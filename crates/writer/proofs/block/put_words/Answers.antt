-- `writer::block::put_words` meets its contract. The loop's invariant: the words stored so far.
use Rattle.std.proofs.Common.{refl}
use Rattle.writer.specs.Stored.{words_stored}
use Rattle.writer.proofs.Storing.{stored_next}
use Rattle.writer.proofs.block.put_words.Goals as goal

pub loop-k-init : goal.loop-k-init
unfolding words_stored
loop-k-init c = refl

pub loop-k-preserved : goal.loop-k-preserved
loop-k-preserved c = stored_next _ _ _ _ _ _ c.loop-k.invariant c.put_word.ensures
