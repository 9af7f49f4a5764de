-- `writer::block::put_words` meets its contract. The loop's invariant: the words stored so far.
use Rattle.std.proofs.Common.{◌≡◌, get_or}
use Rattle.writer.specs.Stored.{words_stored}
use Rattle.writer.proofs.block.put_words.Given as goal

abbrev pub invariant-loop-k : goal.invariant-loop-k
invariant-loop-k l = l.block ≡ words_stored (λ i. get_or l.words i 0) l.from l.k l.initial.block
