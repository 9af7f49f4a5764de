-- Place after place gets its word.
use lib.ListN.{length}
use Rattle.whole.proofs.Filling.{Filled}
use Rattle.rules.specs.HourFile.{word}
use Rattle.report.proofs.written.put_words.Given as goal

abbrev pub invariant-loop-k : goal.invariant-loop-k
invariant-loop-k l = Filled (word l.input) (length l.fn.words) l.k l.fn.words l.words
