-- Place after place gets its word.
use mathlib.Core.Path.{refl}
use native.Mathlib.Nat.{le_refl}
use native.Mathlib.Omega.{arith}
use Rattle.whole.proofs.Filling.{none_filled, next_filled, filled_length, all_filled}
use Rattle.report.proofs.written.put_words.Goals as goal

pub loop-k-init : goal.loop-k-init
loop-k-init c = none_filled (le_refl _)

pub loop-k-preserved : goal.loop-k-preserved
loop-k-preserved c = next_filled c.loop-k.invariant (omega (arith, filled_length c.loop-k.invariant)) c.whole_word.ensures

pub returns : goal.returns
returns c = all_filled c.loop-k.invariant (omega (arith, filled_length c.loop-k.invariant)) refl
