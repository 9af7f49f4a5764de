use mathlib.Core.Path.{◌≡◌}
use Rattle.rules.specs.Inner.Posting.{tally_after}
use Rattle.hour.specs.Held.{held}
use Rattle.byarea.proofs.tally_of.Given as goal

abbrev pub invariant-loop-i : goal.invariant-loop-i
invariant-loop-i l = l.tally ≡ tally_after (held l.hour) l.i
