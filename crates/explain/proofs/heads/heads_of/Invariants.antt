-- `explain::heads::heads_of` meets its contract. The loop's invariant: the heads are those of the records passed.
use mathlib.Core.Path.{◌≡◌}
use Rattle.rules.specs.Inner.Posting.{heads_after}
use Rattle.hour.specs.Held.{held}
use Rattle.explain.proofs.heads.heads_of.Given as goal

abbrev pub invariant-loop-i : goal.invariant-loop-i
invariant-loop-i l = l.heads ≡ heads_after (held l.hour) l.member l.i
