-- `bymember::put_lines` meets its contract. The loop's invariant: the records passed are posted to the lines as they were handed over.
use mathlib.Core.Path.{◌≡◌}
use Rattle.rules.specs.Inner.Posting.{lines_after}
use Rattle.hour.specs.Held.{held}
use Rattle.bymember.proofs.put_lines.Given as goal

abbrev pub invariant-loop-i : goal.invariant-loop-i
invariant-loop-i l = l.lines ≡ lines_after (held l.hour) l.fn.lines l.i
