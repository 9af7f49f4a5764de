-- Past the blanks of what is left is past those of the field.
use mathlib.Core.Path.{◌≡◌}
use lib.ListN.{length, drop}
use Rattle.rules.specs.Text.{blank_count}
use Rattle.amount.proofs.reading.Cursor.blanks.Given as goal

abbrev pub invariant-loop-rest : goal.invariant-loop-rest
invariant-loop-rest l = drop (blank_count l.rest) l.rest ≡ drop (blank_count l.fn.self.left.now) l.fn.self.left.now

abbrev pub decreases-loop-rest : goal.decreases-loop-rest
decreases-loop-rest l = length l.rest
