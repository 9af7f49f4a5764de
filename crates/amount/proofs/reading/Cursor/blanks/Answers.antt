-- Past the blanks of what is left is past those of the field.
use mathlib.Core.Path.{refl, ◌∙◌}
use borrow.Author.Rules.{rules}
use borrow.Author.Tests.{ltb-true}
use native.Mathlib.Omega.{arith}
use Rattle.rules.proofs.Digits.{stands}
use Rattle.amount.proofs.Left.{rest_is, blank_on, blank_end}
use Rattle.amount.proofs.reading.Cursor.blanks.Goals as goal
use Rattle.amount.proofs.reading.Cursor.blanks.Goals.{in_default, in_default-2}

pub loop-rest-preserved : goal.loop-rest-preserved
loop-rest-preserved c = let s = c.loop-rest.rest.now in blank_on s (rest_is _ 1 s refl) (search rules) c.loop-rest.invariant

-- nothing is left, or another byte stands there
pub returns : goal.returns
returns c = let s = c.loop-rest.rest.now in elim c.if-rest-lt1.branch [
  | in_default w ↦ blank_end s (λ e. absurd (omega (arith, ltb-true, stands s 0 (λ z. omega arith)))) ∙ c.loop-rest.invariant
  | in_default-2 w ↦ blank_end s (λ e. absurd (omega arith)) ∙ c.loop-rest.invariant
]
