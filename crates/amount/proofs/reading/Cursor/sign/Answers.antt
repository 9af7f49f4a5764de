-- A plus, a minus, or none.
use mathlib.Core.Path.{refl}
use borrow.Author.Rules.{rules}
use native.Mathlib.Omega.{arith}
use Prim.Native.Nat.{◌<◌}
use lib.ListN.{length}
use borrow.Author.Tests.{ltb-true}
use Rattle.rules.proofs.Digits.{stands}
use Rattle.amount.proofs.Left.{rest_is, plus_there, minus_there, no_sign}
use Rattle.amount.proofs.reading.Cursor.sign.Goals as goal
use Rattle.amount.proofs.reading.Cursor.sign.Goals.{in_default-via-then-field-lt1, in_default-via-else-field-lt1+in_default-1}

pub returns-in-43 : goal.returns-in-43
returns-in-43 c = let s = c.args.self.left.now in plus_there s _ (rest_is _ 1 s refl) (search rules)

pub returns-in-45 : goal.returns-in-45
returns-in-45 c = let s = c.args.self.left.now in minus_there s _ (rest_is _ 1 s refl) (search rules)

-- nothing is left, or another byte stands there
pub returns-in_default : goal.returns-in_default
returns-in_default c = let s = c.args.self.left.now in elim c.in_default.branch [
  | in_default-via-then-field-lt1 w ↦
      let none : length s < 1 = omega (arith, ltb-true) in no_sign s (λ e. absurd (omega (arith, stands s 0 (λ z. omega arith)))) (λ e. absurd (omega (arith, stands s 0 (λ z. omega arith))))
  | in_default-via-else-field-lt1+in_default-1 w ↦ no_sign s (λ e. absurd (omega arith)) (λ e. absurd (omega arith))
]
