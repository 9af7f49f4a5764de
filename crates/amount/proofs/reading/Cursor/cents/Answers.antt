-- A point and two digits, or none.
use mathlib.Core.Path.{refl}
use borrow.Author.Rules.{rules}
use borrow.Author.Tests.{ltb-true}
use native.Mathlib.Omega.{arith}
use Rattle.rules.proofs.Digits.{stands}
use Rattle.amount.proofs.Left.{rest_is, no_cents, cents_there}
use Rattle.amount.proofs.reading.Cursor.cents.Goals as goal
use Rattle.amount.proofs.reading.Cursor.cents.Goals.{in_default-via-then-field-lt3, in_default-via-else-field-lt3+in-46+then-field-lt48, in_default-via-else-field-lt3+in-46+else-field-lt48+then-field-lt58+then-field-lt48-2, in_default-via-else-field-lt3+in-46+else-field-lt48+then-field-lt58+else-field-lt48-2+else-field-lt58-2, in_default-via-else-field-lt3+in-46+else-field-lt48+else-field-lt58, in_default-via-else-field-lt3+in_default-1}

pub returns-in_default : goal.returns-in_default
returns-in_default c = let s = c.args.self.left.now in elim c.in_default.branch [
  | in_default-via-then-field-lt3 w ↦ no_cents s (λ p a b d e. absurd (omega (arith, ltb-true, stands s 2 (λ z. omega arith))))
  | in_default-via-else-field-lt3+in-46+then-field-lt48 w ↦ no_cents s (λ p a b d e. absurd (omega (arith, ltb-true)))
  | in_default-via-else-field-lt3+in-46+else-field-lt48+then-field-lt58+then-field-lt48-2 w ↦ no_cents s (λ p a b d e. absurd (omega (arith, ltb-true)))
  | in_default-via-else-field-lt3+in-46+else-field-lt48+then-field-lt58+else-field-lt48-2+else-field-lt58-2 w ↦ no_cents s (λ p a b d e. absurd (omega (arith, ltb-true)))
  | in_default-via-else-field-lt3+in-46+else-field-lt48+else-field-lt58 w ↦ no_cents s (λ p a b d e. absurd (omega (arith, ltb-true)))
  | in_default-via-else-field-lt3+in_default-1 w ↦ no_cents s (λ p a b d e. absurd (omega (arith, ltb-true)))
]

pub returns : goal.returns
returns c = let s = c.args.self.left.now in
    cents_there s (rest_is _ 3 s refl) c.from.ensures c.from-2.ensures (search rules) (omega arith) (omega arith) (omega arith) (omega arith)
