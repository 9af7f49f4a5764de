-- Of at most eleven digits, one to ten are dollars, the first of several no zero.
use borrow.Author.Rules.{rules}
use mathlib.Core.Path.{refl}
use native.Mathlib.Omega.{arith}
use Rattle.amount.proofs.Left.{rest_is, no_digit, too_many, zero_first, one_digit, no_zero_first}
use Rattle.amount.proofs.reading.Cursor.dollars.Goals as goal
use Rattle.amount.proofs.reading.Cursor.dollars.Goals.{then-count-eq0-via-then-count-eq0, then-count-eq0-via-else-count-eq0+then-count-gt10}
use Rattle.amount.proofs.reading.Cursor.dollars.Goals.{else-count-gt1-via-then-count-gt1+else-field-eq48, else-count-gt1-via-else-count-gt1}

-- no digit, or too many
pub returns-then-count-eq0 : goal.returns-then-count-eq0
returns-then-count-eq0 c = let d = c.digits-value in elim c.then-count-eq0.branch [
  | then-count-eq0-via-then-count-eq0 w ↦ no_digit c.args.self.left.now d.ensures.value d.ensures.count w.if-count-eq0.true
  | then-count-eq0-via-else-count-eq0+then-count-gt10 w ↦
      too_many c.args.self.left.now d.ensures.value d.ensures.count w.if-count-gt10.true
]

-- a zero before others
pub returns-then-field-eq48 : goal.returns-then-field-eq48
returns-then-field-eq48 c = let d = c.digits-value in
    zero_first c.args.self.left.now d.ensures.value d.ensures.count c.if-count-gt1.true (omega arith) (search rules)

pub returns : goal.returns
returns c = let d = c.digits-value in elim c.else-count-gt1.branch [
  | else-count-gt1-via-then-count-gt1+else-field-eq48 w ↦
      no_zero_first c.args.self.left.now d.ensures.value d.ensures.count (rest_is _ d.result.1 c.args.self.left.now refl) w.if-count-gt1.true (omega arith) w.if-field-eq48.false
  | else-count-gt1-via-else-count-gt1 w ↦
      one_digit c.args.self.left.now d.ensures.value d.ensures.count (rest_is _ d.result.1 c.args.self.left.now refl) (omega arith)
]
