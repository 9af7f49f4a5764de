-- The digits taken, one more in each round, at most eleven.
use mathlib.Core.Path.{sym, ◌∙◌}
use native.Mathlib.Omega.{arith}
use Rattle.amount.proofs.Left.{none_taken, one_more, under_ten_digits, no_more}
use Rattle.amount.proofs.reading.digits.Goals as goal

pub loop-count-init : goal.loop-count-init
loop-count-init c = none_taken c.args.field.now

-- no digit stands there
pub returns-then-not-is_ascii_digit-clause-count : goal.returns-then-not-is_ascii_digit-clause-count
returns-then-not-is_ascii_digit-clause-count c =
    omega (
      arith,
      c.loop-count.invariant.counted,
      no_more c.args.field.now c.loop-count.count c.byte_at-byte.ensures
          (sym c.is_ascii_digit.ensures.value ∙ c.if-not-is_ascii_digit.true),
    )

-- 10 * value
pub overflow_mul-value : goal.overflow_mul-value
overflow_mul-value c = omega (arith, under_ten_digits c.loop-count.invariant (omega arith))

-- 10 * value + u64::from(byte - b'0')
pub overflow_add-value : goal.overflow_add-value
overflow_add-value c = omega (arith, under_ten_digits c.loop-count.invariant (omega arith))

pub loop-count-preserved : goal.loop-count-preserved
loop-count-preserved c =
    rw c.from.ensures (one_more c.args.field.now c.byte_at-byte.ensures (sym c.is_ascii_digit.ensures.value ∙ c.if-not-is_ascii_digit.false)
    c.loop-count.invariant)
