-- `amount::decimal::digits` meets its contract: as many as are written, and at most twenty are.
use native.Mathlib.Omega.{arith}
use Rattle.rules.proofs.Digits.{decimal_at_most_20}
use Rattle.amount.proofs.decimal.digits.Goals as goal

pub write_digits-requires : goal.write_digits-requires
write_digits-requires c = omega (arith, decimal_at_most_20 c.args.left)

pub returns : goal.returns
returns c = omega (arith, c.write_digits.ensures.first, decimal_at_most_20 c.args.left)
