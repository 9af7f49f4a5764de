-- `formula::rounding::cents_of` meets its contract: no step can leave its word, whatever the amount is.
use mathlib.Core.Path.{◌≡◌, ◌∙◌}
use Prim.Native.Nat.{ℕ, ◌<◌}
use native.Mathlib.Omega.{arith}
use lib.IntN.{ℤ, pos}
use Rattle.whole.proofs.Ranges.{u_le}
use Rattle.whole.proofs.Division.{div_by_more, quot_under, rem_under}
use Rattle.whole.proofs.Machine.{Num, #, result, quotient, rest, any_under, ◌:+◌, ◌:*◌, ◌:%◌, fits, stored, bound, back, read_back}
use Rattle.rules.proofs.Rounding.{by_quotients}
use Rattle.formula.proofs.rounding.cents_of.Goals as goal

module _ (c : goal.After-from-h) where
  abbrev half : ℕ
  half = c.args.half

  few : half < 4294967296
  few = omega arith

  abbrev h : Num
  h = result {k = 4294967295} c.from-h.ensures (record { under = omega (arith, few) })

  half_is : back c.from-h.result ≡ pos half
  half_is = stored h tt

  abbrev cent : Num
  cent = # (pos 2) :* h

  abbrev next : Num
  next = h :+ # (pos 1)

  abbrev amount : ℤ
  amount = c.args.amount

  amount_is : back amount ≡ amount
  amount_is = read_back c.ranges.amount

  -- amount / cent and amount % cent
  abbrev whole : Num
  whole = quotient {k = 4611686018427387904} amount_is (stored cent tt)
      (u_le (quot_under amount 9223372036854775808 (omega arith) (any_under amount c.ranges.amount))
      (div_by_more 9223372036854775808 {s = 2} (omega arith) (omega (arith, c.requires))))

  abbrev left : Num
  left = rest {k = 8589934590} amount_is (stored cent tt) (u_le (rem_under amount (omega arith)) (omega (arith, few))) :+ whole :% 2

  -- one cent more, or none
  abbrev more : Num
  more = quotient {k = 8589934592} (stored left tt) (stored next tt)
      (u_le (quot_under left.z 8589934592 (omega arith) (bound left tt)) (div_by_more 8589934592 {s = 1} (omega arith) (omega arith)))

  abbrev rounded : Num
  rounded = whole :+ more

-- amount % cent + whole % 2
pub overflow_add-result : goal.overflow_add-result
overflow_add-result c = fits (left c) tt

-- (amount % cent + whole % 2) / (h + 1)
pub nonzero_div-result : goal.nonzero_div-result
nonzero_div-result c = (rw (half_is c) (omega arith), fits (more c) tt)

-- whole + (amount % cent + whole % 2) / (h + 1)
pub overflow_add-result-3 : goal.overflow_add-result-3
overflow_add-result-3 c = fits (rounded c) tt

pub returns : goal.returns
returns c = stored (rounded c) tt ∙ by_quotients (half c) (amount c) c.requires
