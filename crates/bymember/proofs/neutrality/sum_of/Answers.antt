-- `bymember::neutrality::sum_of` meets its contract: no few charges are too large for their sum.
use mathlib.Core.Path.{refl, sym}
use native.Mathlib.Omega.{arith}
use lib.IntN.{pos}
use lib.ListN.{get_or}
use Rattle.whole.proofs.Totals.{total_none}
use Rattle.bymember.proofs.Finals.{number_fits, number_added}
use Rattle.bymember.proofs.neutrality.sum_of.Goals as goal

pub loop-own-init : goal.loop-own-init
loop-own-init c = sym (total_none _)

-- sum += *own
pub overflow_add-sum : goal.overflow_add-sum
overflow_add-sum c =
    number_fits (λ k. get_or c.args.charges.now k (pos 0)) c.loop-own.own-index (omega (arith, c.requires.few)) (λ k l. c.requires.small k (omega arith))
    c.loop-own.sum-bits c.loop-own.invariant refl

pub loop-own-preserved : goal.loop-own-preserved
loop-own-preserved c =
    number_added (λ k. get_or c.args.charges.now k (pos 0)) c.loop-own.own-index (omega (arith, c.requires.few)) (λ k l. c.requires.small k (omega arith))
    c.loop-own.sum-bits c.loop-own.invariant refl
