-- `tenminutes::cost::cost` meets its contract: a net that is not below zero is above it, or costs nothing at any price.
use mathlib.Core.Path.{◌≡◌, refl, ◌∙◌}
use mathlib.Core.Bool.{cond}
use lib.IntN.{ℤ, pos, negsuc, ◌*ℤ◌}
use lib.Signed.{lt_z, ◌≤ℤ◌}
use Prim.Native.Nat.{zero, suc, zero-le}
use native.Mathlib.Omega.{arith}
use borrow.Author.Tests.{lt-ltb, le-ltb}
use Rattle.whole.specs.Signed.{Under}
use Rattle.whole.proofs.Linear.{zr, all1, le↓}
use Rattle.whole.proofs.Machine.{Num, #, at, ◌:*◌, stored, lt_no}
use Rattle.tenminutes.proofs.cost.cost.Goals as goal

zero-times : (z : ℤ) → pos 0 *ℤ z ≡ pos 0
zero-times = all1 _ (λ z. simp zr (omega arith))

from_0 : (net inc dec : ℤ) → pos 0 ≤ℤ net → net *ℤ inc ≡ net *ℤ cond (lt_z net (pos 0)) dec (cond (lt_z (pos 0) net) inc (pos 0))
from_0 (pos zero) inc dec l = zero-times inc
from_0 (pos (suc n)) inc dec l = rw (le-ltb (suc n) 0 zero-le, lt-ltb 0 (suc n) (omega arith)) refl
from_0 (negsuc n) inc dec l = absurd (omega (arith, le↓ l))

-- a net at a price
abbrev priced : {n p : ℤ} → Under n 6144000000000 → Under p 100000 → Num
priced n p = at n :* at p

-- net * incremental
pub returns-else-net-lt0 : goal.returns-else-net-lt0
returns-else-net-lt0 c =
    stored (priced c.requires.0 c.requires.1) tt
    ∙ from_0 c.args.net c.args.incremental c.args.decremental (lt_no (at c.requires.0) (# (pos 0)) tt tt c.if-net-lt0.false)
