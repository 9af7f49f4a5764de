-- A plus, a minus zero, a minus.
use Prim.Native.Nat.{ℕ, zero, suc, ◌≤◌}
use mathlib.Core.Path.{◌≡◌, refl, sym, ap}
use mathlib.Core.Bool.{true}
use Rattle.std.specs.Prelude.{Some}
use native.Mathlib.Omega.{arith}
use lib.IntN.{ℤ, pos, neg_ℤ, ◌-ℤ◌}
use Rattle.whole.proofs.Linear.{zr, all1}
use Rattle.whole.proofs.Machine.{Num, local, #, ◌:-◌, fits, stored, i64_is}
use Rattle.rules.specs.Text.{with_minus}
use Rattle.amount.proofs.reading.signed.Goals as goal

-- the size as the code has it, and what is taken from 0
abbrev minus : (n : ℕ) → n ≤ 999999999999 → Num
minus n h = # (pos 0) :- local {k = 999999999999} (i64_is {n = n} (omega arith)) (record { under = h })

from_zero : (a : ℤ) → pos 0 -ℤ a ≡ neg_ℤ a
from_zero = all1 _ (λ a. simp zr (omega arith))

minus-some : (n : ℕ) → (n ≡ 0 → ⊥) → with_minus true n ≡ Some (pos 0 -ℤ pos n)
unfolding with_minus
minus-some zero h = absurd (h refl)
minus-some (suc n) h = ap Some (sym (from_zero (pos (suc n))))

-- the first return: !is_minus
pub returns-then-not-is_minus : goal.returns-then-not-is_minus
unfolding with_minus
returns-then-not-is_minus c =
    let s = c in
    rw (c.if-not-is_minus.true, i64_is {n = s.args.size} (omega arith))

-- the second: a minus zero
pub returns-then-size-eq0 : goal.returns-then-size-eq0
unfolding with_minus
returns-then-size-eq0 c =
    let s = c in
    rw (c.if-not-is_minus.false, c.if-size-eq0.true)

-- -(size as i64)
pub overflow_sub-result : goal.overflow_sub-result
overflow_sub-result c = fits (minus c.args.size c.requires) tt

-- Some(-(size as i64))
pub returns : goal.returns
returns c =
    let s = c in
    rw (
      c.if-not-is_minus.false,
      minus-some s.args.size c.if-size-eq0.false,
      stored (minus s.args.size s.requires) tt,
    )
