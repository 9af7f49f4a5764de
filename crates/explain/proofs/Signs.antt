-- Two numbers of which the first has a sign have the same where their signums are the same.
use mathlib.Core.Path.{◌≡◌, refl}
use mathlib.Core.Bool.{true, false}
use Prim.Native.Nat.{ℕ, zero, suc, min, zero-le}
use native.Mathlib.Omega.{arith}
use lib.Dec.{eqb, ltb}
use lib.IntN.{ℤ, pos, negsuc}
use mir.Syntax.{w64}
use mir.Val.{of_z}
use borrow.Author.Tests.{lt-ltb, le-ltb}
use Rattle.std.specs.Int.{int_signum}
use Rattle.rules.specs.Explanation.{same_sign}

above_is_1 : (n : ℕ) → min (suc n) 1 ≡ 1
above_is_1 n = omega arith

above : (n : ℕ) → ltb 0 (suc n) ≡ true
above n = lt-ltb 0 (suc n) (omega arith)

not_below : (n : ℕ) → ltb n 0 ≡ false
not_below n = le-ltb n 0 zero-le

pub signs_alike : (y z : ℤ) → (y ≡ pos 0 → ⊥) → eqb (of_z w64 (int_signum y)) (of_z w64 (int_signum z)) ≡ same_sign y z
unfolding same_sign
signs_alike (pos zero) z e = absurd (e refl)
signs_alike (pos (suc n)) (pos zero) e = rw (above_is_1 n, above n, not_below (suc n)) refl
signs_alike (pos (suc n)) (pos (suc m)) e = rw (above_is_1 n, above_is_1 m, above n, above m) refl
signs_alike (pos (suc n)) (negsuc m) e = rw (above_is_1 n, above n, not_below (suc n)) refl
signs_alike (negsuc n) (pos zero) e = refl
signs_alike (negsuc n) (pos (suc m)) e = rw (above_is_1 m, not_below (suc m)) refl
signs_alike (negsuc n) (negsuc m) e = refl

pub zero_has_none : (z : ℤ) → false ≡ same_sign (pos 0) z
unfolding same_sign
zero_has_none z = refl
