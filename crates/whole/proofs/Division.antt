-- Division of naturals, and of signed numbers toward zero.
use Prim.Native.Nat.{ℕ, suc, ◌/◌, ◌%◌, ◌<◌, ◌≤◌}
use native.Mathlib.Nat.{mod-lt, mul-le-mul_left, le-div_iff_mul-le, div-mul-le_self, le_trans, le_of_lt}
use lib.IntN.{ℤ, pos, negsuc}
use lib.Signed.{quot_z, rem_z}
use Rattle.whole.specs.Signed.{Under}
use Rattle.whole.proofs.Ranges.{u_neg}

pub div_mono : {x y t : ℕ} → 0 < t → x ≤ y → x / t ≤ y / t
div_mono {x} {y} {t} p h = (le-div_iff_mul-le p).1 (le_trans (div-mul-le_self x t) h)

pub div_by_more : (x : ℕ) {s t : ℕ} → 0 < s → s ≤ t → x / t ≤ x / s
div_by_more x {s} {t} p h = (le-div_iff_mul-le p).1 (le_trans (mul-le-mul_left (x / t) h) (div-mul-le_self x t))

-- ---- toward zero, by a natural; the remainder has the dividend's sign
pub quot_under : (z : ℤ) (k : ℕ) {d : ℕ} → 0 < d → Under z k → Under (quot_z z (pos d)) (k / d)
quot_under (pos n) k p h = record { under = div_mono p h.under }
quot_under (negsuc n) k {d} p h = u_neg {a = pos (suc n / d)} (record { under = div_mono p h.under })

pub rem_under : (z : ℤ) {d : ℕ} → 0 < d → Under (rem_z z (pos d)) d
rem_under (pos n) {d} p = record { under = le_of_lt (mod-lt n p) }
rem_under (negsuc n) {d} p = u_neg {a = pos (suc n % d)} (record { under = le_of_lt (mod-lt (suc n) p) })
