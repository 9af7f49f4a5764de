-- Ranges of signed numbers, built as the numbers are: `(ha u* hb) u- (hc u* hd)` bounds `a *ℤ b -ℤ c *ℤ d`.
use mathlib.Core.Path.{◌≡◌, refl}
use mathlib.Core.Bool.{Bool, true, false, cond}
use Prim.Native.Nat.{ℕ, ◌+◌, ◌*◌, ◌<◌, ◌≤◌, zero-le}
use native.Mathlib.Nat.{le_refl, le_trans, le_of_eq, mul-le-mul}
use native.Mathlib.Omega.{arith}
use lib.Dec.{T, ltb, leb, ltb→lt, leb→le}
use lib.IntN.{ℤ, pos, negsuc, neg_ℤ, nat_abs, ◌+ℤ◌, ◌-ℤ◌, ◌*ℤ◌}
use lib.Signed.{◌≤ℤ◌, ◌<ℤ◌}
use mir.Syntax.{w64}
use mir.Val.{SFits}
use Rattle.whole.specs.Signed.{Under, Upto, max_ℤ, min_ℤ, with_sign_of}
use Rattle.whole.proofs.Linear.{zr, all1, all2, le↓, lt↓, le↑, abs_minus, abs_mul}

-- ---- −k ≤ z ≤ k
infixl 6 ◌u+◌ ◌u-◌
infixl 7 ◌u*◌
sum_under : (a b : ℤ) (m n : ℕ) → Under a m → Under b n → Under (a +ℤ b) (m + n)
sum_under = all2 _ (λ a b. simp zr (omega arith))

sub_under : (a b : ℤ) (m n : ℕ) → Under a m → Under b n → Under (a -ℤ b) (m + n)
sub_under = all2 _ (λ a b. simp zr (omega arith))

neg_under : (a : ℤ) (m : ℕ) → Under a m → Under (neg_ℤ a) m
neg_under = all1 _ (λ a. simp zr (omega arith))

pub ◌u+◌ : {a b : ℤ} {m n : ℕ} → Under a m → Under b n → Under (a +ℤ b) (m + n)
◌u+◌ {a} {b} {m} {n} h k = sum_under a b m n h k

pub ◌u-◌ : {a b : ℤ} {m n : ℕ} → Under a m → Under b n → Under (a -ℤ b) (m + n)
◌u-◌ {a} {b} {m} {n} h k = sub_under a b m n h k

pub ◌u*◌ : {a b : ℤ} {m n : ℕ} → Under a m → Under b n → Under (a *ℤ b) (m * n)
◌u*◌ {a} {b} h k = record { under = le_trans (le_of_eq (abs_mul a b)) (mul-le-mul h.under k.under) }

pub u_neg : {a : ℤ} {m : ℕ} → Under a m → Under (neg_ℤ a) m
u_neg {a} {m} h = neg_under a m h

-- a literal, or any number by its own size
pub u_lit : (z : ℤ) → Under z (nat_abs z)
u_lit z = record { under = le_refl (nat_abs z) }

-- a larger bound: at two literals by computation, or by an order
pub u_more : {z : ℤ} {k : ℕ} (n : ℕ) → Under z k → T (leb k n) → Under z n
u_more {k = k} n h t = record { under = le_trans h.under (leb→le k n t) }

pub u_le : {z : ℤ} {k n : ℕ} → Under z k → k ≤ n → Under z n
u_le h l = record { under = le_trans h.under l }

fitting : (z : ℤ) (k : ℕ) → Under z k → k < 9223372036854775808 → SFits w64 z
fitting = all1 _ (λ z. simp zr (omega arith))

pub u_fits : {z : ℤ} {k : ℕ} → Under z k → T (ltb k 9223372036854775808) → SFits w64 z
u_fits {z} {k} h t = fitting z k h (ltb→lt k 9223372036854775808 t)

min_under : (a b : ℤ) (k : ℕ) → Under a k → Under b k → Under (min_ℤ a b) k
min_under = all2 _ (λ a b. simp zr (omega arith))

max_under : (a b : ℤ) (k : ℕ) → Under a k → Under b k → Under (max_ℤ a b) k
max_under = all2 _ (λ a b. simp zr (omega arith))

pub u_min : {a b : ℤ} {k : ℕ} → Under a k → Under b k → Under (min_ℤ a b) k
u_min {a} {b} {k} h l = min_under a b k h l

pub u_max : {a b : ℤ} {k : ℕ} → Under a k → Under b k → Under (max_ℤ a b) k
u_max {a} {b} {k} h l = max_under a b k h l

-- ---- a size with a number's sign
pub abs_with_sign : (z : ℤ) (n : ℕ) → nat_abs (with_sign_of z n) ≡ n
abs_with_sign (pos u) n = refl
abs_with_sign (negsuc u) n = abs_minus n

pub u_with_sign : (z : ℤ) (n : ℕ) → Under (with_sign_of z n) n
u_with_sign z n = record { under = le_of_eq (abs_with_sign z n) }

pub with_sign_below : (z : ℤ) (n : ℕ) → z <ℤ pos 0 → with_sign_of z n ≡ neg_ℤ (pos n)
with_sign_below (pos u) n l = absurd (omega (arith, lt↓ l))
with_sign_below (negsuc u) n l = refl

pub with_sign_from_0 : (z : ℤ) (n : ℕ) → pos 0 ≤ℤ z → with_sign_of z n ≡ pos n
with_sign_from_0 (pos u) n l = refl
with_sign_from_0 (negsuc u) n l = absurd (omega (arith, le↓ l))

-- ---- 0 ≤ z ≤ k
size_under : (z : ℤ) (k : ℕ) → Upto z k → Under z k
size_under = all1 _ (λ z. simp zr (omega arith))

pub u_upto : {z : ℤ} {k : ℕ} → Upto z k → Under z k
u_upto {z} {k} h = size_under z k h

pub upto_pos : (n k : ℕ) → n ≤ k → Upto (pos n) k
upto_pos n k h = record { low = le↑ (omega arith); high = le↑ (omega arith) }

upto_product : (a b : ℤ) (m n : ℕ) → Upto a m → Upto b n → Upto (a *ℤ b) (m * n)
upto_product (pos x) (pos y) m n h k = upto_pos (x * y) (m * n) (mul-le-mul (u_upto h).under (u_upto k).under)
upto_product (pos x) (negsuc y) m n h k = absurd (omega (arith, le↓ k.low))
upto_product (negsuc x) b m n h k = absurd (omega (arith, le↓ h.low))

pub upto_mul : {a b : ℤ} {m n : ℕ} → Upto a m → Upto b n → Upto (a *ℤ b) (m * n)
upto_mul {a} {b} {m} {n} h k = upto_product a b m n h k

apart_upto : (a b : ℤ) (k : ℕ) → Upto a k → Upto b k → Under (a -ℤ b) k
apart_upto = all2 _ (λ a b. simp zr (omega arith))

pub u_apart : {a b : ℤ} {k : ℕ} → Upto a k → Upto b k → Under (a -ℤ b) k
u_apart {a} {b} {k} h l = apart_upto a b k h l

-- ---- 0, and a number or 0 by a test
pub u_zero : {k : ℕ} → Under (pos 0) k
u_zero = record { under = zero-le }

pub u_cond : (b : Bool) {z : ℤ} {k : ℕ} → Under z k → Under (cond b z (pos 0)) k
u_cond true h = h
u_cond false h = u_zero

-- the bound goes with the number
pub u_picked : (b : Bool) {z : ℤ} {k : ℕ} → Under z k → Under (cond b z (pos 0)) (cond b k 0)
u_picked true h = h
u_picked false h = u_zero
