-- Linear facts and equations over ℤ, by `omega`: each number is read as the difference of two naturals.
--     up z, dn z     the two parts of a number: z is up z − dn z, and one of them is 0
--     Is z m n       z is m − n
--     ev x           the number that a pair x stands for, shut: `simp zr` computes with it
-- A statement about three numbers, of +ℤ -ℤ neg_ℤ *ℤ pos negsuc nat_abs max_ℤ min_ℤ, by ≡ ≤ℤ <ℤ Under Upto SFits, is one line:
--     all3 _ (λ a b c. simp zr (omega arith))
-- Where the numbers are no variables, `omega (arith, zo)` proves an order or a range in place.
use mathlib.Core.Path.{◌≡◌, refl, ap, subst}
use mathlib.Core.Logic.{◌↔◌}
use mathlib.Core.Bool.{not}
use Prim.Native.Nat.{ℕ, zero, suc, ◌+◌, ◌*◌, ◌-◌, ◌<◌, ◌≤◌, min, max}
use native.Mathlib.Omega.{arith}
use lib.Dec.{T, ltb, ltb→lt, nltb→le, nleb→lt, leb→le, le→leb, lt→ltb}
use lib.IntN.{ℤ, pos, negsuc, neg_ℤ, nat_abs, sub_ℕ, ◌+ℤ◌, ◌*ℤ◌}
use lib.Signed.{◌≤ℤ◌, ◌<ℤ◌, le_z, lt_z}
use mir.Syntax.{w64}
use mir.Val.{SFits}
use Rattle.whole.specs.Signed.{Under, Upto, max_ℤ, min_ℤ}
use Rattle.whole.proofs.Tests.{cond_ind}

abbrev pub up : ℤ → ℕ
up (pos n) = n
up (negsuc n) = 0

abbrev pub dn : ℤ → ℕ
dn (pos n) = 0
dn (negsuc n) = suc n

pub record Is (z : ℤ) (m n : ℕ) : Type 0 where
  pub is : up z + n ≡ dn z + m

-- ---- the operations
pub is_at : (z : ℤ) → Is z (up z) (dn z)
is_at z = record { is = omega arith }

is_sub : (a b : ℕ) → Is (sub_ℕ a b) a b
is_sub a b = cond_ind (ltb a b) (negsuc (b - suc a)) (pos (a - b)) (λ z. Is z a b) (λ t. lo (ltb→lt a b t)) (λ t. hi (nltb→le a b t))
  where
    lo : a < b → Is (negsuc (b - suc a)) a b
    lo h = record { is = omega arith }

    hi : b ≤ a → Is (pos (a - b)) a b
    hi h = record { is = omega arith }

shift : {z : ℤ} {m n p q : ℕ} → Is z m n → m + q ≡ p + n → Is z p q
shift h e = omega arith

pub is_neg : {a : ℤ} {m n : ℕ} → Is a m n → Is (neg_ℤ a) n m
is_neg {a = pos zero} h = omega arith
is_neg {a = pos (suc k)} h = omega arith
is_neg {a = negsuc k} h = omega arith

pub is_add : {a b : ℤ} {m n p q : ℕ} → Is a m n → Is b p q → Is (a +ℤ b) (m + p) (n + q)
is_add {a = pos x} {b = pos y} h k = omega arith
is_add {a = pos x} {b = negsuc y} h k = shift (is_sub x (suc y)) (omega arith)
is_add {a = negsuc x} {b = pos y} h k = shift (is_sub y (suc x)) (omega arith)
is_add {a = negsuc x} {b = negsuc y} h k = omega arith

-- the product, at numbers whose parts are known: x and y are the sizes, and the pairs are those sizes moved by any n and q
mul_pp : (x y m n p q : ℕ) → m ≡ x + n → p ≡ y + q → x * y + (m * q + n * p) ≡ 0 + (m * p + n * q)
mul_pp x y m n p q e f = rw (e, f) (omega arith)

mul_pn : (x y m n p q : ℕ) → m ≡ x + n → q ≡ y + p → 0 + (m * q + n * p) ≡ (m * p + n * q) + x * y
mul_pn x y m n p q e f = rw (e, f) (omega arith)

mul_np : (x y m n p q : ℕ) → n ≡ x + m → p ≡ y + q → 0 + (m * q + n * p) ≡ (m * p + n * q) + x * y
mul_np x y m n p q e f = rw (e, f) (omega arith)

mul_nn : (x y m n p q : ℕ) → n ≡ x + m → q ≡ y + p → x * y + (m * q + n * p) ≡ 0 + (m * p + n * q)
mul_nn x y m n p q e f = rw (e, f) (omega arith)

-- minus a natural: −k is 0 − k
is_minus : (k : ℕ) → Is (neg_ℤ (pos k)) 0 k
is_minus zero = omega arith
is_minus (suc k) = omega arith

pub is_mul : {a b : ℤ} {m n p q : ℕ} → Is a m n → Is b p q → Is (a *ℤ b) (m * p + n * q) (m * q + n * p)
is_mul {a = pos x} {b = pos y} {m} {n} {p} {q} h k = record { is = mul_pp x y m n p q (omega arith) (omega arith) }
is_mul {a = pos x} {b = negsuc y} {m} {n} {p} {q} h k = shift (is_minus (x * suc y)) (mul_pn x (suc y) m n p q (omega arith) (omega arith))
is_mul {a = negsuc x} {b = pos y} {m} {n} {p} {q} h k = shift (is_minus (suc x * y)) (mul_np (suc x) y m n p q (omega arith) (omega arith))
is_mul {a = negsuc x} {b = negsuc y} {m} {n} {p} {q} h k = record { is = mul_nn (suc x) (suc y) m n p q (omega arith) (omega arith) }

-- ---- what an equation or an order of ℤ says of the parts, and back
pub is_eq : {a b : ℤ} {m n p q : ℕ} → Is a m n → Is b p q → m + q ≡ p + n → a ≡ b
is_eq {a = pos x} {b = pos y} h k e = ap pos (omega arith)
is_eq {a = pos x} {b = negsuc y} h k e = absurd (omega arith)
is_eq {a = negsuc x} {b = pos y} h k e = absurd (omega arith)
is_eq {a = negsuc x} {b = negsuc y} h k e = ap negsuc (omega arith)

-- the difference is determined
same_parts : {a b : ℤ} {m n p q : ℕ} → Is a m n → Is b p q → up a + dn b ≡ up b + dn a → m + q ≡ p + n
same_parts h k e = omega arith

pub eq_is : {a b : ℤ} {m n p q : ℕ} → Is a m n → Is b p q → a ≡ b → m + q ≡ p + n
eq_is {a} {b} h k e = same_parts h k (subst (λ (z : ℤ). up a + dn z ≡ up z + dn a) e (omega arith))

le_parts : (a b : ℤ) → T (le_z a b) → up a + dn b ≤ up b + dn a
le_parts (pos x) (pos y) t = omega (arith, leb→le x y t)
le_parts (pos x) (negsuc y) t = absurd t
le_parts (negsuc x) (pos y) t = omega arith
le_parts (negsuc x) (negsuc y) t = omega (arith, leb→le y x t)

parts_le : (a b : ℤ) → up a + dn b ≤ up b + dn a → T (le_z a b)
parts_le (pos x) (pos y) h = le→leb x y (omega arith)
parts_le (pos x) (negsuc y) h = absurd (omega arith)
parts_le (negsuc x) (pos y) h = tt
parts_le (negsuc x) (negsuc y) h = le→leb y x (omega arith)

lt_parts : (a b : ℤ) → T (lt_z a b) → up a + dn b < up b + dn a
lt_parts (pos x) (pos y) t = omega (arith, ltb→lt x y t)
lt_parts (pos x) (negsuc y) t = absurd t
lt_parts (negsuc x) (pos y) t = omega arith
lt_parts (negsuc x) (negsuc y) t = omega (arith, ltb→lt y x t)

parts_lt : (a b : ℤ) → up a + dn b < up b + dn a → T (lt_z a b)
parts_lt (pos x) (pos y) h = lt→ltb x y (omega arith)
parts_lt (pos x) (negsuc y) h = absurd (omega arith)
parts_lt (negsuc x) (pos y) h = tt
parts_lt (negsuc x) (negsuc y) h = lt→ltb y x (omega arith)

-- as rules for `omega`'s list: each turns a hypothesis of ℤ into one of ℕ
pub le↓ : {a b : ℤ} → a ≤ℤ b → up a + dn b ≤ up b + dn a
le↓ {a} {b} h = le_parts a b h.le

pub lt↓ : {a b : ℤ} → a <ℤ b → up a + dn b < up b + dn a
lt↓ {a} {b} h = lt_parts a b h.lt

pub eq↓ : {a b : ℤ} → a ≡ b → up a + dn b ≡ up b + dn a
eq↓ {a} {b} e = eq_is (is_at a) (is_at b) e

pub le↑ : {a b : ℤ} → up a + dn b ≤ up b + dn a → a ≤ℤ b
le↑ {a} {b} h = record { le = parts_le a b h }

pub lt↑ : {a b : ℤ} → up a + dn b < up b + dn a → a <ℤ b
lt↑ {a} {b} h = record { lt = parts_lt a b h }

-- ---- a number as the difference of a pair
pub record E : Type 0 where
  pub p : ℕ
  pub n : ℕ

pub ev : E → ℤ
ev x = sub_ℕ x.p x.n

is_ev : (x : E) → Is (ev x) x.p x.n
unfolding ev
is_ev x = is_sub x.p x.n

infixl 6 ◌⊞◌
abbrev pub ◌⊞◌ : E → E → E
x ⊞ y = record { p = x.p + y.p; n = x.n + y.n }

abbrev pub ⊟ : E → E
⊟ x = record { p = x.n; n = x.p }

infixl 7 ◌⊠◌
abbrev pub ◌⊠◌ : E → E → E
x ⊠ y = record { p = x.p * y.p + x.n * y.n; n = x.p * y.n + x.n * y.p }

abbrev pub lit : ℕ → E
lit k = record { p = k; n = 0 }

abbrev pub minus : ℕ → E
minus k = record { p = 0; n = k }

by_ev : {a b : ℤ} {m n p q : ℕ} → Is a m n → Is b p q → m ≡ p → n ≡ q → a ≡ b
by_ev h k e f = is_eq h k (omega arith)

pub ev_add : (x y : E) → ev x +ℤ ev y ≡ ev (x ⊞ y)
ev_add x y = by_ev (is_add (is_ev x) (is_ev y)) (is_ev (x ⊞ y)) refl refl

pub ev_neg : (x : E) → neg_ℤ (ev x) ≡ ev (⊟ x)
ev_neg x = by_ev (is_neg (is_ev x)) (is_ev (⊟ x)) refl refl

pub ev_mul : (x y : E) → ev x *ℤ ev y ≡ ev (x ⊠ y)
ev_mul x y = by_ev (is_mul (is_ev x) (is_ev y)) (is_ev (x ⊠ y)) refl refl

pub ev_pos : (k : ℕ) → pos k ≡ ev (lit k)
ev_pos k = by_ev (is_at (pos k)) (is_ev (lit k)) refl refl

pub ev_negsuc : (k : ℕ) → negsuc k ≡ ev (minus (suc k))
ev_negsuc k = by_ev (is_at (negsuc k)) (is_ev (minus (suc k))) refl refl

pub ev_minus : (k : ℕ) → neg_ℤ (pos k) ≡ ev (minus k)
ev_minus k = by_ev (is_minus k) (is_ev (minus k)) refl refl

pub ev_eq : (x y : E) → (ev x ≡ ev y) ↔ (x.p + y.n ≡ y.p + x.n)
ev_eq x y = (λ e. eq_is (is_ev x) (is_ev y) e, λ e. is_eq (is_ev x) (is_ev y) e)

move_le : {a b : ℤ} {m n p q : ℕ} → Is a m n → Is b p q → up a + dn b ≤ up b + dn a → m + q ≤ p + n
move_le h k e = omega arith

back_le : {a b : ℤ} {m n p q : ℕ} → Is a m n → Is b p q → m + q ≤ p + n → up a + dn b ≤ up b + dn a
back_le h k e = omega arith

move_lt : {a b : ℤ} {m n p q : ℕ} → Is a m n → Is b p q → up a + dn b < up b + dn a → m + q < p + n
move_lt h k e = omega arith

back_lt : {a b : ℤ} {m n p q : ℕ} → Is a m n → Is b p q → m + q < p + n → up a + dn b < up b + dn a
back_lt h k e = omega arith

pub ev_le : (x y : E) → (ev x ≤ℤ ev y) ↔ (x.p + y.n ≤ y.p + x.n)
ev_le x y = (λ h. move_le (is_ev x) (is_ev y) (le↓ h), λ h. le↑ (back_le (is_ev x) (is_ev y) h))

pub ev_lt : (x y : E) → (ev x <ℤ ev y) ↔ (x.p + y.n < y.p + x.n)
ev_lt x y = (λ h. move_lt (is_ev x) (is_ev y) (lt↓ h), λ h. lt↑ (back_lt (is_ev x) (is_ev y) h))

abs_is : {a : ℤ} {m n : ℕ} → Is a m n → nat_abs a ≡ (m - n) + (n - m)
abs_is {a = pos k} h = omega arith
abs_is {a = negsuc k} h = omega arith

pub ev_abs : (x : E) → nat_abs (ev x) ≡ (x.p - x.n) + (x.n - x.p)
ev_abs x = abs_is (is_ev x)

fits_is : {a : ℤ} {m n : ℕ} → Is a m n → SFits w64 a → (m < n + 9223372036854775808) × (n ≤ m + 9223372036854775808)
fits_is {a = pos k} h f = omega arith
fits_is {a = negsuc k} h f = omega arith

is_fits : {a : ℤ} {m n : ℕ} → Is a m n → (m < n + 9223372036854775808) × (n ≤ m + 9223372036854775808) → SFits w64 a
is_fits {a = pos k} h f = omega arith
is_fits {a = negsuc k} h f = omega arith

pub ev_fits : (x : E) → SFits w64 (ev x) ↔ ((x.p < x.n + 9223372036854775808) × (x.n ≤ x.p + 9223372036854775808))
ev_fits x = (λ f. fits_is (is_ev x) f, λ f. is_fits (is_ev x) f)

-- ---- ranges
under_is : {a : ℤ} {m n k : ℕ} → Is a m n → Under a k → (m ≤ n + k) × (n ≤ m + k)
under_is {a = pos x} h f = omega arith
under_is {a = negsuc x} h f = omega arith

is_under : {a : ℤ} {m n k : ℕ} → Is a m n → (m ≤ n + k) × (n ≤ m + k) → Under a k
is_under {a = pos x} h f = omega arith
is_under {a = negsuc x} h f = omega arith

upto_is : {a : ℤ} {m n k : ℕ} → Is a m n → Upto a k → (n ≤ m) × (m ≤ n + k)
upto_is {k = k} h f = let l = le↓ f.low in let g = le↓ f.high in omega arith

low_is : {a : ℤ} {m n : ℕ} → Is a m n → n ≤ m → up (pos 0) + dn a ≤ up a + dn (pos 0)
low_is h l = omega arith

high_is : {a : ℤ} {m n : ℕ} (k : ℕ) → Is a m n → m ≤ n + k → up a + dn (pos k) ≤ up (pos k) + dn a
high_is k h l = omega arith

is_upto : {a : ℤ} {m n k : ℕ} → Is a m n → (n ≤ m) × (m ≤ n + k) → Upto a k
is_upto {k = k} h f = record { low = le↑ (low_is h f.0); high = le↑ (high_is k h f.1) }

pub ev_under : (x : E) (k : ℕ) → Under (ev x) k ↔ ((x.p ≤ x.n + k) × (x.n ≤ x.p + k))
ev_under x k = (λ f. under_is (is_ev x) f, λ f. is_under (is_ev x) f)

pub ev_upto : (x : E) (k : ℕ) → Upto (ev x) k ↔ ((x.n ≤ x.p) × (x.p ≤ x.n + k))
ev_upto x k = (λ f. upto_is (is_ev x) f, λ f. is_upto (is_ev x) f)

-- ---- the larger and the smaller of two
nle_parts : (a b : ℤ) → T (not (le_z a b)) → up b + dn a < up a + dn b
nle_parts (pos x) (pos y) t = omega (arith, nleb→lt x y t)
nle_parts (pos x) (negsuc y) t = omega arith
nle_parts (negsuc x) (pos y) t = absurd t
nle_parts (negsuc x) (negsuc y) t = omega (arith, nleb→lt y x t)

is_max : {a b : ℤ} {m n p q : ℕ} → Is a m n → Is b p q → Is (max_ℤ a b) (max (m + q) (p + n)) (n + q)
unfolding max_ℤ
is_max {a} {b} {m} {n} {p} {q} h k =
    cond_ind (le_z a b) b a (λ z. Is z (max (m + q) (p + n)) (n + q)) (λ t. let l = le_parts a b t in omega arith)
    (λ t. let l = nle_parts a b t in omega arith)

is_min : {a b : ℤ} {m n p q : ℕ} → Is a m n → Is b p q → Is (min_ℤ a b) (min (m + q) (p + n)) (n + q)
unfolding min_ℤ
is_min {a} {b} {m} {n} {p} {q} h k =
    cond_ind (le_z a b) a b (λ z. Is z (min (m + q) (p + n)) (n + q)) (λ t. let l = le_parts a b t in omega arith)
    (λ t. let l = nle_parts a b t in omega arith)

abbrev pub larger : E → E → E
larger x y = record { p = max (x.p + y.n) (y.p + x.n); n = x.n + y.n }

abbrev pub smaller : E → E → E
smaller x y = record { p = min (x.p + y.n) (y.p + x.n); n = x.n + y.n }

pub ev_max : (x y : E) → max_ℤ (ev x) (ev y) ≡ ev (larger x y)
ev_max x y = by_ev (is_max (is_ev x) (is_ev y)) (is_ev (larger x y)) refl refl

pub ev_min : (x y : E) → min_ℤ (ev x) (ev y) ≡ ev (smaller x y)
ev_min x y = by_ev (is_min (is_ev x) (is_ev y)) (is_ev (smaller x y)) refl refl

pub ruleset zr =
    (ev_max, ev_min, ev_add, ev_neg, ev_mul, ev_minus, ev_pos, ev_negsuc, ev_eq, ev_le, ev_lt, ev_abs, ev_fits, ev_under, ev_upto)

-- every number is such a difference, so what holds of all differences holds of all numbers
onto : (z : ℤ) → ev (record { p = up z; n = dn z }) ≡ z
onto z = is_eq (is_ev _) (is_at z) refl

pub all1 {ℓ} : (P : ℤ → Type ℓ) → ((x : E) → P (ev x)) → (a : ℤ) → P a
all1 P f a = subst P (onto a) (f _)

pub all2 {ℓ} : (P : ℤ → ℤ → Type ℓ) → ((x y : E) → P (ev x) (ev y)) → (a b : ℤ) → P a b
all2 P f a b = all1 (λ z. P z b) (λ x. all1 (λ z. P (ev x) z) (f x) b) a

pub all3 {ℓ} : (P : ℤ → ℤ → ℤ → Type ℓ) → ((x y z : E) → P (ev x) (ev y) (ev z)) → (a b c : ℤ) → P a b c
all3 P f a b c = all1 (λ z. P z b c) (λ x. all2 (λ y z. P (ev x) y z) (f x) b c) a

pub all4 {ℓ} : (P : ℤ → ℤ → ℤ → ℤ → Type ℓ) → ((x y z u : E) → P (ev x) (ev y) (ev z) (ev u)) → (a b c d : ℤ) → P a b c d
all4 P f a b c d = all1 (λ z. P z b c d) (λ x. all3 (λ y z u. P (ev x) y z u) (f x) b c d) a

pub all5 {ℓ} : (P : ℤ → ℤ → ℤ → ℤ → ℤ → Type ℓ) → ((x y z u v : E) → P (ev x) (ev y) (ev z) (ev u) (ev v)) → (a b c d e : ℤ) → P a b c d e
all5 P f a b c d e = all1 (λ z. P z b c d e) (λ x. all4 (λ y z u v. P (ev x) y z u v) (f x) b c d e) a

pub all6 {ℓ} : (P : ℤ → ℤ → ℤ → ℤ → ℤ → ℤ → Type ℓ) → ((x y z u v w : E) → P (ev x) (ev y) (ev z) (ev u) (ev v) (ev w)) →
    (a b c d e g : ℤ) → P a b c d e g
all6 P f a b c d e g = all1 (λ z. P z b c d e g) (λ x. all5 (λ y z u v w. P (ev x) y z u v w) (f x) b c d e g) a

-- ---- linear facts in place, where the numbers are no variables: `omega (arith, zo)` reads and proves orders and ranges of ℤ
pub under_hi : {z : ℤ} {k : ℕ} → Under z k → up z ≤ dn z + k
under_hi {z} h = (under_is (is_at z) h).0

pub under_lo : {z : ℤ} {k : ℕ} → Under z k → dn z ≤ up z + k
under_lo {z} h = (under_is (is_at z) h).1

pub eq↑ : {a b : ℤ} → up a + dn b ≡ up b + dn a → a ≡ b
eq↑ {a} {b} e = is_eq (is_at a) (is_at b) e

pub ruleset zo = (le↓, lt↓, eq↓, le↑, lt↑, eq↑, under_hi, under_lo)

-- ---- sizes
pub abs_minus : (k : ℕ) → nat_abs (neg_ℤ (pos k)) ≡ k
abs_minus zero = refl
abs_minus (suc k) = refl

pub abs_mul : (a b : ℤ) → nat_abs (a *ℤ b) ≡ nat_abs a * nat_abs b
abs_mul (pos x) (pos y) = refl
abs_mul (pos x) (negsuc y) = abs_minus (x * suc y)
abs_mul (negsuc x) (pos y) = abs_minus (suc x * y)
abs_mul (negsuc x) (negsuc y) = refl

pub abs_zero : (z : ℤ) → nat_abs z ≡ 0 → z ≡ pos 0
abs_zero = all1 _ (λ z. simp zr (omega arith))
