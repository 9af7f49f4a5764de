-- What the machine computes with signed numbers of 64 bits, beside the numbers that are meant.
--     Mv r z k       r is z, and −k ≤ z ≤ k
--     _m+_ _m-_ _m*_         an operation, before it is stored
--     kept           what is read back of a stored result, which is the result since k is below 2 ^ 63
--     Num            an expression of the code, with all that: `at c.pre.a_in :* at0 c.pre.b-in`
--     fits, stored   of a `Num`: the need of the operation that makes it, and that what is stored is the number meant
--     element-fits   an element of an array fits
--     OneLess        what is computed of the size of any number below zero, also of the least, which no `Num` is
--     quotient, rest of any number by any natural: these are each a `Num`
use mathlib.Core.Path.{◌≡◌, refl, sym, ◌∙◌, ap, ap₂, subst}
use Prim.Native.Nat.{ℕ, zero, suc, ◌+◌, ◌-◌, ◌*◌, ◌<◌}
use mathlib.Core.Bool.{Bool, true, false, not, ◌&&◌}
use mathlib.Core.List.{List, [], ◌∷◌}
use native.Mathlib.Numerals.{add-one}
use native.Mathlib.Omega.{arith}
use lib.Dec.{T, leb, ltb, eqb, ltb→lt}
use lib.Signed.{◌≤ℤ◌, ◌<ℤ◌, lt_z, le_z, lt_z_yes, lt_z_no, quot_z, rem_z, non_neg}
use lib.IntN.{ℤ, pos, negsuc, nat_abs, ◌+ℤ◌, ◌-ℤ◌, ◌*ℤ◌}
use mir.Syntax.{w64}
use lib.ListN.{get_or}
use mir.Val.{Val, Fits, SFits, to_z, of_z}
use mir.ValLaws.{to_z-of_z, to_z_pos}
use mir.Facts.{and_yes}
use denote.Array.{each}
use denote.Shadow.{shadow}
use denote.Signed.{SInt}
use Rattle.whole.specs.Signed.{Under, Upto}
use borrow.Author.Tests.{ltb-true, le-ltb, eq-eqb, ne_eqb, eqb-true, eqb-false}
use Rattle.whole.proofs.Tests.{split, never}
use Rattle.whole.proofs.Linear.{zr, all1, abs_zero}
use Rattle.whole.proofs.Ranges.{◌u+◌, ◌u-◌, ◌u*◌, u_lit, u_upto, u_fits, u_more}
use Rattle.whole.proofs.Division.{quot_under, rem_under}

pub record Mv (r z : ℤ) (k : ℕ) : Type 0 where
  pub is : r ≡ z
  pub range : Under z k

infixl 6 ◌m+◌ ◌m-◌
infixl 7 ◌m*◌
pub ◌m+◌ : {r r' z z' : ℤ} {k k' : ℕ} → Mv r z k → Mv r' z' k' → Mv (r +ℤ r') (z +ℤ z') (k + k')
x m+ y = record { is = ap₂ (λ (a b : ℤ). a +ℤ b) x.is y.is; range = x.range u+ y.range }

pub ◌m-◌ : {r r' z z' : ℤ} {k k' : ℕ} → Mv r z k → Mv r' z' k' → Mv (r -ℤ r') (z -ℤ z') (k + k')
x m- y = record { is = ap₂ (λ (a b : ℤ). a -ℤ b) x.is y.is; range = x.range u- y.range }

pub ◌m*◌ : {r r' z z' : ℤ} {k k' : ℕ} → Mv r z k → Mv r' z' k' → Mv (r *ℤ r') (z *ℤ z') (k * k')
x m* y = record { is = ap₂ (λ (a b : ℤ). a *ℤ b) x.is y.is; range = x.range u* y.range }

pub lit : (z : ℤ) → Mv z z (nat_abs z)
lit z = record { is = refl; range = u_lit z }

pub m_fits : {r z : ℤ} {k : ℕ} → Mv r z k → T (ltb k 9223372036854775808) → SFits w64 r
m_fits x t = subst (SFits w64) (sym x.is) (u_fits x.range t)

pub kept : {r z : ℤ} {k : ℕ} → Mv r z k → T (ltb k 9223372036854775808) → Mv (to_z w64 (of_z w64 r)) z k
kept {r} x t = record { is = to_z-of_z w64 r (m_fits x t) ∙ x.is; range = x.range }

-- ---- an expression of the code
--     r        the machine's value, before it is stored
--     rd       what is read back of it by the operation that takes it
--     z        the number that is meant
--     k        a bound of its size
--     ok       a test that every step before it fits
pub record Num : Type 0 where
  pub r : ℤ
  pub rd : ℤ
  pub z : ℤ
  pub k : ℕ
  pub ok : Bool
  pub mv : T ok → Mv r z k
  pub rd_mv : T ok → T (ltb k 9223372036854775808) → Mv rd z k

abbrev pub small : ℕ → Bool
small k = ltb k 9223372036854775808

abbrev pub back : ℤ → ℤ
back r = to_z w64 (of_z w64 r)

abbrev pub good : Num → Bool
good x = x.ok && small x.k

pub read : (x : Num) → T (good x) → Mv x.rd x.z x.k
read x t = let b = and_yes x.ok (small x.k) t in x.rd_mv b.0 b.1

-- a literal; a parameter, an element or a field, by its range
abbrev pub # : ℤ → Num
# n = record { r = n; rd = n; z = n; k = nat_abs n; ok = true; mv = λ t. lit n; rd_mv = λ t u. lit n }

abbrev pub at : {z : ℤ} {k : ℕ} → Under z k → Num
at {z} {k} h =
    let m : Mv z z k = record { is = refl; range = h } in
    record { r = z; rd = back z; z = z; k = k; ok = true; mv = λ t. m; rd_mv = λ t u. kept m u }

abbrev pub at0 : {z : ℤ} {k : ℕ} → Upto z k → Num
at0 h = at (u_upto h)

-- a local that a loop or a branch has changed: e says what it is, as `to_z w64 sum ≡ z`
abbrev pub local : {r z : ℤ} {k : ℕ} → r ≡ z → Under z k → Num
local {r} {z} {k} e h =
    let m : Mv r z k = record { is = e; range = h } in
    record { r = r; rd = r; z = z; k = k; ok = true; mv = λ t. m; rd_mv = λ t u. m }

-- a call's result, or another value that is read back: e says what it is
abbrev pub result : {r z : ℤ} {k : ℕ} → r ≡ z → Under z k → Num
result {r} {z} {k} e h =
    let m : Mv r z k = record { is = e; range = h } in
    record { r = r; rd = back r; z = z; k = k; ok = true; mv = λ t. m; rd_mv = λ t u. kept m u }

-- an operation's result
abbrev pub made : {r z : ℤ} {k : ℕ} (ok : Bool) → (T ok → Mv r z k) → Num
made {r} {z} {k} ok m = record { r = r; rd = back r; z = z; k = k; ok = ok; mv = m; rd_mv = λ t u. kept (m t) u }

infixl 6 ◌:+◌ ◌:-◌
infixl 7 ◌:*◌
abbrev pub ◌:+◌ : Num → Num → Num
x :+ y = made (good x && good y) (λ t. let b = and_yes (good x) (good y) t in read x b.0 m+ read y b.1)

abbrev pub ◌:-◌ : Num → Num → Num
x :- y = made (good x && good y) (λ t. let b = and_yes (good x) (good y) t in read x b.0 m- read y b.1)

abbrev pub ◌:*◌ : Num → Num → Num
x :* y = made (good x && good y) (λ t. let b = and_yes (good x) (good y) t in read x b.0 m* read y b.1)

-- a quotient by a literal, toward zero
infixl 7 ◌:/◌
abbrev pub ◌:/◌ : Num → ℕ → Num
x :/ d = made (good x && ltb 0 d) (λ t. let b = and_yes (good x) (ltb 0 d) t in let m = read x b.0 in
    record { is = ap (λ (a : ℤ). quot_z a (pos d)) m.is; range = quot_under x.z x.k (ltb→lt 0 d b.1) m.range })

-- the remainder of that quotient
infixl 7 ◌:%◌
abbrev pub ◌:%◌ : Num → ℕ → Num
x :% d = made (good x && ltb 0 d) (λ t. let b = and_yes (good x) (ltb 0 d) t in
    record { is = ap (λ (a : ℤ). rem_z a (pos d)) (read x b.0).is; range = rem_under x.z (ltb→lt 0 d b.1) })

-- the need of an operation; the value that is read back; its range
pub fits : (x : Num) → T (good x) → SFits w64 x.r
fits x t = let b = and_yes x.ok (small x.k) t in m_fits (x.mv b.0) b.1

pub stored : (x : Num) → T (good x) → x.rd ≡ x.z
stored x t = (read x t).is

pub bound : (x : Num) → T x.ok → Under x.z x.k
bound x t = (x.mv t).range

-- ---- a test of two numbers: what its flag says of the numbers that are meant
pub lt_yes : (x y : Num) → T (good x) → T (good y) → lt_z x.rd y.rd ≡ true → x.z <ℤ y.z
lt_yes x y s t e =
    lt_z_yes (subst T (sym (ap₂ lt_z (sym (stored x s)) (sym (stored y t)) ∙ e)) tt)

pub lt_no : (x y : Num) → T (good x) → T (good y) → lt_z x.rd y.rd ≡ false → y.z ≤ℤ x.z
lt_no x y s t e =
    lt_z_no (subst (λ (b : Bool). T (not b)) (sym (ap₂ lt_z (sym (stored x s)) (sym (stored y t)) ∙ e)) tt)

-- of numbers that may be any i64: a test of two, and against 0
pub le_same : {a b : ℤ} → SFits w64 a → SFits w64 b → le_z a b ≡ le_z (back a) (back b)
le_same {a} {b} f g = sym (ap₂ le_z (to_z-of_z w64 a f) (to_z-of_z w64 b g))

pub below_0 : {z : ℤ} → SFits w64 z → lt_z (back z) (pos 0) ≡ true → z <ℤ pos 0
below_0 {z} f e = lt_z_yes (subst T (sym (ap (λ (x : ℤ). lt_z x (pos 0)) (sym (to_z-of_z w64 z f)) ∙ e)) tt)

pub from_0 : {z : ℤ} → SFits w64 z → lt_z (back z) (pos 0) ≡ false → pos 0 ≤ℤ z
from_0 {z} f e = lt_z_no (subst (λ (b : Bool). T (not b)) (sym (ap (λ (x : ℤ). lt_z x (pos 0)) (sym (to_z-of_z w64 z f)) ∙ e)) tt)

-- a number whose bits are 0
pub zero_bits : {z : ℤ} → SFits w64 z → of_z w64 z ≡ 0 → z ≡ pos 0
zero_bits {z} f e = sym (to_z-of_z w64 z f) ∙ ap (to_z w64) e

pub zero_test : (z : ℤ) → SFits w64 z → eqb (of_z w64 z) 0 ≡ eqb (nat_abs z) 0
zero_test z f = split (eqb (nat_abs z) 0)
    (λ t. eq-eqb (of_z w64 z) 0 (ap (of_z w64) (abs_zero z (eqb-true (nat_abs z) 0 t))) ∙ sym t)
    (λ u. ne_eqb (of_z w64 z) 0 (λ e. eqb-false (nat_abs z) 0 u (ap nat_abs (zero_bits f e))) ∙ sym u)

-- a fact of the number that is meant, as one of what is read back
pub told : (P : ℤ → Type 0) (x : Num) → T (good x) → P x.z → P x.rd
told P x t h = subst P (sym (stored x t)) h

-- a sum that is known to fit, of two numbers that fit: its need, and what is read back of it
pub sum_fits : {a b : ℤ} → SFits w64 a → SFits w64 b → SFits w64 (a +ℤ b) → SFits w64 (back a +ℤ back b)
sum_fits {a} {b} f g h = rw (to_z-of_z w64 a f, to_z-of_z w64 b g) h

pub sum_stored : {a b : ℤ} → SFits w64 a → SFits w64 b → SFits w64 (a +ℤ b) → back (back a +ℤ back b) ≡ a +ℤ b
sum_stored {a} {b} f g h = rw (to_z-of_z w64 a f, to_z-of_z w64 b g) (to_z-of_z w64 (a +ℤ b) h)

-- what a callee asks of an argument: its range
pub gives : (n : ℕ) (x : Num) → T (good x) → T (leb x.k n) → Under x.rd n
gives n x t l = told (λ y. Under y n) x t (u_more n (read x t).range l)

-- what `n as i64` reads back as
pub i64_is : {n : ℕ} → n < 9223372036854775808 → to_z w64 n ≡ pos n
i64_is {n} h = to_z_pos w64 n h

-- ---- the size of any signed number of 64 bits: below zero it is one more than −1 − z
pub read_back : {z : ℤ} → SFits w64 z → back z ≡ z
read_back {z} f = to_z-of_z w64 z f

pub record OneLess (z : ℤ) : Type 0 where
  pub less_fits : SFits w64 (negsuc 0 -ℤ back z)
  pub casts : T (non_neg (back (negsuc 0 -ℤ back z))) × Fits w64 (nat_abs (back (negsuc 0 -ℤ back z)))
  pub size_is : nat_abs (back (negsuc 0 -ℤ back z)) + 1 ≡ nat_abs z
  pub size_fits : Fits w64 (nat_abs z)

minus_one : (n : ℕ) → negsuc 0 -ℤ negsuc n ≡ pos n
minus_one n = rw (le-ltb (suc n) 1 (omega arith)) (ap pos last)
  where
    last : suc n - 1 ≡ n
    last = omega arith

pub one_less : (z : ℤ) → SFits w64 z → lt_z (back z) (pos 0) ≡ true → OneLess z
one_less (pos n) f t = absurd (let l : n < 0 = ltb-true n 0 (rw (read_back f) at t) in omega arith)
one_less (negsuc n) f t = record {
  less_fits = rw (read_back f, minus_one n) g;
  casts = rw less (tt, record { fits = omega (arith, f.sfits) });
  size_is = rw less (add-one n);
  size_fits = record { fits = omega (arith, f.sfits) };
}
  where
    g : SFits w64 (pos n)
    g = record { sfits = f.sfits }

    less : back (negsuc 0 -ℤ back (negsuc n)) ≡ pos n
    less = rw (read_back f, minus_one n, read_back g)

pub none_less : (z : ℤ) → SFits w64 z → lt_z (back z) (pos 0) ≡ false → T (non_neg (back z)) × Fits w64 (nat_abs (back z))
none_less (pos n) f t = rw (read_back f) (tt, record { fits = omega (arith, f.sfits) })
none_less (negsuc n) f t = never refl (rw (read_back f) at t)

-- ---- quotient and remainder of a number by a natural other than 0, each given by what is read back of it
pub any_under : (z : ℤ) → SFits w64 z → Under z 9223372036854775808
any_under = all1 _ (λ z. simp zr (omega arith))

abbrev pub quotient : {r s z : ℤ} {d k : ℕ} → r ≡ z → s ≡ pos d → Under (quot_z z (pos d)) k → Num
quotient p q u = result (ap₂ quot_z p q) u

abbrev pub rest : {r s z : ℤ} {d k : ℕ} → r ≡ z → s ≡ pos d → Under (rem_z z (pos d)) k → Num
rest p q u = result (ap₂ rem_z p q) u

-- ---- an array of signed numbers

-- each element fits; past the end there is 0
pub element_fits : (xs : List ℤ) (us : List Val) (i : ℕ) → shadow (each ℤ (SInt w64).own_val xs us) → SFits w64 (get_or xs i (pos 0))
element_fits [] us i p = u_fits (u_lit (pos 0)) tt
element_fits (x ∷ xs) [] i p = absurd p
element_fits (x ∷ xs) (u ∷ us) zero p = record { sfits = p.0.1 }
element_fits (x ∷ xs) (u ∷ us) (suc i) p = element_fits xs us i p.1
