-- Laws of totals, the sums of the signed numbers f 0, .., f (n - 1): linear, exchanged, picked, bounded; and of a size with a sign.
use mathlib.Core.Path.{◌≡◌, refl, sym, ◌∙◌, ap, ap₂, subst}
use mathlib.Core.Bool.{Bool, true, false, cond}
use Prim.Native.Nat.{ℕ, zero, suc, ◌+◌, ◌*◌, ◌≤◌, ◌<◌, zero-le}
use native.Mathlib.Nat.{not-suc-le-zero}
use native.Mathlib.Numerals.{add-one}
use native.Mathlib.Omega.{arith}
use lib.Dec.{eqb}
use lib.IntN.{ℤ, pos, negsuc, neg_ℤ, nat_abs, +ℤ_idl, +ℤ_idr, *ℤ-zero, *ℤ_comm, neg_ℤ-+ℤ, ◌+ℤ◌, ◌-ℤ◌, ◌*ℤ◌}
use borrow.Author.Tests.{eqb-true, eqb-false, ne_eqb}
use Rattle.whole.specs.Below.{sum_below, total_below}
use Rattle.whole.specs.Signed.{Under, with_sign_of}
use Rattle.whole.proofs.Tests.{split}
use Rattle.whole.proofs.Linear.{zr, all3, all4}
use Rattle.whole.proofs.Ranges.{◌u+◌}

-- a number is added, or not
pub added_if : (b : Bool) (x e : ℤ) → cond b (x +ℤ e) x ≡ x +ℤ cond b e (pos 0)
added_if true x e = refl
added_if false x e = sym (+ℤ_idr x)

pub total_ext : (f g : ℕ → ℤ) (n : ℕ) → ((i : ℕ) → i < n → f i ≡ g i) → total_below f n ≡ total_below g n
unfolding total_below
total_ext f g zero e = refl
total_ext f g (suc n) e = ap₂ (λ (a b : ℤ). a +ℤ b) (total_ext f g n (λ i h. e i (omega arith))) (e n (omega arith))

-- ---- as a loop adds up

pub total_none : (f : ℕ → ℤ) → total_below f 0 ≡ pos 0
unfolding total_below
total_none f = refl

pub total_add_one : (f : ℕ → ℤ) (n : ℕ) → total_below f (n + 1) ≡ total_below f n +ℤ f n
unfolding total_below
total_add_one f n = ap (total_below f) (add-one n)

-- ---- linear

regroup : (a b c d : ℤ) → (a +ℤ b) +ℤ (c +ℤ d) ≡ (a +ℤ c) +ℤ (b +ℤ d)
regroup = all4 _ (λ a b c d. simp zr (omega arith))

dist : (k a b : ℤ) → k *ℤ a +ℤ k *ℤ b ≡ k *ℤ (a +ℤ b)
dist = all3 _ (λ k a b. simp zr (omega arith))

pub total_add : (f g : ℕ → ℤ) (n : ℕ) → total_below (λ i. f i +ℤ g i) n ≡ total_below f n +ℤ total_below g n
unfolding total_below
total_add f g zero = refl
total_add f g (suc n) = ap (λ (x : ℤ). x +ℤ (f n +ℤ g n)) (total_add f g n) ∙ regroup (total_below f n) (total_below g n) (f n) (g n)

pub total_neg : (f : ℕ → ℤ) (n : ℕ) → total_below (λ i. neg_ℤ (f i)) n ≡ neg_ℤ (total_below f n)
unfolding total_below
total_neg f zero = refl
total_neg f (suc n) = ap (λ (x : ℤ). x +ℤ neg_ℤ (f n)) (total_neg f n) ∙ sym (neg_ℤ-+ℤ (total_below f n) (f n))

pub total_sub : (f g : ℕ → ℤ) (n : ℕ) → total_below (λ i. f i -ℤ g i) n ≡ total_below f n -ℤ total_below g n
total_sub f g n = total_add f (λ i. neg_ℤ (g i)) n ∙ ap (λ (x : ℤ). total_below f n +ℤ x) (total_neg g n)

pub total_mul : (k : ℤ) (f : ℕ → ℤ) (n : ℕ) → total_below (λ i. k *ℤ f i) n ≡ k *ℤ total_below f n
unfolding total_below
total_mul k f zero = sym (*ℤ-zero k)
total_mul k f (suc n) = ap (λ (x : ℤ). x +ℤ k *ℤ f n) (total_mul k f n) ∙ dist k (total_below f n) (f n)

pub total_times : (f : ℕ → ℤ) (k : ℤ) (n : ℕ) → total_below (λ i. f i *ℤ k) n ≡ total_below f n *ℤ k
total_times f k n = total_ext _ _ n (λ i l. *ℤ_comm (f i) k) ∙ total_mul k f n ∙ *ℤ_comm k (total_below f n)

pub total_zero : (n : ℕ) → total_below (λ i. pos 0) n ≡ pos 0
unfolding total_below
total_zero zero = refl
total_zero (suc n) = rw (total_zero n)

-- ---- exchanged and picked

pub total_swap : (f : ℕ → ℕ → ℤ) (n m : ℕ) → total_below (λ i. total_below (f i) m) n ≡ total_below (λ a. total_below (λ i. f i a) n) m
unfolding total_below
total_swap f zero m = sym (total_zero m)
total_swap f (suc n) m =
    ap (λ (x : ℤ). x +ℤ total_below (f n) m) (total_swap f n m) ∙ sym (total_add (λ a. total_below (λ i. f i a) n) (f n) m)

-- of the terms of which only that at x counts, none below n, or it alone
pub total_past : (f : ℕ → ℤ) (n x : ℕ) → n ≤ x → total_below (λ a. cond (eqb x a) (f a) (pos 0)) n ≡ pos 0
total_past f n x h = total_ext _ _ n (λ a l. rw (ne_eqb x a (λ e. omega arith))) ∙ total_zero n

pub total_pick : (f : ℕ → ℤ) (n x : ℕ) → x < n → total_below (λ a. cond (eqb x a) (f a) (pos 0)) n ≡ f x
unfolding total_below
total_pick f zero x h = absurd (not-suc-le-zero h)
total_pick f (suc n) x h = split (eqb x n)
    (λ e. let d : x ≡ n = eqb-true x n e in rw (e, total_past f n x (omega arith), d) (+ℤ_idl (f n)))
    (λ e. rw (e, total_pick f n x (omega (arith, eqb-false x n e))) (+ℤ_idr (f x)))

-- ---- bounded

-- each term within a bound of its own, or all within one
pub total_within : (f : ℕ → ℤ) (g : ℕ → ℕ) (n : ℕ) → ((i : ℕ) → i < n → Under (f i) (g i)) → Under (total_below f n) (sum_below g n)
unfolding total_below sum_below
total_within f g zero h = record { under = zero-le }
total_within f g (suc n) h = total_within f g n (λ i l. h i (omega arith)) u+ h n (omega arith)

pub total_under : (f : ℕ → ℤ) (k n : ℕ) → ((i : ℕ) → i < n → Under (f i) k) → Under (total_below f n) (n * k)
unfolding total_below
total_under f k zero h = record { under = zero-le }
total_under f k (suc n) h =
    subst (Under (total_below f n +ℤ f n)) (omega arith) (total_under f k n (λ i l. h i (omega arith)) u+ h n (omega arith))

-- ---- of naturals, and of sizes with one sign

pub total_pos : (f : ℕ → ℕ) (n : ℕ) → total_below (λ i. pos (f i)) n ≡ pos (sum_below f n)
unfolding total_below sum_below
total_pos f zero = refl
total_pos f (suc n) = rw (total_pos f n)

pub total_with_sign : (z : ℤ) (f : ℕ → ℕ) (n : ℕ) → total_below (λ i. with_sign_of z (f i)) n ≡ with_sign_of z (sum_below f n)
total_with_sign (pos u) f n = total_pos f n
total_with_sign (negsuc u) f n = total_neg (λ i. pos (f i)) n ∙ ap neg_ℤ (total_pos f n)

pub own_sign : (z : ℤ) → with_sign_of z (nat_abs z) ≡ z
own_sign (pos u) = refl
own_sign (negsuc u) = refl

pub sign_of_zero : (z : ℤ) → with_sign_of z 0 ≡ pos 0
sign_of_zero (pos u) = refl
sign_of_zero (negsuc u) = refl
