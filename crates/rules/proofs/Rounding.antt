-- The definition of a charge and its second reading are one: what it computes is nearest, halves to the even cent, and nothing else is. What
-- follows of it: its sign, how large it is, and how code computes it. Document 01, "Charge in cents"; document 02, A8.
use mathlib.Core.Path.{◌≡◌, refl, sym, ◌∙◌, ap}
use mathlib.Core.Logic.{◌↔◌, ◌⊎◌, inl, inr}
use mathlib.Core.Bool.{true, false, and-false, or-true, ◌&&◌}
use Prim.Native.Nat.{ℕ, zero, suc, ◌+◌, ◌-◌, ◌*◌, ◌/◌, ◌%◌, ◌≤◌, ◌<◌, zero-le}
use native.Mathlib.Nat.{div-add-mod', div-eq_of_lt-le, mod-lt, mul-le-mul_right, zero-div, zero-mod}
use native.Mathlib.Omega.{arith}
use lib.Dec.{ltb, eqb}
use lib.IntN.{ℤ, pos, negsuc, neg_ℤ, nat_abs, neg_ℤ-+ℤ, ◌+ℤ◌, ◌-ℤ◌, ◌*ℤ◌}
use lib.Signed.{lt_z, quot_z, rem_z}
use borrow.Author.Tests.{ltb-true, ltb-false, lt-ltb, le-ltb, eqb-true, eqb-false}
use Rattle.whole.specs.Signed.{Under}
use Rattle.whole.proofs.Tests.{split, both, neither}
use Rattle.whole.proofs.Linear.{zr, all1, all2}
use Rattle.whole.proofs.Ranges.{abs_with_sign}
use Rattle.rules.specs.Charge.{grains_per_cent, is_odd, one_more, nearest_cent, cents_of, cents}
use Rattle.rules.specs.Explanation.{same_sign}
use Rattle.rules.specs.Promised.Rounding.{twice_off, Nearest, Rounding}

-- ---- the whole cents, or one more

odd_no : (n : ℕ) → is_odd n ≡ false → n % 2 ≡ 0
odd_no n e = omega (arith, eqb-false (n % 2) 1 e)

odd_yes : (n : ℕ) → is_odd n ≡ true → n % 2 ≡ 1
odd_yes n e = eqb-true (n % 2) 1 e

up_when : (parts whole left : ℕ) → one_more parts whole left ≡ true → parts < 2 * left + whole % 2
up_when parts whole left e = split (ltb parts (2 * left))
    (λ t. omega (arith, ltb-true parts (2 * left) t))
    (λ f. let b = both (eqb (2 * left) parts) (is_odd whole) (rw f at e) in
    omega (arith, eqb-true (2 * left) parts b.0, odd_yes whole b.1))

stays_when : (parts whole left : ℕ) → one_more parts whole left ≡ false → 2 * left + whole % 2 ≤ parts
stays_when parts whole left e =
    let n = neither (ltb parts (2 * left)) (eqb (2 * left) parts && is_odd whole) e in
    split (eqb (2 * left) parts)
    (λ t. omega (arith, eqb-true (2 * left) parts t, odd_no whole (rw t at n.1)))
    (λ f. omega (arith, ltb-false parts (2 * left) n.0, eqb-false (2 * left) parts f))

-- what follows in both cases follows of the rounded size
by_case : {X : Type 0} (parts size n : ℕ) → n ≡ nearest_cent parts size →
    (n ≡ size / parts → 2 * (size % parts) + size / parts % 2 ≤ parts → X) →
    (n ≡ size / parts + 1 → parts < 2 * (size % parts) + size / parts % 2 → X) → X
unfolding nearest_cent
by_case parts size n e stays up = split (one_more parts (size / parts) (size % parts))
    (λ t. up (rw t at e) (up_when parts (size / parts) (size % parts) t))
    (λ f. stays (rw f at e) (stays_when parts (size / parts) (size % parts) f))

-- ---- of an amount that isn't below zero

twice_off_lem : (parts n q : ℕ) → twice_off parts (pos n) (pos q) ≡ ((q * parts - n) + (n - q * parts)) * 2
twice_off_lem parts n q = simp zr (omega arith)

whole_is_nearest : (parts n q r : ℕ) → q * parts + r ≡ n → 2 * r + q % 2 ≤ parts → Nearest parts (pos n) (pos q)
whole_is_nearest parts n q r parted l =
    record { half_at_most = omega (arith, twice_off_lem parts n q); even_at_half = λ e. omega (arith, twice_off_lem parts n q) }

next_is_nearest : (parts n q r : ℕ) → q * parts + r ≡ n → r < parts → parts < 2 * r + q % 2 → Nearest parts (pos n) (pos (q + 1))
next_is_nearest parts n q r parted rest l =
    record { half_at_most = omega (arith, twice_off_lem parts n (q + 1)); even_at_half = λ e. omega (arith, twice_off_lem parts n (q + 1)) }

-- two that are as near stand next to each other, and one of them is odd
never_both : (parts n q : ℕ) → Nearest parts (pos n) (pos q) → Nearest parts (pos n) (pos (q + 1)) → 0 < parts → ⊥
never_both parts n q one two some-part =
    let low = rw (twice_off_lem parts n q) at one.half_at_most in
    let high = rw (twice_off_lem parts n (q + 1)) at two.half_at_most in
    let even = one.even_at_half (twice_off_lem parts n q ∙ omega arith) in
    let next = two.even_at_half (twice_off_lem parts n (q + 1) ∙ omega arith) in
    omega arith

never_two : (parts n q p : ℕ) → 0 < parts → q < p → Nearest parts (pos n) (pos q) → Nearest parts (pos n) (pos p) → ⊥
never_two parts n q p some-part less one two = split (eqb p (q + 1))
    (λ t. never_both parts n q one (rw (eqb-true p (q + 1) t) at two) some-part)
    (λ f.
    let far : q + 2 ≤ p = omega (arith, eqb-false p (q + 1) f) in
    omega (arith, mul-le-mul_right parts far, twice_off_lem parts n q, twice_off_lem parts n p, one.half_at_most, two.half_at_most))

module _ (parts : ℕ) (some-part : 0 < parts) (n : ℕ) where
  abbrev nearest : ℕ
  nearest = nearest_cent parts n

  computed_is_nearest : Nearest parts (pos n) (pos nearest)
  computed_is_nearest = by_case parts n nearest refl
      (λ is l. rw is (whole_is_nearest parts n (n / parts) (n % parts) (div-add-mod' n parts) l))
      (λ is l. rw is (next_is_nearest parts n (n / parts) (n % parts) (div-add-mod' n parts) (mod-lt n some-part) l))

  only_one : (p q : ℕ) → Nearest parts (pos n) (pos p) → Nearest parts (pos n) (pos q) → p ≡ q
  only_one p q one two = split (ltb p q)
      (λ t. absurd (never_two parts n p q some-part (ltb-true p q t) one two))
      (λ f. split (ltb q p)
      (λ t. absurd (never_two parts n q p some-part (ltb-true q p t) two one))
      (λ g. omega (arith, ltb-false p q f, ltb-false q p g)))

  none_below : {X : Type 0} (k : ℕ) → Nearest parts (pos n) (negsuc k) → X
  none_below k near = absurd (too_far near.half_at_most)
    where
      too_far : twice_off parts (pos n) (negsuc k) ≤ parts → ⊥
      too_far = simp zr (omega arith)

  from_zero : (z : ℤ) → (z ≡ pos nearest) ↔ Nearest parts (pos n) z
  from_zero (pos q) = (λ e. rw e computed_is_nearest, λ near. ap pos (only_one q nearest near computed_is_nearest))
  from_zero (negsuc k) = (λ e. absurd (never_negative e), none_below k)
    where
      never_negative : {m : ℕ} → negsuc k ≡ pos m → ⊥
      never_negative e = let z : ◌≡◌ {A = ℕ} 0 1 = cc in omega arith

-- ---- and of one that is: both turned round

turned_off : (a z : ℤ) (parts : ℕ) → twice_off parts (neg_ℤ a) (neg_ℤ z) ≡ twice_off parts a z
turned_off = all2 _ (λ a z. simp zr (omega arith))

turned_size : (z : ℤ) → nat_abs (neg_ℤ z) ≡ nat_abs z
turned_size = all1 _ (λ z. simp zr (omega arith))

twice_turned : (z : ℤ) → neg_ℤ (neg_ℤ z) ≡ z
twice_turned = all1 _ (λ z. simp zr (omega arith))

turned : (parts : ℕ) (a z : ℤ) → Nearest parts a z → Nearest parts (neg_ℤ a) (neg_ℤ z)
turned parts a z near = record {
  half_at_most = rw (turned_off a z parts) near.half_at_most;
  even_at_half = λ e. rw (turned_size z) (near.even_at_half (sym (turned_off a z parts) ∙ e));
}

every_unit : (parts : ℕ) → 0 < parts → (amount whole : ℤ) →
    (whole ≡ cents_of parts amount) ↔ Nearest parts amount whole
every_unit parts some-part (pos n) z = from_zero parts some-part n z
every_unit parts some-part (negsuc n) z = let above = from_zero parts some-part (suc n) (neg_ℤ z) in (
  λ e. rw twice_turned at (turned parts (pos (suc n)) (neg_ℤ z) (above.0 (ap neg_ℤ e ∙ twice_turned _))),
  λ near. sym (twice_turned z) ∙ ap neg_ℤ (above.1 (turned parts (negsuc n) z near)),
)

charged : (amount whole : ℤ) → (whole ≡ cents amount) ↔ Nearest grains_per_cent amount whole
unfolding cents
charged amount whole = every_unit grains_per_cent (omega arith) amount whole

-- ---- its sign

nothing_rounded : (parts : ℕ) → nearest_cent parts 0 ≡ 0
unfolding nearest_cent
nothing_rounded parts = rw (zero-div parts, zero-mod parts, le-ltb parts 0 zero-le, and-false (eqb 0 parts))

-- 0, or the sign of the amount
pub by_sign : {X : Type 0} (parts : ℕ) (g : ℤ) → (cents_of parts g ≡ pos 0 → X) →
    (lt_z (pos 0) g ≡ true → lt_z (pos 0) (cents_of parts g) ≡ true → X) → (lt_z g (pos 0) ≡ true → lt_z (cents_of parts g) (pos 0) ≡ true → X) → X
by_sign parts (pos zero) none above below = none (ap pos (nothing_rounded parts))
by_sign {X} parts (pos (suc u)) none above below = one (nearest_cent parts (suc u)) refl
  where
    one : (n : ℕ) → nearest_cent parts (suc u) ≡ n → X
    one zero e = none (ap pos e)
    one (suc n) e = above (lt-ltb 0 (suc u) (omega arith)) (rw e (lt-ltb 0 (suc n) (omega arith)))
by_sign {X} parts (negsuc u) none above below = one (nearest_cent parts (suc u)) refl
  where
    one : (n : ℕ) → nearest_cent parts (suc u) ≡ n → X
    one zero e = none (rw e)
    one (suc n) e = below refl (rw e)

keeps_sign : (parts : ℕ) (amount : ℤ) → (cents_of parts amount ≡ pos 0) ⊎ (same_sign amount (cents_of parts amount) ≡ true)
unfolding same_sign
keeps_sign parts amount = by_sign parts amount inl (λ a e. inr (rw (a, e))) (λ b e. inr (rw (b, e) (or-true (lt_z (pos 0) amount && lt_z (pos 0) (cents_of parts amount)))))

pub rounding : Rounding
rounding = record { every_unit = every_unit; charged = charged; keeps_sign = keeps_sign }

-- ---- how large it is

off_by_half : (parts : ℕ) → 0 < parts → (amount : ℤ) → twice_off parts amount (cents_of parts amount) ≤ parts
off_by_half parts some-part amount = ((every_unit parts some-part amount (cents_of parts amount)).0 refl).half_at_most

size_by_half : (parts : ℕ) → 0 < parts → (amount : ℤ) → nat_abs (cents_of parts amount) * parts * 2 ≤ nat_abs amount * 2 + parts
size_by_half parts some-part amount = let n : ℕ = nat_abs amount in
    rw (abs_with_sign amount (nearest_cent parts n))
    (omega (arith, twice_off_lem parts n (nearest_cent parts n), (computed_is_nearest parts some-part n).half_at_most))

-- An amount of at most so many cents is rounded to at most so many.
pub cents_under : (parts most : ℕ) → 0 < parts → (amount : ℤ) → Under amount (most * parts) → Under (cents_of parts amount) most
cents_under parts most some-part amount u = record { under = not_above (nat_abs (cents_of parts amount)) (size_by_half parts some-part amount) }
  where
    not_above : (n : ℕ) → n * parts * 2 ≤ nat_abs amount * 2 + parts → n ≤ most
    not_above n l = split (ltb most n)
        (λ t. let more : most + 1 ≤ n = omega (arith, ltb-true most n t) in absurd (omega (arith, u.under, mul-le-mul_right parts more)))
        (λ f. ltb-false most n f)

-- Half a cent is 5,000,000 grains.
pub half_cent : (g : ℤ) → Under (cents g *ℤ pos 10000000 -ℤ g) 5000000
unfolding cents
half_cent g = record { under = omega (arith, off_by_half 10000000 (omega arith) g) }

-- A charge in grains is at most half a cent larger in size than what it is rounded from.
pub half_a_cent_more : (g : ℤ) → nat_abs (cents g) * 10000000 ≤ nat_abs g + 5000000
unfolding cents
half_a_cent_more g = omega (arith, size_by_half 10000000 (omega arith) g)

-- ---- how code computes it, for a cent of 2 × h parts: what is left, and one more behind an odd number, holds h + 1 once or not at all

by_arithmetic : (h size : ℕ) → 0 < h →
    nearest_cent (2 * h) size ≡ size / (2 * h) + (size % (2 * h) + size / (2 * h) % 2) / (h + 1)
by_arithmetic h size p = by_case (2 * h) size (nearest_cent (2 * h) size) refl
    (λ is l. is ∙ rw (quotient_is 0 (omega arith) (omega arith)) (omega arith))
    (λ is l. is ∙ rw (quotient_is 1 (omega arith) (omega (arith, mod-lt size two))))
  where
    left : ℕ
    left = size % (2 * h) + size / (2 * h) % 2

    two : 0 < 2 * h
    two = omega arith

    quotient_is : (n : ℕ) → n * (h + 1) ≤ left → left < (n + 1) * (h + 1) → left / (h + 1) ≡ n
    quotient_is n low high = div-eq_of_lt-le (h + 1) low high

quot_minus : (k d : ℕ) → quot_z (neg_ℤ (pos k)) (pos d) ≡ neg_ℤ (pos (k / d))
quot_minus zero d = rw (zero-div d)
quot_minus (suc k) d = refl

rem_minus : (k d : ℕ) → rem_z (neg_ℤ (pos k)) (pos d) ≡ neg_ℤ (pos (k % d))
rem_minus zero d = rw (zero-mod d)
rem_minus (suc k) d = refl

-- the same with the quotients and remainders of signed numbers, which go toward zero
pub by_quotients : (h : ℕ) (z : ℤ) → 0 < h →
    quot_z z (pos (2 * h)) +ℤ quot_z (rem_z z (pos (2 * h)) +ℤ rem_z (quot_z z (pos (2 * h))) (pos 2)) (pos (h + 1)) ≡ cents_of (2 * h) z
by_quotients h (pos n) p = ap pos (sym (by_arithmetic h n p))
by_quotients h (negsuc u) p = let n : ℕ = suc u in let d : ℕ = 2 * h in
    rw (
      rem_minus (n / d) 2,
      sym (neg_ℤ-+ℤ (pos (n % d)) (pos (n / d % 2))),
      quot_minus (n % d + n / d % 2) (h + 1),
      sym (neg_ℤ-+ℤ (pos (n / d)) (pos ((n % d + n / d % 2) / (h + 1)))),
      by_arithmetic h n p,
    )
