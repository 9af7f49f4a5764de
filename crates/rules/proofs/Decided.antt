-- The head that decided: it is the one that is asked for, a charge other than zero always has one, and a charge of zero none.
-- Document 02, A5.
use mathlib.Core.Path.{◌≡◌, refl, ap, subst}
use mathlib.Core.Logic.{◌↔◌}
use mathlib.Core.Bool.{true, false, ◌&&◌, and-false}
use Rattle.std.specs.Prelude.{Option, None, Some}
use mathlib.Core.List.{List}
use Prim.Native.Nat.{ℕ, zero, suc, ◌<◌}
use native.Mathlib.Omega.{arith}
use lib.Dec.{ltb, eqb}
use lib.IntN.{ℤ, pos, negsuc, nat_abs, ◌+ℤ◌}
use lib.Signed.{lt_z, ◌≤ℤ◌, lt_z_yes, lt_z_no, clash_ℤ}
use borrow.Author.Tests.{ltb-true, ltb-false, eqb-true, eqb-false}
use Rattle.whole.specs.Below.{total_below}
use Rattle.whole.proofs.Tests.{split, never, neither}
use Rattle.whole.proofs.Linear.{zr, all5, abs_zero}
use Rattle.rules.specs.Charge.{grains_per_cent, cents}
use Rattle.rules.specs.Explanation.{head_at, same_sign, decided_by}
use Rattle.rules.specs.Promised.Deciding.{Decides}
use Rattle.rules.proofs.Rounding.{by_sign}
use Rattle.rules.proofs.Shares.{found, none_waits}

-- ---- signs

above_only : (y z : ℤ) → lt_z (pos 0) y ≡ true → same_sign y z ≡ false → z ≤ℤ pos 0
unfolding same_sign
above_only y z above e = lt_z_no (rw (neither (lt_z (pos 0) z) _ (rw above at e)).0 tt)

below_only : (y z : ℤ) → lt_z y (pos 0) ≡ true → same_sign y z ≡ false → pos 0 ≤ℤ z
unfolding same_sign
below_only y z below e = lt_z_no (rw (rw below at (neither (lt_z (pos 0) y && lt_z (pos 0) z) _ e).1) tt)

zero_has_none : (z : ℤ) → same_sign (pos 0) z ≡ false
unfolding same_sign
zero_has_none z = refl

-- a number that has a sign has a size
pub sign_has_size : (y z : ℤ) → same_sign y z ≡ true → 0 < nat_abs z
unfolding same_sign
sign_has_size y (pos zero) e = never e (rw (and-false (lt_z (pos 0) y), and-false (lt_z y (pos 0))) refl)
sign_has_size y (pos (suc n)) e = omega arith
sign_has_size y (negsuc n) e = omega arith

-- five numbers of which none is above zero, or none below
none_above : (a b c d e : ℤ) → a ≤ℤ pos 0 → b ≤ℤ pos 0 → c ≤ℤ pos 0 → d ≤ℤ pos 0 → e ≤ℤ pos 0 →
    (pos 0 +ℤ a +ℤ b +ℤ c +ℤ d +ℤ e) ≤ℤ pos 0
none_above = all5 _ (λ a b c d e. simp zr (omega arith))

none_below_zero : (a b c d e : ℤ) → pos 0 ≤ℤ a → pos 0 ≤ℤ b → pos 0 ≤ℤ c → pos 0 ≤ℤ d → pos 0 ≤ℤ e →
    pos 0 ≤ℤ (pos 0 +ℤ a +ℤ b +ℤ c +ℤ d +ℤ e)
none_below_zero = all5 _ (λ a b c d e. simp zr (omega arith))

-- ---- the head that decided

module _ (charge : ℤ) (hs : List ℤ) where
  pub named_decides : (k : ℕ) → decided_by charge hs ≡ Some k → Decides charge hs k
  unfolding decided_by
  named_decides k e = let f = found (λ k. nat_abs (head_at hs k)) (λ k. same_sign charge (head_at hs k)) 5 k e in
      record { one_of_five = f.there; sign_is = f.waiting; largest = f.largest; first = f.first }

  none_has_sign : decided_by charge hs ≡ None → (k : ℕ) → k < 5 → same_sign charge (head_at hs k) ≡ false
  unfolding decided_by
  none_has_sign = none_waits (λ k. nat_abs (head_at hs k)) (λ k. same_sign charge (head_at hs k)) 5

  -- two heads that decide are as large, and neither stands before the other
  pub one_decides : (j k : ℕ) → Decides charge hs j → Decides charge hs k → j ≡ k
  one_decides j k a b =
      let alike = b.largest j a.one_of_five a.sign_is in
      split (ltb j k)
      (λ t. absurd (omega (arith, b.first j (ltb-true j k t) a.sign_is, a.largest k b.one_of_five b.sign_is)))
      (λ f. split (ltb k j)
      (λ t. absurd (omega (arith, a.first k (ltb-true k j t) b.sign_is)))
      (λ g. omega (arith, ltb-false j k f, ltb-false k j g)))

  -- The head that decided is named, and no other.
  pub decides : (k : ℕ) → (decided_by charge hs ≡ Some k) ↔ Decides charge hs k
  decides k = (named_decides k, λ d. named (decided_by charge hs) refl d)
    where
      named : (o : Option ℕ) → decided_by charge hs ≡ o → Decides charge hs k → o ≡ Some k
      named None e d = never d.sign_is (none_has_sign e k d.one_of_five)
      named (Some j) e d = ap Some (one_decides j k (named_decides j e) d)

-- no head of its sign, and a charge of zero
either_one : (o : Option ℕ) → (o ≡ None → ⊥) → (k : ℕ) × (o ≡ Some k)
either_one None n = absurd (n refl)
either_one (Some k) n = (k, refl)

module _ (hs : List ℤ) (amount : ℤ) (add_up : total_below (head_at hs) 5 ≡ amount) where
  -- if no head had the amount's sign, their sum would not have it either
  some_head : (cents amount ≡ pos 0 → ⊥) → decided_by (cents amount) hs ≡ None → ⊥
  unfolding total_below cents
  some_head other e =
      let without = none_has_sign (cents amount) hs e in
      by_sign grains_per_cent amount (λ z. absurd (other z))
      (λ more above.
      let at : (k : ℕ) → k < 5 → head_at hs k ≤ℤ pos 0 = λ k l. above_only (cents amount) (head_at hs k) above (without k l) in
      clash_ℤ (lt_z_yes (rw more tt)) (subst (λ (z : ℤ). z ≤ℤ pos 0) add_up
      (none_above _ _ _ _ _ (at 0 (omega arith)) (at 1 (omega arith)) (at 2 (omega arith)) (at 3 (omega arith)) (at 4 (omega arith)))))
      (λ less below.
      let at : (k : ℕ) → k < 5 → pos 0 ≤ℤ head_at hs k = λ k l. below_only (cents amount) (head_at hs k) below (without k l) in
      clash_ℤ (lt_z_yes (rw less tt)) (subst (λ (z : ℤ). pos 0 ≤ℤ z) add_up
      (none_below_zero _ _ _ _ _ (at 0 (omega arith)) (at 1 (omega arith)) (at 2 (omega arith)) (at 3 (omega arith)) (at 4 (omega arith)))))

  -- A charge other than zero always has a head that decided.
  pub always_one : (cents amount ≡ pos 0 → ⊥) → (k : ℕ) × (decided_by (cents amount) hs ≡ Some k)
  always_one other = either_one (decided_by (cents amount) hs) (some_head other)

  -- None decided exactly where the charge is zero.
  pub none_for_zero : (decided_by (cents amount) hs ≡ None) ↔ (cents amount ≡ pos 0)
  none_for_zero = (
    λ e. split (eqb (nat_abs (cents amount)) 0) (λ t. abs_zero (cents amount) (eqb-true _ _ t))
        (λ t. absurd (some_head (λ z. eqb-false _ _ t (ap nat_abs z)) e)),
    λ z. rw z (nobody_waits (decided_by (pos 0) hs) (named_decides (pos 0) hs)),
  )
    where
      nobody_waits : (o : Option ℕ) → ((k : ℕ) → o ≡ Some k → Decides (pos 0) hs k) → o ≡ None
      nobody_waits None d = refl
      nobody_waits (Some k) d = never (d k refl).sign_is (zero_has_none (head_at hs k))
