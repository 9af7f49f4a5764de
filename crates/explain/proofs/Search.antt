-- A turn of the search for the head that decided: a head takes the lead, or the lead stays.
use mathlib.Core.Path.{◌≡◌, refl, ◌∙◌}
use mathlib.Core.Bool.{Bool, true, false, cond}
use Rattle.std.specs.Prelude.{Option, None, Some}
use mathlib.Core.List.{List}
use Prim.Native.Nat.{ℕ, ◌+◌, ◌≤◌, ◌<◌}
use native.Mathlib.Numerals.{add-one}
use native.Mathlib.Omega.{arith}
use lib.IntN.{ℤ, nat_abs}
use borrow.Author.Tests.{lt-ltb, le-ltb}
use Rattle.rules.specs.Share.{better, first_largest}
use Rattle.rules.specs.Explanation.{head_at, same_sign}
use Rattle.rules.proofs.Decided.{sign_has_size}

abbrev pub size_at : List ℤ → Option ℕ → ℕ
size_at heads None = 0
size_at heads (Some k) = nat_abs (head_at heads k)

-- of the heads passed the first largest with the charge's sign leads, with its size
pub record Leading (heads : List ℤ) (charge : ℤ) (passed : ℕ) (best : Option ℕ) (most : ℕ) : Type 0 where
  pub best_is : best ≡ first_largest (λ k. nat_abs (head_at heads k)) (λ k. same_sign charge (head_at heads k)) passed
  pub most_is : most ≡ size_at heads best

module _ (hs : List ℤ) (C : ℤ) where
  abbrev size : ℕ → ℕ
  size k = nat_abs (head_at hs k)

  abbrev waits : ℕ → Bool
  waits k = same_sign C (head_at hs k)

  pub none_leads : Leading hs C 0 None 0
  unfolding first_largest
  none_leads = record { best_is = refl; most_is = refl }

  overtaken : (o : Option ℕ) (k : ℕ) → size_at hs o < size k → Some k ≡ better size o k
  unfolding better
  overtaken None k l = refl
  overtaken (Some b) k l = rw (lt-ltb (size b) (size k) l) refl

  unbeaten : (o : Option ℕ) (k : ℕ) → waits k ≡ true → size k ≤ size_at hs o → o ≡ better size o k
  unfolding better
  unbeaten None k t l = absurd (omega (arith, sign_has_size C (head_at hs k) t))
  unbeaten (Some b) k t l = rw (le-ltb (size b) (size k) l) refl

  module _ {k most : ℕ} {best : Option ℕ} (led : Leading hs C k best most) where
    -- the lead once head k is passed too
    next_lead : cond (waits k) (better size best k) best ≡ first_largest size waits (k + 1)
    unfolding first_largest
    next_lead = rw (led.best_is, add-one k) refl

    pub takes_lead : waits k ≡ true → most < size k → Leading hs C (k + 1) (Some k) (size k)
    takes_lead t l = record {
      best_is = overtaken best k (omega (arith, led.most_is)) ∙ (rw t at next_lead);
      most_is = refl;
    }

    pub keeps_lead : waits k ≡ true → size k ≤ most → Leading hs C (k + 1) best most
    keeps_lead t l = record {
      best_is = unbeaten best k t (omega (arith, led.most_is)) ∙ (rw t at next_lead);
      most_is = led.most_is;
    }

    pub passed_over : waits k ≡ false → Leading hs C (k + 1) best most
    passed_over f = record { best_is = rw f at next_lead; most_is = led.most_is }
