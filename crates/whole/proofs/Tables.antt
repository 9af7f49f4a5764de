-- Two functions of a number that agree: compared entry by entry below n, and by a law past it.
use mathlib.Core.Path.{◌≡◌}
use Prim.Native.Nat.{ℕ, zero, suc, ◌≤◌, ◌<◌}
use native.Mathlib.Nat.{not-suc-le-zero}
use lib.Dec.{ltb}
use borrow.Author.Tests.{ltb-true, ltb-false}
use Rattle.whole.proofs.Tests.{split, last_or_below}

-- what holds of 0, .., n - 1, as a tuple
abbrev pub EachBelow : (ℕ → Type 0) → ℕ → Type 0
EachBelow P zero = Unit {0}
EachBelow P (suc n) = EachBelow P n × P n

pub at_each : (P : ℕ → Type 0) (n : ℕ) → EachBelow P n → (i : ℕ) → i < n → P i
at_each P zero e i l = absurd (not-suc-le-zero l)
at_each P (suc n) e i l = last_or_below i n l (λ k. rw k e.1) (λ k. at_each P n e.0 i k)

pub alike : {A : Type 0} (f g : ℕ → A) (n : ℕ) → EachBelow (λ i. f i ≡ g i) n → ((i : ℕ) → n ≤ i → f i ≡ g i) → (i : ℕ) → f i ≡ g i
alike f g n e past i = split (ltb i n) (λ t. at_each (λ i. f i ≡ g i) n e i (ltb-true i n t)) (λ t. past i (ltb-false i n t))
