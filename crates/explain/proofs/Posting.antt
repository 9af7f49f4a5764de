-- A record posted to a member's heads, or not.
use mathlib.Core.Path.{◌≡◌, refl}
use mathlib.Core.List.{List, [], ◌∷◌}
use Prim.Native.Nat.{ℕ, zero, suc, ◌+◌}
use native.Mathlib.Nat.{le-add_right}
use native.Mathlib.Numerals.{add-one}
use lib.IntN.{ℤ}
use lib.ListN.{set}
use borrow.Author.Tests.{eq-eqb, ne_eqb}
use Rattle.whole.specs.Signed.{Under}
use Rattle.whole.proofs.Ranges.{◌u+◌, u_le, u_zero}
use Rattle.rules.specs.Record.{Hour, member_of}
use Rattle.rules.specs.Explanation.{head_at}
use Rattle.rules.specs.Inner.Posting.{head_with, heads_after}
use Rattle.explain.specs.Posted.{with_record}

-- one head replaced
set_under : (hs : List ℤ) (p k : ℕ) {v : ℤ} {K : ℕ} → Under v K → ((j : ℕ) → Under (head_at hs j) K) → Under (head_at (set hs p v) k) K
set_under [] p k u each = u_zero
set_under (x ∷ hs) zero zero u each = u
set_under (x ∷ hs) zero (suc k) u each = each (suc k)
set_under (x ∷ hs) (suc p) zero u each = each zero
set_under (x ∷ hs) (suc p) (suc k) u each = set_under hs p k u (λ j. each (suc j))

-- no head is larger afterwards than the grains allow
pub with_under : (hs : List ℤ) (p k : ℕ) {g : ℤ} {K G : ℕ} → ((j : ℕ) → Under (head_at hs j) K) → Under g G →
    Under (head_at (head_with hs p g) k) (K + G)
unfolding head_with
with_under hs p k {g} {K} {G} each u = set_under hs p k (each p u+ u) (λ j. u_le (each j) (le-add_right K G))

module _ (h : Hour) (m i : ℕ) where
  pub not_posted : (member_of h i ≡ m → ⊥) → heads_after h m i ≡ heads_after h m (i + 1)
  unfolding heads_after
  not_posted other = rw (add-one i, ne_eqb (member_of h i) m other) refl

  pub is_posted : {hs : List ℤ} → member_of h i ≡ m → hs ≡ heads_after h m i → with_record h i hs ≡ heads_after h m (i + 1)
  unfolding heads_after
  is_posted own before = rw (before, add-one i, eq-eqb (member_of h i) m own) refl
