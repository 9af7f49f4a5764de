-- Lines of members one after the other, whatever a line says, and the numbers that stand in them.
use mathlib.Core.Path.{◌≡◌, refl}
use mathlib.Core.List.{List}
use Prim.Native.Nat.{ℕ, zero, suc, ◌<◌}
use native.Mathlib.Omega.{arith}
use mir.Syntax.{w64}
use mir.Val.{to_z, of_z}
use lib.IntN.{ℤ, pos}
use lib.ListN.{get_or}
use Rattle.whole.proofs.Machine.{read_back}
use Rattle.whole.proofs.Ranges.{u_fits}
use Rattle.rules.specs.Statement.{member_lines}
use Rattle.bymember.specs.Charged.{Bounded}

module _ (line : ℕ → List ℕ) where
  pub same_lines : (other : ℕ → List ℕ) (n : ℕ) → ((m : ℕ) → m < n → line m ≡ other m) → member_lines line n ≡ member_lines other n
  unfolding member_lines
  same_lines other zero each = refl
  same_lines other (suc n) each = rw (same_lines other n (λ m l. each m (omega arith)), each n (omega arith))

-- a number that stands at a member's place, as it is read back
pub held : {numbers : List ℤ} {n : ℕ} → Bounded numbers n 999999999999 → (m : ℕ) → m < n →
    to_z w64 (of_z w64 (get_or numbers m (pos 0))) ≡ get_or numbers m (pos 0)
held b m l = read_back (u_fits (b.small m l) tt)
