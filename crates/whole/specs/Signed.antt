-- Signed whole numbers: the larger and the smaller of two, a size with a number's sign, and ranges.
use Rattle.std.specs.Prelude.{ℕ, ◌≤◌, cond, ℤ, pos, negsuc, neg_ℤ, nat_abs, ◌≤ℤ◌}
use Rattle.std.specs.Int.Signed.{le_z}

unfoldable pub min_ℤ : ℤ → ℤ → ℤ
min_ℤ a b = cond (le_z a b) a b

unfoldable pub max_ℤ : ℤ → ℤ → ℤ
max_ℤ a b = cond (le_z a b) b a

abbrev pub with_sign_of : ℤ → ℕ → ℤ
with_sign_of (pos u) size = pos size
with_sign_of (negsuc u) size = neg_ℤ (pos size)

-- -k ≤ z ≤ k. A record, so that the number and the bound can be read off a hypothesis
pub record Under (z : ℤ) (k : ℕ) : Type 0 where
  pub under : nat_abs z ≤ k

-- 0 ≤ z ≤ k
pub record Upto (z : ℤ) (k : ℕ) : Type 0 where
  pub low : pos 0 ≤ℤ z
  pub high : z ≤ℤ pos k
