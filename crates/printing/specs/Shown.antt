-- A text at the start of a caller's slice, whole or not at all.
use Rattle.std.specs.Prelude.{ℕ, ◌≡◌, cond, List, ◌++◌, length, drop, ltb}

-- the bytes put, and the slice afterwards
pub record Shown : Type 0 where
  pub count : ℕ
  pub out : List ℕ

-- whole, with what stands past it as it was; or nothing where the slice is shorter than the longest text that there can be
unfoldable pub shown : (longest : ℕ) (text out : List ℕ) → Shown
shown longest text out = cond (ltb (length out) longest)
    (record { count = 0; out = out })
    (record { count = length text; out = text ++ drop (length text) out })

-- what was answered and left behind is what `shown` says
pub record HasShown (longest : ℕ) (text out : List ℕ) (count : ℕ) (after : List ℕ) : Type 0 where
  pub count_is : count ≡ (shown longest text out).count
  pub out_is : after ≡ (shown longest text out).out
