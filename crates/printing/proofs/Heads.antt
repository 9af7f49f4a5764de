-- How many bytes the lines of the first heads have at most.
use Prim.Native.Nat.{ℕ, zero, suc, ◌+◌, ◌≤◌, ◌<◌}
use native.Mathlib.Omega.{arith}
use lib.ListN.{length}
use Rattle.rules.specs.Explanation.{head_name}

abbrev pub heads_room : ℕ → ℕ
heads_room zero = 0
heads_room (suc n) = heads_room n + (length (head_name n) + 23)

pub head_fits : (n : ℕ) → n < 5 → heads_room n + (length (head_name n) + 23) ≤ 146
head_fits zero l = omega arith
head_fits (suc zero) l = omega arith
head_fits (suc (suc zero)) l = omega arith
head_fits (suc (suc (suc zero))) l = omega arith
head_fits (suc (suc (suc (suc zero)))) l = omega arith
head_fits (suc (suc (suc (suc (suc n))))) l = absurd (omega arith)
