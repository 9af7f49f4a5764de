-- A word of 32 bits as a number of 64.
use mathlib.Core.Path.{◌≡◌, ◌∙◌, ap}
use Prim.Native.Nat.{ℕ, ◌<◌}
use native.Mathlib.Omega.{arith}
use lib.IntN.{pos}
use mir.Syntax.{w64}
use mir.Val.{to_z}
use Rattle.whole.proofs.Machine.{i64_is}

pub word_is : {w v : ℕ} → w < 0x1_0000_0000 → w ≡ v → to_z w64 w ≡ pos v
word_is {w} few e = i64_is {n = w} (omega arith) ∙ ap pos e
