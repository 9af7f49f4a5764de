-- An empty body stands nowhere; any other begins after the 32 bytes that begin its block.
use Prim.Native.Nat.{◌+◌, ◌*◌, ◌<◌}
use mathlib.Core.Path.{◌≡◌, ap}
use native.Mathlib.Omega.{arith}
use lib.ListN.{length}
use Rattle.rules.specs.HourFile.{blocks}
use Rattle.sneupelaar.specs.HandedOut.{body_part}
use Rattle.sneupelaar.proofs.HandedOut.{handed_out, none_there, one_there}
use Rattle.sneupelaar.proofs.sneupelaar_body.Goals as goal
use Rattle.sneupelaar.proofs.sneupelaar_body.Goals.{Else-length-eq0}

-- return Part { from: 0, length: 0 }
pub returns-then-length-eq0-clause-part : goal.returns-then-length-eq0-clause-part
returns-then-length-eq0-clause-part c =
    (handed_out c.args.file.now c.args.block
    (none_there c.args.file.now c.args.block (ap length c.body-length.ensures) c.if-length-eq0.true)).0

-- a body that isn't empty
module _ (c : goal.Else-length-eq0) where
  found : (body_part c.args.file.now c.args.block ≡ record { from = 512 * c.args.block + 32; length = length c.body-length.result.now })
      × (c.args.block < blocks c.args.file.now)
  found = one_there c.args.file.now c.args.block (ap length c.body-length.ensures) c.if-length-eq0.false

-- 512 * block
pub overflow_mul-result : goal.overflow_mul-result
unfolding blocks
overflow_mul-result c = omega (arith, (found c).1)

-- 512 * block + 32
pub overflow_add-result : goal.overflow_add-result
unfolding blocks
overflow_add-result c = omega (arith, (found (goal.at.overflow_add-result c).Else-length-eq0).1)

-- Part { from: 512 * block + 32, length: length }
pub returns-clause-part : goal.returns-clause-part
returns-clause-part c =
    let e = (goal.at.returns-clause-part c).Else-length-eq0 in (handed_out c.args.file.now c.args.block (found e).0).0

pub returns-clause-bytes : goal.returns-clause-bytes
returns-clause-bytes c =
    let e = (goal.at.returns-clause-bytes c).Else-length-eq0 in (handed_out c.args.file.now c.args.block (found e).0).1
