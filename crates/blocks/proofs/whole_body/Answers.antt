-- `blocks::whole_body` meets its contract: 480 bytes lie between the two ends.
use Rattle.std.proofs.Common.{◌≡◌, ◌+◌, ◌-◌, ◌*◌, arith}
use Rattle.blocks.proofs.whole_body.Goals as goal

pub returns : goal.returns
returns c = let gap : 512 * c.args.b + 512 - (512 * c.args.b + 32) ≡ 480 = omega arith in rw gap
