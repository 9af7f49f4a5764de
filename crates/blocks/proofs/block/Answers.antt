-- `blocks::block` meets its contract: 512 bytes lie between the two ends.
use Rattle.std.proofs.Common.{◌≡◌, ◌+◌, ◌-◌, ◌*◌, arith}
use Rattle.blocks.proofs.block.Goals as goal

pub returns : goal.returns
returns c = let gap : 512 * c.args.b + 512 - 512 * c.args.b ≡ 512 = omega arith in rw gap
