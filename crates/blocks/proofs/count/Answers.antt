-- `blocks::count` meets its contract: by the definition.
use Rattle.std.proofs.Common.{refl}
use Rattle.rules.specs.HourFile.{blocks}
use Rattle.blocks.proofs.count.Goals as goal

pub returns : goal.returns
unfolding blocks
returns c = refl
