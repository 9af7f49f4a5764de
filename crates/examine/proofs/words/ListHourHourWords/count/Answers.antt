-- `examine::words::ListHour::count` meets its contract.
use Rattle.std.proofs.Common.{sym}
use Rattle.examine.proofs.Listed.{said_count}
use Rattle.examine.proofs.words.ListHourHourWords.count.Goals as goal

pub returns : goal.returns
returns g c = rw c.layout.ensures (sym (said_count _ _ _))
