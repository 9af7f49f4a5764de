-- `examine::words::ListHour::head` meets its contract: the list is the head.
use Rattle.std.proofs.Common.{sym}
use Rattle.examine.proofs.Listed.{said_head}
use Rattle.examine.proofs.words.ListHourHourWords.head.Goals as goal

pub returns-clause-says : goal.returns-clause-says
returns-clause-says g c w a b = sym (said_head _ _ _ w a b)
