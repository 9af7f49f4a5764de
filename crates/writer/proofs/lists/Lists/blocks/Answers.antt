-- `writer::lists::Lists::blocks` meets its contract: the definition's count, of the records that the list has.
use Rattle.std.proofs.Common.{arith}
use Rattle.examine.proofs.Listed.{said_count}
use Rattle.rules.specs.HourFile.{hourly}
use Rattle.writer.proofs.Said.{block_count}
use Rattle.writer.proofs.lists.Lists.blocks.Goals as goal

pub returns : goal.returns
returns c =
    let lists = c.args.self.now in
    omega (arith, block_count lists.head.now lists.records.now, lists.whole.records_whole, said_count hourly lists.head.now lists.records.now)
