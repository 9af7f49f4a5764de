-- `report::written::put_input` meets its contract: the words of the input, and then what the writer makes of them.
use Rattle.printing.proofs.Putting.{put_as}
use Rattle.report.proofs.Input.{by_words}
use Rattle.report.proofs.written.put_input.Goals as goal

pub put_hour-requires : goal.put_hour-requires
put_hour-requires c = ((by_words c.args.input.now c.requires.0 c.requires.1 c.put_words.ensures).0, c.requires.2)

-- put_hour(words, out)
pub returns : goal.returns
returns c = put_as (by_words c.args.input.now c.requires.0 c.requires.1 c.put_words.ensures).1 c.put_hour.ensures
