-- The word, the name and a line feed, one after the other.
use Rattle.rules.specs.Explanation.{decided_line}
use Rattle.printing.proofs.Pages.{adds_on}
use Rattle.printing.proofs.explanation.put_decided.Goals as goal

pub returns : goal.returns
unfolding decided_line
returns c = adds_on (adds_on c.text.ensures c.put_decided_name.ensures) c.text-2.ensures
