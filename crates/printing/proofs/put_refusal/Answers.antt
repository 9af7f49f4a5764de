-- Two counts and a line feed, one after the other.
use Rattle.rules.specs.Statement.{refused_line}
use Rattle.printing.proofs.Pages.{adds_on}
use Rattle.printing.proofs.put_refusal.Goals as goal

pub returns : goal.returns
unfolding refused_line
returns c = adds_on (adds_on (adds_on (adds_on c.text.ensures c.number.ensures) c.text-2.ensures) c.number-2.ensures) c.text-3.ensures
