-- Three counts and a line feed, one after the other.
use Rattle.rules.specs.Statement.{first_line}
use Rattle.printing.proofs.Pages.{adds_on}
use Rattle.printing.proofs.put_first_line.Goals as goal

pub returns : goal.returns
unfolding first_line
returns c =
    let hour = adds_on c.text.ensures c.number.ensures in
    let members = adds_on (adds_on hour c.text-2.ensures) c.number-2.ensures in
    let records = adds_on (adds_on members c.text-3.ensures) c.number-3.ensures in
    adds_on records c.text-4.ensures
