-- What every line begins with, and a line feed.
use mathlib.Core.Path.{ap}
use Rattle.whole.proofs.Machine.{read_back}
use Rattle.rules.specs.Statement.{charge_line}
use Rattle.printing.specs.Charged.{charged}
use Rattle.printing.proofs.Pages.{adds_on, adds_as}
use Rattle.printing.proofs.put_charge.Goals as goal

pub returns : goal.returns
unfolding charge_line
returns c = adds_on (adds_as (ap (charged c.args.member) (read_back c.ranges.charge)) c.put_charged.ensures) c.text.ensures
