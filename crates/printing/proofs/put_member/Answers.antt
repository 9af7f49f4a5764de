-- What every line begins with, a blank, the final amount, a line feed.
use mathlib.Core.Path.{ap}
use Rattle.whole.proofs.Machine.{read_back}
use Rattle.rules.specs.Statement.{column, member_line}
use Rattle.printing.specs.Charged.{charged}
use Rattle.printing.proofs.Pages.{adds_on, adds_as}
use Rattle.printing.proofs.put_member.Goals as goal

pub returns : goal.returns
unfolding member_line
returns c =
    let front = adds_as (ap (charged c.args.member) (read_back c.ranges.charge)) c.put_charged.ensures in
    let both = adds_on (adds_on front c.text.ensures) (adds_as (ap column (read_back c.ranges.final_amount)) c.column.ensures) in
    adds_on both c.text-2.ensures
