-- The name, a blank, the grains and a line feed, one after the other.
use mathlib.Core.Path.{ap}
use native.Mathlib.Omega.{arith}
use Rattle.whole.proofs.Machine.{read_back}
use Rattle.rules.specs.Explanation.{signed_decimal, head_line}
use Rattle.printing.proofs.Pages.{adds_on, adds_as, adds_within}
use Rattle.printing.proofs.explanation.put_head.Goals as goal

pub returns : goal.returns
unfolding head_line
returns c =
    let name = adds_on c.put_head_name.ensures c.text.ensures in
    let grains = adds_on name (adds_as (ap signed_decimal (read_back c.ranges.grains)) c.signed.ensures) in
    adds_within _ (omega arith) (adds_on grains c.text-2.ensures)
