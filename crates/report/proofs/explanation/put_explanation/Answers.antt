-- Refused for want of room, or put whole.
use native.Mathlib.Omega.{arith}
use Rattle.std.proofs.Common.{rules}
use Rattle.rules.specs.Explanation as Explanation
use Rattle.rules.proofs.Worded.{explanation_fits}
use Rattle.printing.proofs.Showing.{no_room, page_shown}
use Rattle.report.proofs.explanation.put_explanation.Goals as goal

-- return 0
pub returns-then-out-lt-LONGEST : goal.returns-then-out-lt-LONGEST
returns-then-out-lt-LONGEST c =
    let shown = no_room (Explanation.explanation c.args.input.now) (omega (arith, c.if-out-lt-LONGEST.true)) in
    record { count = shown.0; out = shown.1 }

-- page.at
pub returns : goal.returns
returns c =
    let shown = page_shown c.if-out-lt-LONGEST.false (explanation_fits c.args.input.now) c.new-page.ensures c.put_asked.ensures (search rules) in
    record { count = shown.0; out = shown.1 }
