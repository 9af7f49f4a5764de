-- Refused for want of room, or put whole.
use native.Mathlib.Omega.{arith}
use Rattle.std.proofs.Common.{rules}
use Rattle.rules.specs.Statement as Statement
use Rattle.rules.proofs.Stated.{statement_fits}
use Rattle.printing.proofs.Showing.{no_room, page_shown}
use Rattle.report.proofs.statement.put_statement.Goals as goal

-- return 0
pub returns-then-out-lt-LONGEST : goal.returns-then-out-lt-LONGEST
returns-then-out-lt-LONGEST c =
    let shown = no_room (Statement.statement c.args.file.now) (omega (arith, c.if-out-lt-LONGEST.true)) in
    record { count = shown.0; out = shown.1 }

-- page.at
pub returns : goal.returns
returns c =
    let shown = page_shown c.if-out-lt-LONGEST.false (statement_fits c.args.file.now (λ i. (c.type_inv.file i).fits)) c.new-page.ensures c.put_answered.ensures (search rules) in
    record { count = shown.0; out = shown.1 }
