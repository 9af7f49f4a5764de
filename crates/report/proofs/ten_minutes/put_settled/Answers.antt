-- The charges have room, so settling answers as the statement's rows do, and the statement is that of the answer.
use mathlib.Core.Path.{ap}
use native.Mathlib.Omega.{arith}
use Rattle.rules.specs.Refusals.{verdict_of}
use Rattle.tenminutes.proofs.Settled.{Settles}
use Rattle.printing.proofs.Pages.{adds_as, adds_within}
use Rattle.report.proofs.TenMinutes.{refused_sheet, accepted_sheet, printable}
use Rattle.report.proofs.ten_minutes.put_settled.Goals as goal
use Rattle.report.proofs.ten_minutes.put_settled.Goals.{After-settle}

settled : (c : goal.After-settle) → Settles c.args.file.now c.args.charges.now c.settle.result c.settle.new.charges
settled c = record { verdict_is = c.settle.ensures.verdict; charges_are = c.settle.ensures.charges }

pub put_accepted-requires : goal.put_accepted-requires
put_accepted-requires c =
    (printable c.requires.0 (settled (goal.at.put_accepted-requires c).After-settle) (ap verdict_of c.in-Ok.is), c.requires.1)

pub returns-in-Ok : goal.returns-in-Ok
returns-in-Ok c =
    adds_as (accepted_sheet c.requires.0 (settled (goal.at.returns-in-Ok c).After-settle) (ap verdict_of c.in-Ok.is)) c.put_accepted.ensures

pub returns-in-Err : goal.returns-in-Err
returns-in-Err c =
    let told = refused_sheet c.requires.0 (settled (goal.at.returns-in-Err c).After-settle) c.in-Err.refusal c.in-Err.is in
    adds_within _ (omega arith) (adds_as told c.put_refused.ensures)
