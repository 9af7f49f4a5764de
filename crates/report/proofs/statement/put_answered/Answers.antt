-- The statement is that of the answer.
use mathlib.Core.Path.{ap}
use native.Mathlib.Omega.{arith}
use Rattle.rules.specs.Refusals.{verdict_of}
use Rattle.printing.proofs.Pages.{adds_as, adds_within}
use Rattle.report.proofs.Settled.{refused_statement, accepted_statement}
use Rattle.report.proofs.statement.put_answered.Goals as goal

pub put_accepted-requires : goal.put_accepted-requires
put_accepted-requires c = (c.requires.0.printable (ap verdict_of c.in-Ok.is), c.requires.1)

pub returns-in-Ok : goal.returns-in-Ok
returns-in-Ok c = adds_as (accepted_statement c.requires.0 (ap verdict_of c.in-Ok.is)) c.put_accepted.ensures

pub returns-in-Err : goal.returns-in-Err
returns-in-Err c = adds_within _ (omega arith) (adds_as (refused_statement c.requires.0 c.in-Err.refusal c.in-Err.is) c.put_refused.ensures)
