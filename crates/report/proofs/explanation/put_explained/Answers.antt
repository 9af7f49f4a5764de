-- The text is that of the answer.
use mathlib.Core.Path.{◌∙◌, sym, ap}
use native.Mathlib.Omega.{arith}
use Rattle.rules.specs.Explanation.{explanation_of, worded}
use Rattle.printing.proofs.Pages.{adds_as, adds_within}
use Rattle.report.proofs.Worded.{worded_refused, worded_accepted}
use Rattle.report.proofs.explanation.put_explained.Goals as goal

pub returns-in-Ok : goal.returns-in-Ok
returns-in-Ok c =
    adds_as (worded_accepted c.in-Ok.told ∙ sym (ap (λ r. worded (explanation_of r)) c.in-Ok.is)) c.put_six_lines.ensures

pub returns-in-Err : goal.returns-in-Err
returns-in-Err c =
    let said = worded_refused c.in-Err.refusal ∙ sym (ap (λ r. worded (explanation_of r)) c.in-Err.is) in
    adds_within _ (omega arith) (adds_as said c.put_refused.ensures)
