-- Every buffer has room, so settling answers as the statement's rows do.
use borrow.Author.Rules.{rules}
use mathlib.Core.Path.{◌≡◌, ◌∙◌, sym, ap}
use Rattle.std.specs.Prelude.{Err}
use Rattle.rules.specs.Refusals.{verdict_of}
use Rattle.report.specs.Stated.{Answered}
use Rattle.report.proofs.Settled.{answered, answered_alike}
use Rattle.report.proofs.statement.settle_amounts.Goals as goal
use Rattle.report.proofs.statement.settle_amounts.Goals.{After-settle_unlined}

settled : (c : goal.After-settle_unlined) → Answered c.args.file.now c.settle_unlined.result c.settle_unlined.new.charges c.settle_unlined.new.finals
settled c = answered (record {
  charges_room = c.requires.0;
  finals_room = c.requires.1;
  shares_room = search rules;
  deviations_room = search rules;
}) c.settle_unlined.ensures

pub returns : goal.returns
returns c = answered_alike (sym (ap verdict_of c.in_ok-settle_unlined.was)) (settled (goal.at.returns c).After-settle_unlined)

pub returns-in_err-settle_unlined : goal.returns-in_err-settle_unlined
returns-in_err-settle_unlined c =
    let same : c.from_residual.result ≡ Err c.in_err-settle_unlined.field-0.0 = search rules in
    answered_alike (ap verdict_of same ∙ sym (ap verdict_of c.in_err-settle_unlined.was)) (settled (goal.at.returns-in_err-settle_unlined c).After-settle_unlined)
