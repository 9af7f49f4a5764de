-- `explain::explain` meets its contract: refused as settling refuses, or explained by what it left.
use Rattle.std.proofs.lemmas.Result.{err_from_is_err_and}
use Rattle.explain.proofs.Answers.{refused_alike, settled}
use Rattle.explain.proofs.explain.Goals as goal

pub returns-in_err-settle_unlined : goal.returns-in_err-settle_unlined
returns-in_err-settle_unlined c =
    let p = err_from_is_err_and c.from_residual.result c.from_residual.ensures.1 in
    rw (p.1, p.2) (refused_alike c.args.file.now c.args.member c.settle_unlined.ensures c.in_err-settle_unlined.was)

pub explain_settled-requires : goal.explain_settled-requires
explain_settled-requires c = settled c.settle_unlined.ensures c.in_ok-settle_unlined.was
