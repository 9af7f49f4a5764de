-- What was put is the explanation, whole.
use Rattle.rules.specs.Explanation.{explanation}
use Rattle.printing.specs.Shown.{HasShown}
use Rattle.printing.proofs.Showing.{count_within, whole_text}
use Rattle.explanation.proofs.ExplanationTextROOMLONGEST.put.Goals as goal

pub returns : goal.returns
returns c =
    let put : HasShown 165 (explanation c.args.input.now) c.args.room.now c.put_explanation.result c.put_explanation.new.out =
    record { count_is = c.put_explanation.ensures.count; out_is = c.put_explanation.ensures.out } in
    record { within = count_within put; are = whole_text put c.requires }
