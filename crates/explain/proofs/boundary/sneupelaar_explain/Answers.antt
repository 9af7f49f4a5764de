-- `explain::boundary::sneupelaar_explain` meets its contract: a head that decided is one of the five.
use mathlib.Core.Path.{sym, ◌∙◌, ap}
use Rattle.rules.specs.Explanation.{Explanation, explanation_of}
use Rattle.rules.proofs.Explaining.{one_of_five}
use Rattle.explain.proofs.boundary.sneupelaar_explain.Goals as goal

pub head_number-requires : goal.head_number-requires
head_number-requires c = λ k e. one_of_five c.args.file.now c.args.member k
    (sym (ap (λ (r : Explanation). r.decided) (sym (ap explanation_of c.in-Ok.is) ∙ c.explain.ensures)) ∙ e)
